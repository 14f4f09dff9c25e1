-- What a run through the notes from a first one on has found.
use Rattle.std.specs.Prelude.{◌≡◌, ◌<◌, ℕ, true, List, [], ◌∷◌, ◌++◌, map}
use Rattle.std.proofs.Common.{ap, subst, sym, refl, inl, inr, ◌∙◌}
use Rattle.std.specs.BTreeMap.Range.{range_contains}
use Rattle.std.specs.BTreeSet.{BTreeSet, IsOrdered, keys_between}
use Rattle.std.specs.Cmp.{ranks, tied_itself}
use Rattle.std.specs.Ordering.{MatchOrdering, is_le, nat_cmp}
use Rattle.std.specs.declared.cmp.Ordering.TheVariants.{Less}
use Rattle.std.specs.declared.ops.Bound.TheVariants.{Included, Unbounded}
use Rattle.mds_names.specs.declared.stream.Stream.{Stream}
use Rattle.mds_terms.specs.Event.{EventValue}
use Rattle.mds_world.proofs.Lists.{append_left, in_map, map_in, member_append}
use Rattle.mds_world.specs.Lists.{Apart, Member}
use Rattle.mds_world.proofs.Sets.{both_and, split_and}
use Rattle.mds_world.specs.World.{IsEventOf}
use Rattle.mds_keeper.specs.Queries.{AreEventsOf, AreHolidays}
use Rattle.mds_memory.specs.Stored.{notes_world}
use Rattle.mds_memory.specs.StoredNotes.{IsEventNoteOf, IsHolidayNote, first_of_day}
use Rattle.mds_memory.specs.declared.stored_notes.Note.{Note}
use Rattle.mds_memory.specs.declared.stored_notes.Note.TheVariants.{Event, Holiday}
use Rattle.mds_memory.proofs.Ascending as up
use Rattle.mds_memory.proofs.Ascending.{Ascends}
use Rattle.mds_memory.proofs.FirstNotes.{events_from, events_within, holidays_from, holidays_within}
use Rattle.mds_memory.proofs.NoteOrder.{note_cmp, total}
use Rattle.mds_memory.proofs.Notes.{in_notes, notes_in}
use Rattle.mds_memory.proofs.Runs as runs
use Rattle.mds_memory.proofs.Runs.{HasStopped, across_push}

-- the notes from one on
abbrev pub from : BTreeSet Note → Note → List Note
from notes first = keys_between note_cmp (Included first) Unbounded notes

from_in : (notes : BTreeSet Note) (first q : Note) → Member q (from notes first) → Member q notes.keys
from_in notes first q m = (up.in_filter (range_contains note_cmp (Included first) Unbounded) notes.keys q m).0

from_first : (notes : BTreeSet Note) (first q : Note) → Member q (from notes first) → is_le (note_cmp first q) ≡ true
from_first notes first q m =
    (split_and _ _ (up.in_filter (range_contains note_cmp (Included first) Unbounded) notes.keys q m).1).0

in_from : (notes : BTreeSet Note) (first q : Note) → Member q notes.keys → is_le (note_cmp first q) ≡ true
    → Member q (from notes first)
in_from notes first q m l =
    up.filter_in (range_contains note_cmp (Included first) Unbounded) notes.keys q m (both_and _ _ l refl)

ascending : (notes : BTreeSet Note) (first : Note) → IsOrdered note_cmp notes → Ascends note_cmp (from notes first)
ascending notes first o =
    up.filtered (range_contains note_cmp (Included first) Unbounded) note_cmp notes.keys
    (up.from_sorted note_cmp notes.keys o)

-- a run that stops at the end, or at the first that isn't of the kind, has gone through all of the kind
all_found : (P : Note → Type 0) (notes : BTreeSet Note) (first : Note) (seen left : List Note)
    → IsOrdered note_cmp notes → seen ++ left ≡ from notes first → HasStopped P left
    → ((x q : Note) → is_le (note_cmp first x) ≡ true → note_cmp x q ≡ Less → P q → P x)
    → ((q : Note) → P q → is_le (note_cmp first q) ≡ true)
    → (q : Note) → Member q notes.keys → P q → Member q seen
all_found P notes first seen left o e stop within least q m h =
    runs.all_found note_cmp P (from notes first) seen left (ascending notes first o) e stop
    (λ x y n. within x y (from_first notes first x n)) q (in_from notes first q m (least q h)) h

-- ---- the events of a day

pub record AreSoFar (notes : BTreeSet Note) (stream : Stream) (day : ℕ) (events : List EventValue) (left : List Note) : Type 0 where
  pub run : map Event events ++ left ≡ from notes (Event (first_of_day stream day))
  pub of_day : (e : EventValue) → Member e events → IsEventOf stream day e

not_before_itself : (n : Note) → note_cmp n n ≡ Less → ⊥
not_before_itself n e = cc (tied_itself total n)

apart_of : (es : List EventValue) → Apart (map Event es) → Apart es
apart_of [] a = tt
apart_of (e ∷ es) a = ((λ m. a.0 (map_in Event es e m)), apart_of es a.1)

pub events_done : (notes : BTreeSet Note) (stream : Stream) (day : ℕ) (events : List EventValue) (left : List Note)
    → IsOrdered note_cmp notes → AreSoFar notes stream day events left → HasStopped (IsEventNoteOf stream day) left
    → AreEventsOf (notes_world notes) stream day events
events_done notes stream day events left o so stop =
    let first = Event (first_of_day stream day) in
    record {
      each = λ e. (
        (λ m. (
          notes_in notes (Event e)
              (from_in notes first (Event e)
              (subst (Member (Event e)) so.run (append_left (Event e) (map Event events) left (map_in Event events e m)))),
          so.of_day e m,
        )),
        (λ h.
            let m = all_found (IsEventNoteOf stream day) notes first (map Event events) left o so.run stop
            (events_within stream day) (events_from stream day) (Event e) (in_notes notes (Event e) h.0) (e, refl, h.1) in
            let r = in_map Event events (Event e) m in
            let same : e ≡ r.0 = cc r.2 in
            subst (λ k. Member k events) (sym same) r.1),
      );
      apart = apart_of events (up.apart note_cmp not_before_itself (map Event events)
          (up.front note_cmp (map Event events) left (subst (Ascends note_cmp) (sym so.run) (ascending notes first o))));
    }

map_push : (es : List EventValue) (e : EventValue) (left : List Note)
    → map Event (es ++ e ∷ []) ++ left ≡ map Event es ++ Event e ∷ left
map_push [] e left = refl
map_push (x ∷ es) e left = ap (λ ns. Event x ∷ ns) (map_push es e left)

pub one_event : (notes : BTreeSet Note) (stream : Stream) (day : ℕ) (old new : List EventValue) (left rest : List Note)
    (note : Note) (event copy : EventValue) → AreSoFar notes stream day old left → left ≡ note ∷ rest
    → note ≡ Event event → IsEventOf stream day event → copy ≡ event → new ≡ old ++ copy ∷ []
    → AreSoFar notes stream day new rest
one_event notes stream day old new left rest note event copy so next is of same push =
    let whole : new ≡ old ++ event ∷ [] = push ∙ ap (λ e. old ++ e ∷ []) same in
    record {
      run =
          ap (λ es. map Event es ++ rest) whole ∙ map_push old event rest
          ∙ ap (λ n. map Event old ++ n ∷ rest) (sym is) ∙ ap (λ ns. map Event old ++ ns) (sym next) ∙ so.run;
      of_day = λ e m. elim (member_append e old (event ∷ []) (subst (Member e) whole m)) [
        | inl n ↦ so.of_day e n
        | inr n ↦ elim n [ inl i ↦ subst (IsEventOf stream day) (sym i) of | inr z ↦ absurd z ]
      ];
    }

pub events_begin : (notes : BTreeSet Note) (stream : Stream) (day : ℕ) (events : List EventValue) (first : Note)
    (left : List Note) → events ≡ [] → first ≡ Event (first_of_day stream day) → left ≡ from notes first
    → AreSoFar notes stream day events left
events_begin notes stream day events first left none is all = record {
  run = ap (λ es. map Event es ++ left) none ∙ all ∙ ap (from notes) is;
  of_day = λ e m. absurd (subst (Member e) none m);
}

-- ---- the holidays

abbrev pub AreHolidaysSoFar : BTreeSet Note → List ℕ → List Note → Type 0
AreHolidaysSoFar notes days left = map Holiday days ++ left ≡ from notes (Holiday 0)

pub holidays_begin : (notes : BTreeSet Note) (days : List ℕ) (first : Note) (left : List Note) → days ≡ []
    → first ≡ Holiday 0 → left ≡ from notes first → AreHolidaysSoFar notes days left
holidays_begin notes days first left none is all = ap (λ ds. map Holiday ds ++ left) none ∙ all ∙ ap (from notes) is

holiday_push : (ds : List ℕ) (day : ℕ) (left : List Note)
    → map Holiday (ds ++ day ∷ []) ++ left ≡ map Holiday ds ++ Holiday day ∷ left
holiday_push [] day left = refl
holiday_push (d ∷ ds) day left = ap (λ ns. Holiday d ∷ ns) (holiday_push ds day left)

pub one_holiday : (notes : BTreeSet Note) (old new : List ℕ) (left rest : List Note) (note : Note) (day : ℕ)
    → AreHolidaysSoFar notes old left → left ≡ note ∷ rest → note ≡ Holiday day → new ≡ old ++ day ∷ []
    → AreHolidaysSoFar notes new rest
one_holiday notes old new left rest note day so next is push =
    ap (λ ds. map Holiday ds ++ rest) push ∙ holiday_push old day rest
    ∙ ap (λ n. map Holiday old ++ n ∷ rest) (sym is) ∙ ap (λ ns. map Holiday old ++ ns) (sym next) ∙ so

below : (a b : ℕ) → nat_cmp a b ≡ Less → a < b
below a b e = subst (λ r. MatchOrdering r (a < b) (a ≡ b) (b < a)) e (ranks a b)

days_ascend : (ds : List ℕ) → Ascends note_cmp (map Holiday ds) → Ascends nat_cmp ds
days_ascend [] a = tt
days_ascend (d ∷ ds) a = ((λ q m. a.0 (Holiday q) (map_in Holiday ds q m)), days_ascend ds a.1)

one_day : (a b : ℕ) → Holiday a ≡ Holiday b → a ≡ b
one_day a b e = cc

pub holidays_done : (notes : BTreeSet Note) (days : List ℕ) (left : List Note) → IsOrdered note_cmp notes
    → AreHolidaysSoFar notes days left → HasStopped IsHolidayNote left → AreHolidays (notes_world notes) days
holidays_done notes days left o so stop = record {
  each = λ d. (
    (λ m.
        notes_in notes (Holiday d) (from_in notes (Holiday 0) (Holiday d)
        (subst (Member (Holiday d)) so (append_left (Holiday d) (map Holiday days) left (map_in Holiday days d m))))),
    (λ h.
        let m = all_found IsHolidayNote notes (Holiday 0) (map Holiday days) left o so stop holidays_within holidays_from
        (Holiday d) (in_notes notes (Holiday d) h) (d, refl) in
        let r = in_map Holiday days (Holiday d) m in
        subst (λ k. Member k days) (sym (one_day d r.0 r.2)) r.1),
  );
  ascending = λ i j d l m. below _ _ (up.pairs nat_cmp days (days_ascend days
      (up.front note_cmp (map Holiday days) left (subst (Ascends note_cmp) (sym so) (ascending notes (Holiday 0) o)))) i j d l m);
}
