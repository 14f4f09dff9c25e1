-- The notes of a day stand side by side, from a first one on.
use Rattle.std.specs.Prelude.{◌≡◌, ◌<◌, ℕ, true, false, List, [], ◌∷◌, Option, None, Some}
use Rattle.std.proofs.Common.{ap, subst, sym, refl, ◌∙◌, arith}
use Rattle.std.specs.Cmp.{IsTotalOrder, tied_itself, then_total, on_total, nat_cmp_total, ranks}
use Rattle.std.specs.Cmp.Lexicographic.{slice_cmp, nat_list_cmp_total}
use Rattle.std.specs.FinSet.{IsAntisymmetric, nat_cmp-IsAntisymmetric, slice_cmp-IsAntisymmetric}
use Rattle.std.specs.Option.{option_cmp}
use Rattle.std.specs.Ordering.{is_gt, is_le, nat_cmp, ordering_reverse, ordering_then, MatchOrdering}
use Rattle.std.specs.declared.cmp.Ordering.{Ordering}
use Rattle.std.specs.declared.cmp.Ordering.TheVariants.{Less, Equal, Greater}
use Rattle.mds_names.specs.declared.stream.Stream.{Stream}
use Rattle.mds_terms.specs.Event.{EventValue, event_cmp}
use Rattle.mds_world.specs.World.{IsEventOf}
use Rattle.mds_memory.specs.StoredNotes.{IsEventNoteOf, IsHolidayNote, first_of_day}
use Rattle.mds_memory.specs.declared.stored_notes.Note.{Note}
use Rattle.mds_memory.specs.declared.stored_notes.Note.TheVariants.{Event, Holiday}
use Rattle.mds_memory.proofs.NoteOrder.{note_cmp, tie}

-- what is neither before nor after is the same
pub between : {K : Type 0} {R : K → K → Ordering} → IsTotalOrder R → IsAntisymmetric R → (x y : K)
    → is_gt (R x y) ≡ false → is_gt (R y x) ≡ false → x ≡ y
between {K} {R} total exact x y f g = exact x y (by (R x y) (R y x) (total.antisymm x y) f g)
  where
    by : (a b : Ordering) → a ≡ ordering_reverse b → is_gt a ≡ false → is_gt b ≡ false → a ≡ Equal
    by Less Less e f g = cc
    by Less Equal e f g = cc
    by Less Greater e f g = cc
    by Equal b e f g = refl
    by Greater b e f g = cc

pub le_not_gt : (r : Ordering) → is_le r ≡ true → is_gt r ≡ false
le_not_gt Less e = refl
le_not_gt Equal e = refl
le_not_gt Greater e = cc

pub less_not_gt : (r : Ordering) → r ≡ Less → is_gt r ≡ false
less_not_gt r e = ap is_gt e

pub first_not_gt : (a b : Ordering) → is_gt (ordering_then a b) ≡ false → is_gt a ≡ false
first_not_gt Less b e = refl
first_not_gt Equal b e = refl
first_not_gt Greater b e = e

pub le_then : (a b : Ordering) → is_le a ≡ true → is_le b ≡ true → is_le (ordering_then a b) ≡ true
le_then Less b f g = refl
le_then Equal b f g = g
le_then Greater b f g = f

pub tied_le : (r : Ordering) → r ≡ Equal → is_le r ≡ true
tied_le r e = ap is_le e

pub zero_least : (n : ℕ) → is_le (nat_cmp 0 n) ≡ true
zero_least n = by (nat_cmp 0 n) (ranks 0 n)
  where
    by : (r : Ordering) → MatchOrdering r (0 < n) (0 ≡ n) (n < 0) → is_le r ≡ true
    by Less m = refl
    by Equal m = refl
    by Greater m = absurd (omega arith)

pub empty_least : (xs : List ℕ) → is_le (slice_cmp nat_cmp [] xs) ≡ true
empty_least [] = refl
empty_least (x ∷ xs) = refl

pub none_least : (n : Option ℕ) → is_le (option_cmp nat_cmp None n) ≡ true
none_least None = refl
none_least (Some n) = refl

-- the stream and the day of an event
abbrev DayKey : Type 0
DayKey = List ℕ × (List ℕ × ℕ)

abbrev key : EventValue → DayKey
key e = (e.nmi, (e.suffix, e.day))

abbrev key_cmp : DayKey → DayKey → Ordering
key_cmp a b =
    ordering_then (slice_cmp nat_cmp a.0 b.0) (ordering_then (slice_cmp nat_cmp a.1.0 b.1.0) (nat_cmp a.1.1 b.1.1))

key_total : IsTotalOrder key_cmp
key_total =
    then_total (on_total (λ k. k.0) nat_list_cmp_total)
    (then_total (on_total (λ k. k.1.0) nat_list_cmp_total) (on_total (λ k. k.1.1) nat_cmp_total))

key_exact : IsAntisymmetric key_cmp
key_exact x y e =
    let t = tie (slice_cmp nat_cmp x.0 y.0) _ e in
    let u = tie (slice_cmp nat_cmp x.1.0 y.1.0) _ t.1 in
    let nmi : x.0 ≡ y.0 = slice_cmp-IsAntisymmetric nat_cmp-IsAntisymmetric _ _ t.0 in
    let suffix : x.1.0 ≡ y.1.0 = slice_cmp-IsAntisymmetric nat_cmp-IsAntisymmetric _ _ u.0 in
    let day : x.1.1 ≡ y.1.1 = nat_cmp-IsAntisymmetric _ _ u.1 in
    (λ i. (nmi i, (suffix i, day i)))

three_not_gt : (a b c d : Ordering) → is_gt (ordering_then a (ordering_then b (ordering_then c d))) ≡ false
    → is_gt (ordering_then a (ordering_then b c)) ≡ false
three_not_gt Less b c d e = refl
three_not_gt Equal Less c d e = refl
three_not_gt Equal Equal c d e = first_not_gt c d e
three_not_gt Equal Greater c d e = e
three_not_gt Greater b c d e = e

key_not_gt : (a b : EventValue) → is_gt (event_cmp a b) ≡ false → is_gt (key_cmp (key a) (key b)) ≡ false
unfolding event_cmp
key_not_gt a b e =
    three_not_gt (slice_cmp nat_cmp a.nmi b.nmi) (slice_cmp nat_cmp a.suffix b.suffix) (nat_cmp a.day b.day) _ e

least_of_day : (stream : Stream) (day : ℕ) (e : EventValue) → IsEventOf stream day e
    → is_le (event_cmp (first_of_day stream day) e) ≡ true
unfolding event_cmp
least_of_day stream day e h =
    le_then (slice_cmp nat_cmp stream.nmi e.nmi) _
    (tied_le _ (ap (slice_cmp nat_cmp stream.nmi) h.0 ∙ tied_itself nat_list_cmp_total stream.nmi))
    (le_then (slice_cmp nat_cmp stream.suffix e.suffix) _
    (tied_le _ (ap (slice_cmp nat_cmp stream.suffix) h.1 ∙ tied_itself nat_list_cmp_total stream.suffix))
    (le_then (nat_cmp day e.day) _ (tied_le _ (ap (nat_cmp day) h.2 ∙ tied_itself nat_cmp_total day))
    (le_then (option_cmp nat_cmp None e.trans) _ (none_least e.trans)
    (le_then (slice_cmp nat_cmp [] e.ticket) _ (empty_least e.ticket)
    (le_then (option_cmp nat_cmp None e.moment) _ (none_least e.moment) (empty_least e.reading))))))

pub events_from : (stream : Stream) (day : ℕ) (q : Note) → IsEventNoteOf stream day q
    → is_le (note_cmp (Event (first_of_day stream day)) q) ≡ true
events_from stream day q h =
    subst (λ n. is_le (note_cmp (Event (first_of_day stream day)) n) ≡ true) (sym h.1) (least_of_day stream day h.0 h.2)

pub events_within : (stream : Stream) (day : ℕ) (x q : Note) → is_le (note_cmp (Event (first_of_day stream day)) x) ≡ true
    → note_cmp x q ≡ Less → IsEventNoteOf stream day q → IsEventNoteOf stream day x
events_within stream day (Holiday date) q l b h =
    let wrong : note_cmp (Holiday date) (Event h.0) ≡ Less = subst (λ n. note_cmp (Holiday date) n ≡ Less) h.1 b in
    cc
events_within stream day (Event e) q l b h =
    let below : event_cmp e h.0 ≡ Less = subst (λ n. note_cmp (Event e) n ≡ Less) h.1 b in
    let whole : key h.0 ≡ (stream.nmi, (stream.suffix, day)) = (λ i. (h.2.0 i, (h.2.1 i, h.2.2 i))) in
    let up : is_gt (key_cmp (key e) (stream.nmi, (stream.suffix, day))) ≡ false =
    subst (λ k. is_gt (key_cmp (key e) k) ≡ false) whole (key_not_gt e h.0 (less_not_gt _ below)) in
    let down : is_gt (key_cmp (stream.nmi, (stream.suffix, day)) (key e)) ≡ false =
    key_not_gt (first_of_day stream day) e (le_not_gt _ l) in
    let same : key e ≡ (stream.nmi, (stream.suffix, day)) = between key_total key_exact _ _ up down in
    (e, refl, ((λ i. (same i).0), (λ i. (same i).1.0), (λ i. (same i).1.1)))

-- ---- holidays

pub holidays_from : (q : Note) → IsHolidayNote q → is_le (note_cmp (Holiday 0) q) ≡ true
holidays_from q h = subst (λ n. is_le (note_cmp (Holiday 0) n) ≡ true) (sym h.1) (zero_least h.0)

pub holidays_within : (x q : Note) → is_le (note_cmp (Holiday 0) x) ≡ true → note_cmp x q ≡ Less → IsHolidayNote q
    → IsHolidayNote x
holidays_within (Event e) q l b h = cc l
holidays_within (Holiday day) q l b h = (day, refl)
