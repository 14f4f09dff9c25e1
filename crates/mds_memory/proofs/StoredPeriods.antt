-- Accumulations that are kept, as a World.
use Rattle.std.proofs.Common.{◌≡◌, ◌+◌, ◌<◌, ℕ, true, false, List, [], ◌∷◌, length, map, take, slice_index_or, Option, Some, None, refl, sym, ap, ◌∙◌, subst, inl, inr}
use Rattle.std.specs.Prelude.{◌⊎◌}
use Rattle.std.specs.BTreeMap.{BTreeMap, IsOrdered, insert_entry, is_at}
use Rattle.std.specs.BTreeMap.Range.{entries_between, range_contains}
use Rattle.std.specs.Cmp.{IsTotalOrder, tied_itself}
use Rattle.std.specs.Cmp.Lexicographic.{slice_cmp}
use Rattle.std.specs.FinSet as set
use Rattle.std.specs.FinSet.{nat_cmp-IsAntisymmetric, slice_cmp-IsAntisymmetric}
use Rattle.std.specs.List.{flat_map}
use Rattle.std.specs.List.Sorted.{IsStrictlySortedBy}
use Rattle.std.specs.Map.{keys_of, lookup}
use Rattle.std.specs.Ordering.{is_gt, is_le, nat_cmp, ordering_then}
use Rattle.std.specs.declared.cmp.Ordering.{Ordering}
use Rattle.std.specs.declared.cmp.Ordering.TheVariants.{Less, Equal}
use Rattle.std.specs.declared.ops.Bound.TheVariants.{Included, Unbounded}
use Rattle.mds_names.specs.declared.stream.Stream.{Stream}
use Rattle.mds_statements.specs.contracts.periods.PeriodKeyOrd.TheImpl.Laws as key_laws
use Rattle.mds_statements.specs.declared.periods.Period.{Period}
use Rattle.mds_statements.specs.declared.periods.PeriodKey.{PeriodKey}
use Rattle.mds_world.specs.Facts.{Fact, PeriodContent}
use Rattle.mds_world.specs.Facts.Fact.{PeriodIs}
use Rattle.mds_world.proofs.Lists.{append_left, flat_in, in_flat, in_map, map_in}
use Rattle.mds_world.specs.Lists.{Member}
use Rattle.mds_world.proofs.Members.{in_list, in_union, list_in, same_by, union_left, union_right}
use Rattle.mds_world.proofs.Sets.{both_and, split_and}
use Rattle.mds_world.specs.Sets.{◌∈◌}
use Rattle.mds_world.specs.World.{Agrees, World, union}
use Rattle.mds_keeper.specs.Content.{period_fact}
use Rattle.mds_keeper.specs.Queries.{ArePeriodsOf, IsContentOf, period_cmp, stream_cmp}
use Rattle.mds_memory.specs.Stored.{HasKeys, key_cmp, periods_world, place_facts}
use Rattle.mds_memory.specs.StoredPeriods.{first_key_of}
use Rattle.mds_memory.proofs.Ascending as up
use Rattle.mds_memory.proofs.Ascending.{Ascends}
use Rattle.mds_memory.proofs.Entries as entries
use Rattle.mds_memory.proofs.FirstNotes.{between, empty_least, first_not_gt, le_not_gt, le_then, less_not_gt, tied_le, zero_least}
use Rattle.mds_memory.proofs.NoteOrder.{tie}
use Rattle.mds_memory.proofs.Keys.{taken_more}
use Rattle.mds_memory.proofs.Places.{stream_exact, stream_total}
use Rattle.mds_memory.proofs.Runs as runs
use Rattle.mds_memory.proofs.Runs.{HasStopped, IsRun}

abbrev pub Periods : Type 0
Periods = BTreeMap PeriodKey (Option PeriodContent)

abbrev pub Place : Type 0
Place = PeriodKey × Option PeriodContent

pub key_total : IsTotalOrder key_cmp
key_total = key_laws.total-law

key_exact : (a b : PeriodKey) → key_cmp a b ≡ Equal → a ≡ b
key_exact a b e =
    let s = tie (stream_cmp a.stream b.stream) _ e in
    let r = tie (slice_cmp nat_cmp a.register b.register) _ s.1 in
    let t = tie (nat_cmp a.start b.start) _ r.1 in
    let f = tie (nat_cmp a.finish b.finish) _ t.1 in
    λ i. record {
      stream = stream_exact a.stream b.stream s.0 i;
      register = slice_cmp-IsAntisymmetric nat_cmp-IsAntisymmetric a.register b.register r.0 i;
      start = nat_cmp-IsAntisymmetric a.start b.start t.0 i;
      finish = nat_cmp-IsAntisymmetric a.finish b.finish f.0 i;
      update = nat_cmp-IsAntisymmetric a.update b.update f.1 i;
    }

insert_here : (es : List Place) (k : PeriodKey) (v : Option PeriodContent) → Member (k, v) (insert_entry key_cmp es k v)
insert_here = entries.insert_here key_cmp key_exact key_total

insert_only : (es : List Place) (k : PeriodKey) (v : Option PeriodContent) (e : Place)
    → Member e (insert_entry key_cmp es k v) → (e ≡ (k, v)) ⊎ Member e es
insert_only = entries.insert_only key_cmp key_exact key_total

insert_other : (es : List Place) (k : PeriodKey) (v : Option PeriodContent) (e : Place) → Member e es
    → Member e (insert_entry key_cmp es k v) ⊎ (e.0 ≡ k)
insert_other = entries.insert_other key_cmp key_exact key_total

not_absent : (es : List Place) (k : PeriodKey) (v : Option PeriodContent) → Member (k, v) es
    → lookup (is_at (key_cmp k)) es ≡ None → ⊥
not_absent = entries.not_absent key_cmp key_exact key_total

found_in : (es : List Place) (k : PeriodKey) (v : Option PeriodContent) → lookup (is_at (key_cmp k)) es ≡ Some v
    → Member (k, v) es
found_in = entries.found_in key_cmp key_exact key_total

one_entry : (es : List Place) → IsStrictlySortedBy key_cmp (keys_of es) → (k : PeriodKey) (v w : Option PeriodContent)
    → Member (k, v) es → Member (k, w) es → v ≡ w
one_entry = entries.one_entry key_cmp key_exact key_total

no_content : (content : PeriodContent) → Some content ≡ None → ⊥
no_content content e = cc

own : (a b : PeriodContent) → Some a ≡ Some b → a ≡ b
own a b e = cc

-- what a place says is of its content
of_place : (key : PeriodKey) (kept : Option PeriodContent) (f : Fact) → Member f (place_facts key kept)
    → (content : PeriodContent) × (kept ≡ Some content) × (f ≡ PeriodIs key content)
of_place key None f m = absurd m
of_place key (Some content) f (inl e) = (content, refl, e)
of_place key (Some content) f (inr z) = absurd z

-- a fact of the accumulations' World is that of one of them
pub in_periods : (periods : Periods) (f : Fact) → f ∈ periods_world periods
    → (key : PeriodKey) × (content : PeriodContent) × Member (key, Some content) periods.entries × (f ≡ PeriodIs key content)
in_periods periods f h =
    let r = in_flat (λ e. place_facts e.0 e.1) periods.entries f (in_list _ f h) in
    let p = of_place r.0.0 r.0.1 f r.2 in
    (r.0.0, p.0, subst (λ v. Member (r.0.0, v) periods.entries) p.1 r.1, p.2)

pub periods_in : (periods : Periods) (key : PeriodKey) (content : PeriodContent) → Member (key, Some content) periods.entries
    → PeriodIs key content ∈ periods_world periods
periods_in periods key content m =
    list_in _ (PeriodIs key content)
    (flat_in (λ e. place_facts e.0 e.1) periods.entries (PeriodIs key content) (key, Some content) m (inl refl))

-- ---- the content of a key

same_key : (a b : PeriodKey) (x y : PeriodContent) → PeriodIs a x ≡ PeriodIs b y → a ≡ b
same_key a b x y e = cc

same_content : (a b : PeriodKey) (x y : PeriodContent) → PeriodIs a x ≡ PeriodIs b y → x ≡ y
same_content a b x y e = cc

-- what is kept of a key stands under it
pub kept_at : (periods : Periods) (key : PeriodKey) (content : PeriodContent) → PeriodIs key content ∈ periods_world periods
    → Member (key, Some content) periods.entries
kept_at periods key content h =
    let r = in_periods periods (PeriodIs key content) h in
    subst (λ e. Member e periods.entries)
    (λ i. (sym (same_key key r.0 content r.1 r.3) i, Some (sym (same_content key r.0 content r.1 r.3) i))) r.2

pub content_found : (periods : Periods) (key : PeriodKey) (kept : Option PeriodContent) → IsOrdered key_cmp periods
    → lookup (is_at (key_cmp key)) periods.entries ≡ Some kept → IsContentOf (periods_world periods) key kept
content_found periods key None o e = λ content h.
    absurd (no_content content (sym (one_entry periods.entries o key None (Some content) (found_in periods.entries key None e)
    (kept_at periods key content h))))
content_found periods key (Some content) o e =
    periods_in periods key content (found_in periods.entries key (Some content) e)

pub content_absent : (periods : Periods) (key : PeriodKey) → lookup (is_at (key_cmp key)) periods.entries ≡ None
    → IsContentOf (periods_world periods) key None
content_absent periods key e = λ content h.
    not_absent periods.entries key (Some content) (kept_at periods key content h) e

-- ---- the accumulations of a stream

-- what a place gives to a list of accumulations
abbrev pub period_of : PeriodKey → Option PeriodContent → List Period
period_of key None = []
period_of key (Some content) = record { key = key; content = content } ∷ []

abbrev pub period_at : Place → List Period
period_at e = period_of e.0 e.1

-- that of a copy
pub of_copy : (key copied_key : PeriodKey) (kept : Option PeriodContent) (content copied : PeriodContent)
    → kept ≡ Some content → copied_key ≡ key → copied ≡ content
    → period_of key kept ≡ record { key = copied_key; content = copied } ∷ []
of_copy key copied_key kept content copied is k c =
    ap (period_of key) is ∙ (λ i. record { key = sym k i; content = sym c i } ∷ [])

-- the entries from the first key of a stream on
abbrev pub from : Periods → Stream → List Place
from periods stream = entries_between key_cmp (Included (first_key_of stream)) Unbounded periods.entries

abbrev pub IsOf : Stream → Place → Type 0
IsOf stream place = place.0.stream ≡ stream

first_is_least : (stream : Stream) (key : PeriodKey) → key.stream ≡ stream → is_le (key_cmp (first_key_of stream) key) ≡ true
first_is_least stream key e =
    le_then (stream_cmp stream key.stream) _
    (tied_le _ (ap (stream_cmp stream) e ∙ tied_itself stream_total stream))
    (le_then (slice_cmp nat_cmp [] key.register) _ (empty_least key.register)
    (le_then (nat_cmp 0 key.start) _ (zero_least key.start)
    (le_then (nat_cmp 0 key.finish) _ (zero_least key.finish) (zero_least key.update))))

from_first : (periods : Periods) (stream : Stream) (e : Place) → Member e (from periods stream)
    → Member e periods.entries × (is_le (key_cmp (first_key_of stream) e.0) ≡ true)
from_first periods stream e m =
    let r = up.in_filter (λ x. range_contains key_cmp (Included (first_key_of stream)) Unbounded x.0) periods.entries e m in
    (r.0, (split_and _ _ r.1).0)

in_from : (periods : Periods) (stream : Stream) (e : Place) → Member e periods.entries → IsOf stream e
    → Member e (from periods stream)
in_from periods stream e m of =
    up.filter_in (λ x. range_contains key_cmp (Included (first_key_of stream)) Unbounded x.0) periods.entries e m
    (both_and _ _ (first_is_least stream e.0 of) refl)

abbrev entry_cmp : Place → Place → Ordering
entry_cmp e f = key_cmp e.0 f.0

from_ascends : (periods : Periods) (stream : Stream) → IsOrdered key_cmp periods → Ascends entry_cmp (from periods stream)
from_ascends periods stream o =
    up.filtered (λ x. range_contains key_cmp (Included (first_key_of stream)) Unbounded x.0) entry_cmp periods.entries
    (runs.entries_ascend key_cmp periods.entries (up.from_sorted key_cmp (keys_of periods.entries) o))

-- those of a stream stand together
stand_together : (periods : Periods) (stream : Stream) (x q : Place) → Member x (from periods stream)
    → entry_cmp x q ≡ Less → IsOf stream q → IsOf stream x
stand_together periods stream x q m below of =
    let up : is_gt (stream_cmp x.0.stream q.0.stream) ≡ false =
    first_not_gt (stream_cmp x.0.stream q.0.stream) _ (less_not_gt _ below) in
    let down : is_gt (stream_cmp stream x.0.stream) ≡ false =
    first_not_gt (stream_cmp stream x.0.stream) _ (le_not_gt _ (from_first periods stream x m).1) in
    between stream_total stream_exact x.0.stream stream (subst (λ s. is_gt (stream_cmp x.0.stream s) ≡ false) of up) down

one_ascends : (e : Place) → Ascends (λ (a b : Period). period_cmp a.key b.key) (period_at e)
one_ascends (key, None) = tt
one_ascends (key, Some content) = ((λ q m. absurd m), tt)

at_key : (e : Place) (p : Period) → Member p (period_at e) → p.key ≡ e.0
at_key (key, None) p m = absurd m
at_key (key, Some content) p (inl e) = ap (λ q. q.key) e
at_key (key, Some content) p (inr z) = absurd z

-- within a stream keys compare as accumulations do
in_stream : (stream : Stream) (a b : PeriodKey) → a.stream ≡ stream → b.stream ≡ stream → key_cmp a b ≡ period_cmp a b
in_stream stream a b p q =
    ap (λ r. ordering_then r (period_cmp a b))
    ((λ i. stream_cmp (p i) (q i)) ∙ tied_itself stream_total stream)

from_place : (e : Place) (p : Period) → Member p (period_at e) → e ≡ (p.key, Some p.content)
from_place (key, None) p m = absurd m
from_place (key, Some content) p (inl e) = (λ i. ((sym e i).key, Some (sym e i).content))
from_place (key, Some content) p (inr z) = absurd z

pub periods_done : (periods : Periods) (stream : Stream) (found : List Period) (left : List Place) → IsOrdered key_cmp periods
    → IsRun period_at (IsOf stream) (from periods stream) found left → HasStopped (IsOf stream) left
    → ArePeriodsOf (periods_world periods) stream found
periods_done periods stream found left o so stop =
    let by : Period → Period → Ordering = (λ a b. period_cmp a.key b.key) in
    let rises : Ascends entry_cmp so.seen =
    up.front entry_cmp so.seen left (subst (Ascends entry_cmp) (sym so.run) (from_ascends periods stream o)) in
    record {
      each = λ period. (
        (λ m.
            let r = in_flat period_at so.seen period (subst (Member period) so.taken m) in
            let is = from_place r.0 period r.2 in
            let n : Member r.0 (from periods stream) = subst (Member r.0) so.run (append_left r.0 so.seen left r.1) in (
              periods_in periods period.key period.content
                  (subst (λ e. Member e periods.entries) is (from_first periods stream r.0 n).0),
              ap (λ e. e.0.stream) (sym is) ∙ so.of_kind r.0 r.1,
            )),
        (λ h.
            let e : Place = (period.key, Some period.content) in
            let n = in_from periods stream e (kept_at periods period.key period.content h.0) h.1 in
            let m = runs.all_found entry_cmp (IsOf stream) (from periods stream) so.seen left (from_ascends periods stream o)
            so.run stop (stand_together periods stream) e n h.1 in
            subst (Member period) (sym so.taken) (flat_in period_at so.seen period e m (inl refl))),
      );
      ascending = up.pairs by found (subst (Ascends by) (sym so.taken) (runs.taken_ascends period_at entry_cmp by so.seen rises one_ascends
          (λ e g m n below x y k l.
          sym (in_stream stream x.key y.key (ap (λ q. q.stream) (at_key e x k) ∙ so.of_kind e m)
          (ap (λ q. q.stream) (at_key g y l) ∙ so.of_kind g n))
          ∙ (λ i. key_cmp (at_key e x k i) (at_key g y l i)) ∙ below)));
    }

-- ---- places for accumulations

-- Places are made for accumulations: what is kept stays.
pub record IsRoom (old : Periods) (more : List Period) (now : Periods) : Type 0 where
  pub same : periods_world now ≡ periods_world old
  pub ordered : IsOrdered key_cmp old → IsOrdered key_cmp now
  pub room : HasKeys now more

pub room_start : (old : Periods) → IsRoom old [] old
room_start old = record { same = refl; ordered = λ o. o; room = λ period m. absurd m }

pub room_there : (old now : Periods) (xs : List Period) (i : ℕ) (x : Period) (kept : Option PeriodContent) → i < length xs
    → x ≡ slice_index_or xs i x → IsRoom old (take i xs) now → lookup (is_at (key_cmp x.key)) now.entries ≡ Some kept
    → IsRoom old (take (i + 1) xs) now
room_there old now xs i x kept l is r e = record {
  same = r.same;
  ordered = r.ordered;
  room = λ period m. elim ((taken_more xs i x l is period).0 m) [
    | inl n ↦ r.room period n
    | inr q ↦ (kept, subst (λ p. Member (p.key, kept) now.entries) (sym q) (found_in now.entries x.key kept e))
  ];
}

pub room_added : (old now new : Periods) (xs : List Period) (i : ℕ) (x : Period) (key : PeriodKey) → i < length xs
    → x ≡ slice_index_or xs i x → IsRoom old (take i xs) now → lookup (is_at (key_cmp x.key)) now.entries ≡ None
    → key ≡ x.key → new.entries ≡ insert_entry key_cmp now.entries key None → IsOrdered key_cmp new
    → IsRoom old (take (i + 1) xs) new
room_added old now new xs i x key l is r none copy put ordered =
    let es : new.entries ≡ insert_entry key_cmp now.entries x.key None = put ∙ ap (λ k. insert_entry key_cmp now.entries k None) copy in
    let keeps : (e : Place) → Member e now.entries → Member e new.entries = λ e m.
    elim (insert_other now.entries x.key None e m) [
      | inl n ↦ subst (λ ks. Member e ks) (sym es) n
      | inr q ↦ absurd (not_absent now.entries x.key e.1 (subst (λ k. Member (k, e.1) now.entries) q m) none)
    ] in
    let only : (k : PeriodKey) (content : PeriodContent) → Member (k, Some content) new.entries → Member (k, Some content) now.entries
    = λ k content m. elim (insert_only now.entries x.key None (k, Some content) (subst (λ ks. Member (k, Some content) ks) es m)) [
      | inl q ↦ absurd (no_content content (ap (λ e. e.1) q))
      | inr n ↦ n
    ] in
    record {
      same = same_by _ _
          (λ f h. let d = in_periods new f h in
          subst (λ g. g ∈ periods_world now) (sym d.3) (periods_in now d.0 d.1 (only d.0 d.1 d.2)))
          (λ f h. let d = in_periods now f h in
          subst (λ g. g ∈ periods_world new) (sym d.3) (periods_in new d.0 d.1 (keeps (d.0, Some d.1) d.2)))
          ∙ r.same;
      ordered = λ o. ordered;
      room = λ period m. elim ((taken_more xs i x l is period).0 m) [
        | inl n ↦ let p = r.room period n in (p.0, keeps (period.key, p.0) p.1)
        | inr q ↦ (
          None,
          subst (λ p. Member (p.key, None) new.entries) (sym q)
              (subst (λ ks. Member (x.key, None) ks) (sym es) (insert_here now.entries x.key None)),
        )
      ];
    }

-- a call that changed nothing
pub same_world : (old now new : Periods) → new.entries ≡ now.entries → periods_world now ≡ periods_world old
    → periods_world new ≡ periods_world old
same_world old now new e s = ap (λ es. set.from_list (flat_map (λ entry. place_facts entry.0 entry.1) es)) e ∙ s

pub same_order : (now new : Periods) → new.entries ≡ now.entries → IsOrdered key_cmp now → IsOrdered key_cmp new
same_order now new e o = subst (λ es. IsStrictlySortedBy key_cmp (keys_of es)) (sym e) o

-- ---- accumulations in their places

-- Some of the accumulations are put to those that were kept: which are left, and what is kept now.
pub record ArePut (old : Periods) (more left : List Period) (now : Periods) : Type 0 where
  pub only : (f : Fact) → f ∈ periods_world now → f ∈ union (periods_world old) (set.from_list (map period_fact more))
  pub kept : (f : Fact) → f ∈ periods_world old → f ∈ periods_world now
  pub put : (period : Period) → Member period more → Member period left ⊎ (period_fact period ∈ periods_world now)
  pub some : (period : Period) → Member period left → Member period more
  pub room : HasKeys now more
  pub ordered : IsOrdered key_cmp now

pub put_start : (old : Periods) (more left : List Period) → HasKeys old more → IsOrdered key_cmp old → left ≡ more
    → ArePut old more left old
put_start old more left room o e = record {
  only = λ f h. union_left _ _ f h;
  kept = λ f h. h;
  put = λ period m. inl (subst (Member period) (sym e) m);
  some = λ period m. subst (Member period) e m;
  room = room;
  ordered = o;
}

-- there is a place for the next one
pub put_room : (old : Periods) (more left rest : List Period) (now : Periods) (x : Period) → ArePut old more left now
    → left ≡ x ∷ rest → lookup (is_at (key_cmp x.key)) now.entries ≡ None → ⊥
put_room old more left rest now x p l none =
    let r = p.room x (p.some x (subst (Member x) (sym l) (inl refl))) in
    not_absent now.entries x.key r.0 r.1 none

pub put_step : (old : Periods) (more left rest : List Period) (now new : Periods) (x : Period) → ArePut old more left now
    → Agrees (union (periods_world old) (set.from_list (map period_fact more))) → left ≡ x ∷ rest
    → new.entries ≡ insert_entry key_cmp now.entries x.key (Some x.content) → IsOrdered key_cmp new → ArePut old more rest new
put_step old more left rest now new x p law l es ordered =
    let w : World = union (periods_world old) (set.from_list (map period_fact more)) in
    let m : Member x more = p.some x (subst (Member x) (sym l) (inl refl)) in
    let told : period_fact x ∈ w = union_right _ _ (period_fact x) (list_in _ (period_fact x) (map_in period_fact more x m)) in
    let place : Place = (x.key, Some x.content) in
    let stands : Member place new.entries = subst (Member place) (sym es) (insert_here now.entries x.key (Some x.content)) in
    let here : period_fact x ∈ periods_world new = periods_in new x.key x.content stands in
    let only : (e : Place) → Member e new.entries → (e ≡ place) ⊎ Member e now.entries =
    λ e n. insert_only now.entries x.key (Some x.content) e (subst (λ ks. Member e ks) es n) in
    let grows : (f : Fact) → f ∈ periods_world now → f ∈ periods_world new = λ f h.
    let d = in_periods now f h in
    subst (λ g. g ∈ periods_world new) (sym d.3) (elim (insert_other now.entries x.key (Some x.content) (d.0, Some d.1) d.2) [
      | inl n ↦ periods_in new d.0 d.1 (subst (λ ks. Member (d.0, Some d.1) ks) (sym es) n)
      | inr q ↦
          let known : PeriodIs x.key d.1 ∈ w = subst (λ k. PeriodIs k d.1 ∈ w) q (subst (λ g. g ∈ w) d.3 (p.only f h)) in
          let same : x.content ≡ d.1 = law.one_content x.key x.content d.1 told known in
          subst (λ g. g ∈ periods_world new) (λ i. PeriodIs (sym q i) (same i)) here
    ]) in
    record {
      only = λ f h. let d = in_periods new f h in elim (only (d.0, Some d.1) d.2) [
        | inl q ↦ subst (λ g. g ∈ w)
            (sym (d.3 ∙ (λ i. PeriodIs ((q i).0) (own d.1 x.content (ap (λ e. e.1) q) i)))) told
        | inr n ↦ p.only f (subst (λ g. g ∈ periods_world now) (sym d.3) (periods_in now d.0 d.1 n))
      ];
      kept = λ f h. grows f (p.kept f h);
      put = λ period n. elim (p.put period n) [
        | inl a ↦ elim (subst (Member period) l a) [
          | inl q ↦ inr (subst (λ y. period_fact y ∈ periods_world new) (sym q) here)
          | inr b ↦ inl b
        ]
        | inr a ↦ inr (grows (period_fact period) a)
      ];
      some = λ period n. p.some period (subst (Member period) (sym l) (inr n));
      room = λ period n.
          let r = p.room period n in
          elim (insert_other now.entries x.key (Some x.content) (period.key, r.0) r.1) [
            | inl a ↦ (r.0, subst (λ ks. Member (period.key, r.0) ks) (sym es) a)
            | inr q ↦ (Some x.content, subst (λ k. Member (k, Some x.content) new.entries) (sym q) stands)
          ];
      ordered = ordered;
    }

pub put_world : (old : Periods) (more left : List Period) (now : Periods) → ArePut old more left now → left ≡ []
    → periods_world now ≡ union (periods_world old) (set.from_list (map period_fact more))
put_world old more left now p e = same_by _ _ p.only
    (λ f h. elim (in_union (periods_world old) _ f h) [
      | inl a ↦ p.kept f a
      | inr a ↦ let r = in_map period_fact more f (in_list _ f a) in
          subst (λ g. g ∈ periods_world now) (sym r.2) (elim (p.put r.0 r.1) [
            | inl n ↦ absurd (subst (Member r.0) e n)
            | inr n ↦ n
          ])
    ])
