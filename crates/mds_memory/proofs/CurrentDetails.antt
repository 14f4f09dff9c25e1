-- The current details of a day: of the nearest day up to it that has some, and the greatest of these.
use Rattle.std.proofs.Common.{◌≡◌, ◌<◌, ◌≤◌, ℕ, true, false, List, [], ◌∷◌, ◌++◌, Option, Some, None, refl, sym, ap, ◌∙◌, subst, inl, inr, arith}
use Rattle.std.specs.Prelude.{◌⊎◌, IfNone, IfSome, IsTrue}
use mathlib.Core.Bool.{true≢false}
use Rattle.std.proofs.lemmas.Bool.{cases_lt}
use Rattle.std.proofs.lemmas.Map.Keys.{le_from_not_gt}
use Rattle.std.specs.Borrow.{Bor}
use Rattle.std.specs.BTreeMap.{IsOrdered}
use Rattle.std.specs.BTreeMap.Range.{entries_between, range_contains}
use Rattle.std.specs.BTreeSet.{BTreeSet, IsKeyRangeOf, contains}
use Rattle.std.specs.Cmp.{nat_cmp_total, ranks, tied_itself}
use Rattle.std.specs.FinSet.{nat_cmp-IsAntisymmetric}
use Rattle.std.specs.Map.{keys_of}
use Rattle.std.specs.Ordering.{MatchOrdering, is_gt, is_le, is_lt, nat_cmp, ordering_then}
use Rattle.std.specs.declared.cmp.Ordering.{Ordering}
use Rattle.std.specs.declared.cmp.Ordering.TheVariants.{Less, Equal, Greater}
use Rattle.std.specs.declared.ops.Bound.TheVariants.{Included, Unbounded}
use Rattle.mds_names.specs.declared.stream.Stream.{Stream}
use Rattle.mds_terms.specs.Details.{DetailsValue, details_cmp}
use Rattle.mds_world.specs.declared.facts.Detail.{Detail}
use Rattle.mds_world.specs.Current.{IsGreatestDetail, IsUpto, no_details}
use Rattle.mds_world.proofs.Lists.{append_left, append_right, member_append}
use Rattle.mds_world.specs.Lists.{Member}
use Rattle.mds_world.proofs.Sets.{both_and, split_and}
use Rattle.mds_keeper.specs.Queries.{stream_cmp}
use Rattle.mds_memory.specs.StoredDetails.{IsLastFrom, NoneFrom, details_world, first_meter_of, meter_cmp, meter_on}
use Rattle.mds_memory.specs.declared.stored_details.MeterDetails.{MeterDetails}
use Rattle.mds_memory.proofs.Ascending as up
use Rattle.mds_memory.proofs.Ascending.{Ascends}
use Rattle.mds_memory.proofs.FirstNotes.{between, empty_least, first_not_gt, le_not_gt, le_then, less_not_gt, none_least, tied_le, zero_least}
use Rattle.mds_memory.proofs.Keys as keys
use Rattle.mds_memory.proofs.Places.{stream_exact, stream_total}
use Rattle.mds_memory.proofs.Runs as runs
use Rattle.mds_memory.proofs.Runs.{HasStopped, across_push}
use Rattle.mds_memory.proofs.StoredDetails.{Meters, details_in, in_details, meter_of, meter_total}

abbrev pub Entry : Type 0
Entry = MeterDetails × BTreeSet ℕ

abbrev pub IsOf : Stream → Entry → Type 0
IsOf stream entry = entry.0.stream ≡ stream

abbrev entry_cmp : Entry → Entry → Ordering
entry_cmp a b = meter_cmp a.0 b.0

details_least : (details : DetailsValue) → is_le (details_cmp no_details details) ≡ true
unfolding details_cmp
details_least d =
    le_then _ _ (empty_least d.configuration)
    (le_then _ _ (empty_least d.register)
    (le_then _ _ (empty_least d.datastream) (le_then _ _ (empty_least d.meter) (none_least d.next))))

first_is_least : (stream : Stream) (meter : MeterDetails) → meter.stream ≡ stream
    → is_le (meter_cmp (first_meter_of stream) meter) ≡ true
first_is_least stream meter e =
    le_then (stream_cmp stream meter.stream) _
    (tied_le _ (ap (stream_cmp stream) e ∙ tied_itself stream_total stream))
    (le_then (nat_cmp 0 meter.moment) _ (zero_least meter.moment) (details_least meter.details))

-- within a stream, by the day first
by_day : (a b : ℕ) (rest : Ordering) → (a < b) ⊎ ((a ≡ b) × (is_le rest ≡ true)) → is_le (ordering_then (nat_cmp a b) rest) ≡ true
by_day a b rest p = by (nat_cmp a b) (ranks a b) p
  where
    by : (r : Ordering) → MatchOrdering r (a < b) (a ≡ b) (b < a) → (a < b) ⊎ ((a ≡ b) × (is_le rest ≡ true))
        → is_le (ordering_then r rest) ≡ true
    by Less m p = refl
    by Equal m (inl l) = absurd (omega (arith, m, l))
    by Equal m (inr q) = q.1
    by Greater m (inl l) = absurd (omega (arith, m, l))
    by Greater m (inr q) = absurd (omega (arith, m, q.0))

at_most : (q of : ℕ) (P : Type 0) → q ≤ of → P → (q < of) ⊎ ((q ≡ of) × P)
at_most q of P l p = elim (cases_lt q of) [ inl a ↦ inl a | inr a ↦ inr (omega (arith, l, a), p) ]

-- a day that isn't from a first one on is before it
before : (q first : ℕ) → (first ≤ q → ⊥) → q < first
before q first none = elim (cases_lt q first) [ inl a ↦ a | inr a ↦ absurd (none a) ]

-- ---- the last of days from a first to a last one

is_le_by : (a b : ℕ) → a ≤ b → is_gt (nat_cmp a b) ≡ false
is_le_by a b l = by (nat_cmp a b) (ranks a b)
  where
    by : (r : Ordering) → MatchOrdering r (a < b) (a ≡ b) (b < a) → is_gt r ≡ false
    by Less m = refl
    by Equal m = refl
    by Greater m = absurd (omega (arith, l, m))

not_after : (a b : ℕ) → is_lt (nat_cmp a b) ≡ false → b ≤ a
not_after a b e = by (nat_cmp a b) (ranks a b) e
  where
    by : (r : Ordering) → MatchOrdering r (a < b) (a ≡ b) (b < a) → is_lt r ≡ false → b ≤ a
    by Less m e = cc e
    by Equal m e = omega (arith, m)
    by Greater m e = omega (arith, m)

has_day : (days : BTreeSet ℕ) (day : ℕ) → Member day days.keys → IsTrue (contains nat_cmp days day)
has_day days day m = keys.finds nat_cmp nat_cmp-IsAntisymmetric nat_cmp_total day days.keys m

pub last_found : (days : BTreeSet ℕ) (first last lo hi : ℕ) (between rest : List ℕ) (of : ℕ) → lo ≡ first → hi ≡ last
    → IsKeyRangeOf nat_cmp (Included lo) (Included hi) days between → between ≡ rest ++ of ∷ []
    → IsLastFrom days.keys first last of
last_found days first last lo hi between rest of is_lo is_hi range steps =
    let here = range.3 of rest steps in
    let from : lo ≤ of = le_from_not_gt lo of here.0.0 in
    let upto : of ≤ hi = le_from_not_gt of hi here.0.1 in
    record {
      one = keys.found nat_cmp nat_cmp-IsAntisymmetric nat_cmp_total of days.keys here.1;
      from = subst (λ n. n ≤ of) is_lo from;
      upto = subst (λ n. of ≤ n) is_hi upto;
      last_one = λ day m l. elim (cases_lt day lo) [
        | inl a ↦ omega (arith, a, from)
        | inr a ↦ not_after of day (range.4 of rest steps day
            (is_le_by lo day a, is_le_by day hi (subst (λ n. day ≤ n) (sym is_hi) l)) (has_day days day m))
      ];
    }

pub none_found : (days : BTreeSet ℕ) (first last lo hi : ℕ) (between : List ℕ) → lo ≡ first → hi ≡ last
    → IsKeyRangeOf nat_cmp (Included lo) (Included hi) days between → between ≡ [] → NoneFrom days.keys first last
none_found days first last lo hi between is_lo is_hi range none day m f l =
    true≢false (sym (has_day days day m) ∙ range.5 none day
    (is_le_by lo day (subst (λ n. n ≤ day) (sym is_lo) f), is_le_by day hi (subst (λ n. day ≤ n) (sym is_hi) l)))

-- ---- the walk

module _ (kept : Meters) (stream : Stream) (day : ℕ) where
  -- the entries from the first of a stream on
  abbrev pub all : List Entry
  all = entries_between meter_cmp (Included (first_meter_of stream)) Unbounded kept.entries

  from_first : (e : Entry) → Member e all → Member e kept.entries × (is_le (meter_cmp (first_meter_of stream) e.0) ≡ true)
  from_first e m =
      let r = up.in_filter (λ x. range_contains meter_cmp (Included (first_meter_of stream)) Unbounded x.0) kept.entries e m in
      (r.0, (split_and _ _ r.1).0)

  in_all : (e : Entry) → Member e kept.entries → IsOf stream e → Member e all
  in_all e m of =
      up.filter_in (λ x. range_contains meter_cmp (Included (first_meter_of stream)) Unbounded x.0) kept.entries e m
      (both_and _ _ (first_is_least stream e.0 of) refl)

  all_ascend : IsOrdered meter_cmp kept → Ascends entry_cmp all
  all_ascend o =
      up.filtered (λ x. range_contains meter_cmp (Included (first_meter_of stream)) Unbounded x.0) entry_cmp kept.entries
      (runs.entries_ascend meter_cmp kept.entries (up.from_sorted meter_cmp (keys_of kept.entries) o))

  -- those of the stream stand together
  stand_together : (x q : Entry) → Member x all → entry_cmp x q ≡ Less → IsOf stream q → IsOf stream x
  stand_together x q m below of =
      let up : is_gt (stream_cmp x.0.stream q.0.stream) ≡ false =
      first_not_gt (stream_cmp x.0.stream q.0.stream) _ (less_not_gt _ below) in
      let down : is_gt (stream_cmp stream x.0.stream) ≡ false =
      first_not_gt (stream_cmp stream x.0.stream) _ (le_not_gt _ (from_first x m).1) in
      between stream_total stream_exact x.0.stream stream (subst (λ s. is_gt (stream_cmp x.0.stream s) ≡ false) of up) down

  -- No day of an entry is behind the nearest, and on the nearest its details aren't greater.
  abbrev pub IsBelow : MeterDetails → ℕ → Entry → Type 0
  IsBelow meter from e =
      (q : ℕ) → Member q e.1.keys → q ≤ day → (q < from) ⊎ ((q ≡ from) × (is_le (meter_cmp e.0 meter) ≡ true))

  -- of those seen, the nearest day with the greatest details of it
  abbrev pub IsNearest : List Entry → Option (Bor MeterDetails) → ℕ → Type 0
  IsNearest seen None from = (from ≡ 0) × ((e : Entry) → Member e seen → (q : ℕ) → Member q e.1.keys → q ≤ day → ⊥)
  IsNearest seen (Some meter) from =
      (days : BTreeSet ℕ) × Member (meter.now, days) seen × Member from days.keys
      × ((e : Entry) → Member e seen → IsBelow meter.now from e)

  -- a walk down the entries
  pub record IsWalked (last : Option (Bor MeterDetails)) (from : ℕ) (left : List Entry) : Type 0 where
    pub seen : List Entry
    pub whole : seen ++ left ≡ all
    pub of_stream : (e : Entry) → Member e seen → IsOf stream e
    pub upto : from ≤ day
    pub nearest : IsNearest seen last from

  pub begin : (from : ℕ) (left : List Entry) → from ≡ 0 → left ≡ all → IsWalked None from left
  begin from left zero e = record {
    seen = [];
    whole = e;
    of_stream = λ x m. absurd m;
    upto = omega (arith, zero);
    nearest = (zero, (λ x m. absurd m));
  }

  -- no day up to this one is behind the nearest so far
  so_far : (seen : List Entry) (last : Option (Bor MeterDetails)) (from : ℕ) → IsNearest seen last from → (e : Entry)
      → Member e seen → (q : ℕ) → Member q e.1.keys → q ≤ day → q ≤ from
  so_far seen None from n e m q k l = absurd (n.1 e m q k l)
  so_far seen (Some meter) from n e m q k l = elim (n.3 e m q k l) [
    | inl a ↦ omega (arith, a)
    | inr a ↦ let same = a.0 in omega (arith, same)
  ]

  also_of : (seen : List Entry) (e : Entry) → ((x : Entry) → Member x seen → IsOf stream x) → IsOf stream e → (x : Entry)
      → Member x (seen ++ e ∷ []) → IsOf stream x
  also_of seen e all of x m = elim (member_append x seen (e ∷ []) m) [
    | inl n ↦ all x n
    | inr n ↦ elim n [ inl i ↦ subst (IsOf stream) (sym i) of | inr z ↦ absurd z ]
  ]

  -- the next entry has a day that is not before the nearest
  pub nearer : (o : IsOrdered meter_cmp kept) (last : Option (Bor MeterDetails)) (from : ℕ) (left rest : List Entry)
      (meter : Bor MeterDetails) (days : BTreeSet ℕ) (of : ℕ) → IsWalked last from left → left ≡ (meter.now, days) ∷ rest
      → meter.now.stream ≡ stream → IsLastFrom days.keys from day of → IsWalked (Some meter) of rest
  nearer o last from left rest meter days of so next its is =
      let e : Entry = (meter.now, days) in
      let whole : so.seen ++ e ∷ rest ≡ all = ap (λ es. so.seen ++ es) (sym next) ∙ so.whole in
      let rise : Ascends entry_cmp (so.seen ++ e ∷ rest) = subst (Ascends entry_cmp) (sym whole) (all_ascend o) in
      record {
        seen = so.seen ++ e ∷ [];
        whole = across_push so.seen e rest ∙ whole;
        of_stream = also_of so.seen e so.of_stream its;
        upto = is.upto;
        nearest = (
          days,
          append_right e so.seen (e ∷ []) (inl refl),
          is.one,
          (λ g m q k l. elim (member_append g so.seen (e ∷ []) m) [
            | inl n ↦
                let b = so_far so.seen last from so.nearest g n q k l in
                let f = is.from in
                let less : meter_cmp g.0 meter.now ≡ Less = up.across entry_cmp so.seen (e ∷ rest) rise g e n (inl refl) in
                at_most q of _ (omega (arith, b, f)) (ap is_le less)
            | inr n ↦ elim n [
              | inl i ↦
                  let same : g.1 ≡ days = ap (λ x. x.1) i in
                  let b = is.last_one q (subst (λ d. Member q d.keys) same k) l in
                  at_most q of _ b (ap (λ x. is_le (meter_cmp x.0 meter.now)) i ∙ tied_le _ (tied_itself meter_total meter.now))
              | inr z ↦ absurd z
            ]
          ]),
        );
      }

  none_before : (meter : MeterDetails) (days : BTreeSet ℕ) (from : ℕ) → NoneFrom days.keys from day → (e : Entry)
      → e ≡ (meter, days) → (q : ℕ) → Member q e.1.keys → q ≤ day → q < from
  none_before meter days from none e i q k l = before q from (λ m. none q (subst (λ x. Member q x.1.keys) i k) m l)

  still_nearest : (seen : List Entry) (meter : MeterDetails) (days : BTreeSet ℕ) (last : Option (Bor MeterDetails)) (from : ℕ)
      → IsNearest seen last from → NoneFrom days.keys from day → IsNearest (seen ++ (meter, days) ∷ []) last from
  still_nearest seen meter days None from n none = (
    n.0,
    (λ e m q k l. elim (member_append e seen ((meter, days) ∷ []) m) [
      | inl a ↦ n.1 e a q k l
      | inr a ↦ elim a [
        | inl i ↦ let b = none_before meter days from none e i q k l in let z = n.0 in absurd (omega (arith, b, z))
        | inr z ↦ absurd z
      ]
    ]),
  )
  still_nearest seen meter days (Some last) from n none = (
    n.0,
    append_left (last.now, n.0) seen ((meter, days) ∷ []) n.1,
    n.2,
    (λ e m q k l. elim (member_append e seen ((meter, days) ∷ []) m) [
      | inl a ↦ n.3 e a q k l
      | inr a ↦ elim a [ inl i ↦ inl (none_before meter days from none e i q k l) | inr z ↦ absurd z ]
    ]),
  )

  -- the next entry has none
  pub passed : (last : Option (Bor MeterDetails)) (from : ℕ) (left rest : List Entry) (meter : MeterDetails) (days : BTreeSet ℕ)
      → IsWalked last from left → left ≡ (meter, days) ∷ rest → meter.stream ≡ stream → NoneFrom days.keys from day
      → IsWalked last from rest
  passed last from left rest meter days so next its none = record {
    seen = so.seen ++ (meter, days) ∷ [];
    whole = across_push so.seen (meter, days) rest ∙ ap (λ es. so.seen ++ es) (sym next) ∙ so.whole;
    of_stream = also_of so.seen (meter, days) so.of_stream its;
    upto = so.upto;
    nearest = still_nearest so.seen meter days last from so.nearest none;
  }

  -- each of the stream up to the day is among those seen
  all_seen : (seen left : List Entry) → IsOrdered meter_cmp kept → seen ++ left ≡ all → HasStopped (IsOf stream) left
      → (other : Detail) → IsUpto (details_world kept) stream day other
      → (days : BTreeSet ℕ) × Member (meter_of other, days) seen × Member other.day days.keys
  all_seen seen left o whole stop other is =
      let r = in_details kept other is.0 in
      let e : Entry = (meter_of other, r.0) in (
        r.0,
        runs.all_found entry_cmp (IsOf stream) all seen left (all_ascend o) whole stop stand_together e
            (in_all e r.1 is.1) is.1,
        r.2,
      )

  -- within the stream, details compare by the moment first
  in_stream : (a b : MeterDetails) → a.stream ≡ stream → b.stream ≡ stream
      → meter_cmp a b ≡ ordering_then (nat_cmp a.moment b.moment) (details_cmp a.details b.details)
  in_stream a b p q =
      ap (λ r. ordering_then r (ordering_then (nat_cmp a.moment b.moment) (details_cmp a.details b.details)))
      ((λ i. stream_cmp (p i) (q i)) ∙ tied_itself stream_total stream)

  pub last_some : (last : Option (Bor MeterDetails)) (from : ℕ) (left : List Entry) → IsOrdered meter_cmp kept
      → IsWalked last from left → HasStopped (IsOf stream) left
      → IfSome last (λ meter. (of : ℕ) × IsGreatestDetail (details_world kept) stream day (meter_on meter.now of))
  last_some None from left o so stop = tt
  last_some (Some meter) from left o so stop =
      let n = so.nearest in
      let its : meter.now.stream ≡ stream = so.of_stream (meter.now, n.0) n.1 in
      let m : Member (meter.now, n.0) all =
      subst (Member (meter.now, n.0)) so.whole (append_left (meter.now, n.0) so.seen left n.1) in (
        from,
        record {
          held = (details_in kept (meter_on meter.now from) n.0 (from_first (meter.now, n.0) m).0 n.2, its, so.upto);
          greatest = λ other is.
              let r = all_seen so.seen left o so.whole stop other is in
              by_day other.day from _ (elim (n.3 (meter_of other, r.0) r.1 other.day r.2 is.2) [
                | inl a ↦ inl a
                | inr a ↦ inr (a.0, ap is_le (sym (in_stream (meter_of other) meter.now is.1 its)) ∙ a.1)
              ]);
        },
      )

  pub last_none : (last : Option (Bor MeterDetails)) (from : ℕ) (left : List Entry) → IsOrdered meter_cmp kept
      → IsWalked last from left → HasStopped (IsOf stream) left
      → IfNone last ((other : Detail) → IsUpto (details_world kept) stream day other → ⊥)
  last_none None from left o so stop = λ other is.
      let r = all_seen so.seen left o so.whole stop other is in
      so.nearest.1 (meter_of other, r.0) r.1 other.day r.2 is.2
  last_none (Some meter) from left o so stop = tt
