-- The known days of a stream from a first to a last one.
use Rattle.std.proofs.Common.{◌≡◌, ◌<◌, ◌≤◌, ℕ, true, false, List, [], ◌∷◌, map, refl, sym, ap, ◌∙◌, subst, inl, inr, arith}
use Rattle.std.specs.Prelude.{Bool, cond, not}
use Rattle.std.specs.BTreeMap.{IsOrdered}
use Rattle.std.specs.BTreeMap.Range.{IsLeBy, entries_between, range_contains}
use Rattle.std.specs.Cmp.{ranks, tied_itself}
use Rattle.std.specs.List.{flat_map}
use Rattle.std.specs.Map.{keys_of}
use Rattle.std.specs.Ordering.{MatchOrdering, is_gt, is_le, is_lt, nat_cmp, ordering_then}
use Rattle.std.specs.declared.cmp.Ordering.{Ordering}
use Rattle.std.specs.declared.cmp.Ordering.TheVariants.{Less, Equal, Greater}
use Rattle.std.specs.declared.ops.Bound.TheVariants.{Included}
use Rattle.mds_names.specs.declared.stream.Stream.{Stream}
use Rattle.mds_world.specs.declared.facts.StreamDay.{StreamDay}
use Rattle.mds_world.specs.Facts.Fact.{HeadIs}
use Rattle.mds_world.proofs.Lists.{append_left, flat_in, in_flat, in_map, map_in}
use Rattle.mds_world.specs.Lists.{Member}
use Rattle.mds_world.proofs.Sets.{both_and, split_and}
use Rattle.mds_world.specs.World.{IsKnownDay}
use Rattle.mds_keeper.specs.Books.{BookValue, IsDay}
use Rattle.mds_keeper.specs.Queries.{AreDaysOf, stream_cmp}
use Rattle.mds_memory.specs.Stored.{AreOfTheirDays, days_world, is_headed, place_cmp}
use Rattle.mds_memory.proofs.Ascending as up
use Rattle.mds_memory.proofs.Ascending.{Ascends}
use Rattle.mds_memory.proofs.Places.{stream_exact, stream_total}
use Rattle.mds_memory.proofs.Runs as runs
use Rattle.mds_memory.proofs.Runs.{IsRun, nothing_left}
use Rattle.mds_memory.proofs.StoredDays.{Kept, day_at, days_in, fact_on, in_days}
use Rattle.mds_memory.proofs.Streams.{has_head, head_there}

abbrev pub Entry : Type 0
Entry = StreamDay × BookValue

abbrev place : Stream → ℕ → StreamDay
place stream day = record { stream = stream; day = day }

-- the entries of a stream's days from a first to a last one
abbrev pub between : Kept → Stream → ℕ → ℕ → List Entry
between days stream first last =
    entries_between place_cmp (Included (place stream first)) (Included (place stream last)) days.entries

-- what an entry gives to a list of known days
abbrev pub known_at : Entry → List BookValue
known_at e = cond (is_headed e.1) (e.1 ∷ []) []

-- any entry is of the kind
abbrev pub IsAny : Entry → Type 0
IsAny e = Unit {0}

-- the first is not after the last
pub is_forward : (stream : Stream) (first last : ℕ) → first ≤ last → IsLeBy place_cmp (place stream first) (place stream last)
is_forward stream first last l =
    ap (λ r. is_gt (ordering_then r (nat_cmp first last))) (tied_itself stream_total stream)
    ∙ by (nat_cmp first last) (ranks first last)
  where
    by : (r : Ordering) → MatchOrdering r (first < last) (first ≡ last) (last < first) → is_gt r ≡ false
    by Less m = refl
    by Equal m = refl
    by Greater m = absurd (omega (arith, l, m))

le_means : (a b : ℕ) → is_le (nat_cmp a b) ≡ true → a ≤ b
le_means a b e = by (nat_cmp a b) (ranks a b) e
  where
    by : (r : Ordering) → MatchOrdering r (a < b) (a ≡ b) (b < a) → is_le r ≡ true → a ≤ b
    by Less m e = omega (arith, m)
    by Equal m e = omega (arith, m)
    by Greater m e = cc e

le_is : (a b : ℕ) → a ≤ b → is_le (nat_cmp a b) ≡ true
le_is a b l = by (nat_cmp a b) (ranks a b)
  where
    by : (r : Ordering) → MatchOrdering r (a < b) (a ≡ b) (b < a) → is_le r ≡ true
    by Less m = refl
    by Equal m = refl
    by Greater m = absurd (omega (arith, l, m))

not_less_means : (a b : ℕ) → not (is_lt (nat_cmp a b)) ≡ true → b ≤ a
not_less_means a b e = by (nat_cmp a b) (ranks a b) e
  where
    by : (r : Ordering) → MatchOrdering r (a < b) (a ≡ b) (b < a) → not (is_lt r) ≡ true → b ≤ a
    by Less m e = cc e
    by Equal m e = omega (arith, m)
    by Greater m e = omega (arith, m)

not_less_is : (a b : ℕ) → b ≤ a → not (is_lt (nat_cmp a b)) ≡ true
not_less_is a b l = by (nat_cmp a b) (ranks a b)
  where
    by : (r : Ordering) → MatchOrdering r (a < b) (a ≡ b) (b < a) → not (is_lt r) ≡ true
    by Less m = absurd (omega (arith, l, m))
    by Equal m = refl
    by Greater m = refl

-- what is between two days of a stream is a day of that stream
same_stream : (r a b : Ordering) → is_le (ordering_then r a) ≡ true → not (is_lt (ordering_then r b)) ≡ true → r ≡ Equal
same_stream Less a b f g = cc g
same_stream Equal a b f g = refl
same_stream Greater a b f g = cc f

pub lies_between : (stream : Stream) (first last : ℕ) (p : StreamDay)
    → range_contains place_cmp (Included (place stream first)) (Included (place stream last)) p ≡ true
    → (p.stream ≡ stream) × (first ≤ p.day) × (p.day ≤ last)
lies_between stream first last p e =
    let both = split_and _ _ e in
    let tied = same_stream (stream_cmp stream p.stream) (nat_cmp first p.day) (nat_cmp last p.day) both.0 both.1 in (
      sym (stream_exact stream p.stream tied),
      le_means first p.day (subst (λ r. is_le (ordering_then r (nat_cmp first p.day)) ≡ true) tied both.0),
      not_less_means last p.day (subst (λ r. not (is_lt (ordering_then r (nat_cmp last p.day))) ≡ true) tied both.1),
    )

pub is_between : (stream : Stream) (first last : ℕ) (p : StreamDay) → p.stream ≡ stream → first ≤ p.day → p.day ≤ last
    → range_contains place_cmp (Included (place stream first)) (Included (place stream last)) p ≡ true
is_between stream first last p s f l =
    let tied : Equal ≡ stream_cmp stream p.stream =
    sym (ap (stream_cmp stream) s ∙ tied_itself stream_total stream) in
    both_and _ _
    (subst (λ r. is_le (ordering_then r (nat_cmp first p.day)) ≡ true) tied (le_is first p.day f))
    (subst (λ r. not (is_lt (ordering_then r (nat_cmp last p.day))) ≡ true) tied (not_less_is last p.day l))

pub in_between : (days : Kept) (stream : Stream) (first last : ℕ) (e : Entry) → Member e (between days stream first last)
    → Member e days.entries × ((e.0.stream ≡ stream) × (first ≤ e.0.day) × (e.0.day ≤ last))
in_between days stream first last e m =
    let r = up.in_filter (λ x. range_contains place_cmp (Included (place stream first)) (Included (place stream last)) x.0)
    days.entries e m in
    (r.0, lies_between stream first last e.0 r.1)

pub between_in : (days : Kept) (stream : Stream) (first last : ℕ) (e : Entry) → Member e days.entries → e.0.stream ≡ stream
    → first ≤ e.0.day → e.0.day ≤ last → Member e (between days stream first last)
between_in days stream first last e m s f l =
    up.filter_in (λ x. range_contains place_cmp (Included (place stream first)) (Included (place stream last)) x.0)
    days.entries e m (is_between stream first last e.0 s f l)

at_entry : (e : Entry) (b : BookValue) → Member b (known_at e) → (b ≡ e.1) × (is_headed e.1 ≡ true)
at_entry e b m = by (is_headed e.1) refl m
  where
    by : (known : Bool) → is_headed e.1 ≡ known → Member b (cond known (e.1 ∷ []) []) → (b ≡ e.1) × (is_headed e.1 ≡ true)
    by true is (inl q) = (q, is)
    by true is (inr z) = absurd z
    by false is z = absurd z

of_known : (e : Entry) → is_headed e.1 ≡ true → Member e.1 (known_at e)
of_known e is = subst (λ known. Member e.1 (cond known (e.1 ∷ []) [])) (sym is) (inl refl)

abbrev by_day : BookValue → BookValue → Ordering
by_day a b = nat_cmp a.day b.day

one_ascends : (e : Entry) → Ascends by_day (known_at e)
one_ascends e = by (is_headed e.1)
  where
    by : (known : Bool) → Ascends by_day (cond known (e.1 ∷ []) [])
    by true = ((λ q m. absurd m), tt)
    by false = tt

pub between_ascends : (days : Kept) (stream : Stream) (first last : ℕ) → IsOrdered place_cmp days
    → Ascends (λ (e f : Entry). place_cmp e.0 f.0) (between days stream first last)
between_ascends days stream first last o =
    up.filtered (λ x. range_contains place_cmp (Included (place stream first)) (Included (place stream last)) x.0)
    (λ e f. place_cmp e.0 f.0) days.entries
    (runs.entries_ascend place_cmp days.entries (up.from_sorted place_cmp (keys_of days.entries) o))

pub less_means : (a b : ℕ) → nat_cmp a b ≡ Less → a < b
less_means a b e = subst (λ r. MatchOrdering r (a < b) (a ≡ b) (b < a)) e (ranks a b)

-- within a stream days compare by their dates
pub in_stream : (stream : Stream) (a b : StreamDay) → a.stream ≡ stream → b.stream ≡ stream → place_cmp a b ≡ nat_cmp a.day b.day
in_stream stream a b p q =
    ap (λ r. ordering_then r (nat_cmp a.day b.day))
    ((λ i. stream_cmp (p i) (q i)) ∙ tied_itself stream_total stream)

-- an entry that has a head is of a known day
pub is_known : (days : Kept) (stream : Stream) (day : ℕ) (e : Entry) → AreOfTheirDays days → Member e days.entries
    → e.0.stream ≡ stream → e.0.day ≡ day → is_headed e.1 ≡ true → IsKnownDay (days_world days) stream day
is_known days stream day e t m s d some =
    let h = head_there e.1.stream e.1.day e.1.unit e.1.rows some in
    let there = append_left (HeadIs h.0) _ _ h.1 in
    let on = fact_on e.1 (HeadIs h.0) there in
    let at = t.theirs e.0 e.1 m in
    (h.0, days_in days (HeadIs h.0) e m there, on.0 ∙ at.0 ∙ s, on.1 ∙ at.1 ∙ d)

-- and each known day has one
pub known_entry : (days : Kept) (stream : Stream) (day : ℕ) → AreOfTheirDays days → IsKnownDay (days_world days) stream day
    → (e : Entry) × Member e days.entries × (e.0.stream ≡ stream) × (e.0.day ≡ day) × (is_headed e.1 ≡ true)
known_entry days stream day t k =
    let r = in_days days (HeadIs k.0) k.1 in
    let at = t.theirs r.0.0 r.0.1 r.1 in
    let on = fact_on r.0.1 (HeadIs k.0) r.2 in
    (r.0, r.1, sym at.0 ∙ sym on.0 ∙ k.2, sym at.1 ∙ sym on.1 ∙ k.3, has_head r.0.1 k.0 r.2)

pub days_done : (days : Kept) (stream : Stream) (first last : ℕ) (books : List BookValue) (left : List Entry)
    → AreOfTheirDays days → IsRun known_at IsAny (between days stream first last) books left → left ≡ []
    → AreDaysOf (days_world days) stream first last books
days_done days stream first last books left t so e =
    let all = between days stream first last in
    let taken : books ≡ flat_map known_at all =
    so.taken ∙ ap (flat_map known_at) (sym (nothing_left so.seen left e) ∙ so.run) in
    let from_entry : (b : BookValue) → Member b books
    → (f : Entry) × Member f all × (b ≡ f.1) × (is_headed f.1 ≡ true) = λ b m.
    let r = in_flat known_at all b (subst (Member b) taken m) in
    let p = at_entry r.0 b r.2 in
    (r.0, r.1, p.0, p.1) in
    record {
      each = runs.for_all _ books (λ b m.
          let r = from_entry b m in
          let in_days_too = in_between days stream first last r.0 r.1 in
          let at = t.theirs r.0.0 r.0.1 in_days_too.0 in
          subst (λ v. (v.stream ≡ stream) × IsDay (days_world days) v) (sym r.2)
          (at.0 ∙ in_days_too.1.0, day_at days r.0.0 r.0.1 t in_days_too.0));
      known = λ day. (
        (λ m.
            let b = in_map (λ v. v.day) books day m in
            let r = from_entry b.0 b.1 in
            let i = in_between days stream first last r.0 r.1 in
            let at = t.theirs r.0.0 r.0.1 i.0 in
            let d : r.0.0.day ≡ day = sym (b.2 ∙ ap (λ v. v.day) r.2 ∙ at.1) in
            (subst (λ n. first ≤ n) d i.1.1, subst (λ n. n ≤ last) d i.1.2, is_known days stream day r.0 t i.0 i.1.0 d r.3)),
        (λ k.
            let r = known_entry days stream day t k.2 in
            let m = between_in days stream first last r.0 r.1 r.2 (subst (λ n. first ≤ n) (sym r.3) k.0) (subst (λ n. n ≤ last) (sym r.3) k.1) in
            let b : Member r.0.1 books =
            subst (Member r.0.1) (sym taken) (flat_in known_at all r.0.1 r.0 m (of_known r.0 r.4)) in
            subst (λ n. Member n (map (λ v. v.day) books)) ((t.theirs r.0.0 r.0.1 r.1).1 ∙ r.3) (map_in (λ v. v.day) books r.0.1 b)),
      );
      ascending = λ i j d l m. less_means _ _ (up.pairs by_day books
          (subst (Ascends by_day) (sym taken) (runs.taken_ascends known_at (λ e f. place_cmp e.0 f.0) by_day all
          (between_ascends days stream first last t.ordered) one_ascends
          (λ f g p q below x y u v.
          let a = in_between days stream first last f p in
          let b = in_between days stream first last g q in
          let x_day : x.day ≡ f.0.day = ap (λ w. w.day) (at_entry f x u).0 ∙ (t.theirs f.0 f.1 a.0).1 in
          let y_day : y.day ≡ g.0.day = ap (λ w. w.day) (at_entry g y v).0 ∙ (t.theirs g.0 g.1 b.0).1 in
          (λ i. nat_cmp (x_day i) (y_day i)) ∙ sym (in_stream stream f.0 g.0 a.1.0 b.1.0) ∙ below))) i j d l m);
    }
