-- How many versions a selection states: one for each interval.
use Rattle.std.specs.Prelude.{◌≡◌, ℕ, ◌+◌, ◌<◌, List, [], ◌∷◌, ◌++◌, map, Bool, true, false, if◌then◌else◌, Option, Some, None, refl}
use Rattle.std.proofs.Common.{sym, ap, ◌∙◌, subst, inl, inr, arith}
use Rattle.std.specs.Cmp.{tied_itself}
use Rattle.std.specs.Cmp.Lexicographic.{nat_list_cmp_total, slice_cmp}
use Rattle.std.specs.FinSet as set
use Rattle.std.specs.List.{AllPairs, flat_map, sum_by}
use Rattle.std.specs.Ordering.{nat_cmp, ordering_then}
use Rattle.std.specs.declared.cmp.Ordering.TheVariants.{Equal, Less}
use Rattle.std.proofs.lemmas.Grind.{flat_map-append}
use Rattle.std.proofs.lemmas.List.Concat.{length-flat_map}
use Rattle.std.proofs.lemmas.List.{map-append}
use Rattle.mds_names.specs.declared.stream.Stream.{Stream}
use Rattle.mds_statements.specs.Statements.{DayStatement, HeaderValue, Statement, days_in, days_of}
use Rattle.mds_statements.specs.Statements.Statement.{HeaderOf, StreamOf, DetailsOf, DayOf, EventOf, PeriodOf}
use Rattle.mds_world.specs.Counts.{added_by, countable, counted, is_counted, known_by}
use Rattle.mds_world.specs.FactOrder.{exact, fact_cmp, total}
use Rattle.mds_world.specs.Facts.{Fact}
use Rattle.mds_world.specs.Facts.Fact.{PeriodIs}
use Rattle.mds_world.proofs.Lists.{apart_append, flat_in, in_flat, in_map}
use Rattle.mds_world.specs.Lists.{Apart, Member}
use Rattle.mds_world.proofs.Members.{in_list, len_list, list_in, same_by}
use Rattle.mds_world.proofs.Sets.{in_retain, retain_in}
use Rattle.mds_world.specs.Sets.{◌∈◌}
use Rattle.mds_world.specs.Stated.{facts_of, stated, versions_from}
use Rattle.mds_world.specs.World.{World}
use Rattle.mds_world.proofs.Worlds.{known_or_added}
use Rattle.mds_keeper.proofs.Taken.{from_versions}
use Rattle.mds_statements.specs.Selected.{stream_cmp}
use Rattle.mds_export.specs.Placed.{PlacedDay, is_governed, placed_after, placed_days}
use Rattle.mds_export.specs.Shows.{day_selected, day_stated, details_selected, selection_stated, stream_selected}
use Rattle.mds_statements.specs.declared.selected.SelectedDay.{SelectedDay}
use Rattle.mds_statements.specs.declared.selected.SelectedStream.{SelectedStream}
use Rattle.mds_ranges.proofs.Pairs.{pairs_head, pairs_tail}
use Rattle.mds_laws.specs.Returns.{intervals_in}
use Rattle.mds_laws.proofs.Members.{in_stated, same_key, stated_in, versions_apart, versions_count}
use Rattle.mds_laws.proofs.ReturnedFacts.{from_placed, no_period}

-- ---- the versions of days

-- a version of each reading of a day
abbrev versions_of : DayStatement → List Fact
versions_of day = versions_from day.stream day.date day.length day.update 1 day.readings

-- the stream and the date of a day
abbrev place_of : DayStatement → Stream × ℕ
place_of day = (day.stream, day.date)

-- a version that two days have is of one place
same_place : (a b : DayStatement) (f : Fact) → Member f (versions_of a) → Member f (versions_of b) → place_of a ≡ place_of b
same_place a b f m n =
    let x = from_versions a.stream a.date a.length a.update 1 a.readings f m in
    let y = from_versions b.stream b.date b.length b.update 1 b.readings f n in
    let same = (same_key _ _ _ _ (sym x.3 ∙ y.3)).0 in
    λ i. ((same i).stream, (same i).day)

-- the place of a member is among the places
place_in : (days : List DayStatement) (day : DayStatement) → Member day days → Member (place_of day) (map place_of days)
place_in [] day m = absurd m
place_in (x ∷ days) day (inl e) = inl (ap place_of e)
place_in (x ∷ days) day (inr m) = inr (place_in days day m)

-- days of different places have no version twice
days_apart : (days : List DayStatement) → Apart (map place_of days) → Apart (flat_map versions_of days)
days_apart [] apart = tt
days_apart (day ∷ days) apart =
    apart_append (versions_of day) (flat_map versions_of days)
    (versions_apart day.stream day.date day.length day.update 1 day.readings)
    (days_apart days apart.1)
    (λ f m n.
    let r = in_flat versions_of days f n in
    apart.0 (subst (λ p. Member p (map place_of days)) (sym (same_place day r.0 f m r.2)) (place_in days r.0 r.1)))

-- ---- what counts

-- a fact that counts is a version of a day, where there is no period
version_of : (xs : List Statement) (s : Statement) → Member s xs
    → ((key : _) (content : _) → PeriodIs key content ∈ stated xs → ⊥) → (f : Fact) → Member f (facts_of s)
    → is_counted f ≡ true → Member f (flat_map versions_of (days_of xs))
version_of xs (HeaderOf header) m none f n c = absurd n
version_of xs (StreamOf stream) m none f n c = absurd n
version_of xs (DetailsOf details) m none f (inl e) c = let wrong : is_counted f ≡ false = ap is_counted e in cc
version_of xs (DetailsOf details) m none f (inr n) c = absurd n
version_of xs (DayOf day) m none f (inl e) c = let wrong : is_counted f ≡ false = ap is_counted e in cc
version_of xs (DayOf day) m none f (inr n) c =
    flat_in versions_of (days_of xs) f day (flat_in days_in xs day (DayOf day) m (inl refl)) n
version_of xs (EventOf event) m none f (inl e) c = let wrong : is_counted f ≡ false = ap is_counted e in cc
version_of xs (EventOf event) m none f (inr n) c = absurd n
version_of xs (PeriodOf period) m none f n c =
    absurd (none period.key period.content (stated_in xs _ (PeriodOf period) m (inl refl)))

-- and a version of a day counts
counts_in : (xs : List Statement) (f : Fact) → Member f (flat_map versions_of (days_of xs)) → f ∈ countable (stated xs)
counts_in xs f m =
    let d = in_flat versions_of (days_of xs) f m in
    let s = in_flat days_in xs d.0 d.1 in
    let v = from_versions d.0.stream d.0.date d.0.length d.0.update 1 d.0.readings f d.2 in
    retain_in total exact (stated xs) is_counted f (stated_in xs f s.0 s.1 (of_day s.0 d.0 f s.2 d.2)) (ap is_counted v.3)
  where
    of_day : (s : Statement) (day : DayStatement) (f : Fact) → Member day (days_in s) → Member f (versions_of day)
        → Member f (facts_of s)
    of_day (HeaderOf header) day f m n = absurd m
    of_day (StreamOf stream) day f m n = absurd m
    of_day (DetailsOf details) day f m n = absurd m
    of_day (DayOf x) day f (inl e) n = inr (subst (λ (d : DayStatement). Member f (versions_of d)) e n)
    of_day (DayOf x) day f (inr m) n = absurd m
    of_day (EventOf event) day f m n = absurd m
    of_day (PeriodOf period) day f m n = absurd m

-- statements of days of different places count a version for each interval
counted_days : (xs : List Statement) → ((key : _) (content : _) → PeriodIs key content ∈ stated xs → ⊥)
    → Apart (map place_of (days_of xs)) → counted (stated xs) ≡ intervals_in xs
counted_days xs none apart =
    let versions : List Fact = flat_map versions_of (days_of xs) in
    let same : countable (stated xs) ≡ set.from_list {R = fact_cmp} versions = same_by _ _
    (λ f h.
    let r = in_retain total exact (stated xs) is_counted f h in
    let s = in_stated xs f r.0 in
    list_in versions f (version_of xs s.0 s.1 none f s.2 r.1))
    (λ f h. counts_in xs f (in_list versions f h)) in
    ap set.len same ∙ len_list versions (days_apart (days_of xs) apart) ∙ length-flat_map versions_of (days_of xs)
    ∙ (λ i. sum_by (λ (day : DayStatement). versions_count day.stream day.date day.length day.update 1 day.readings i) (days_of xs))

-- ---- the days of a selection

-- a day's statements have one day
days_if : (b : Bool) (stream : _) (details : _) (day : DayStatement)
    → days_of ((if b then [] else StreamOf stream ∷ []) ++ DetailsOf details ∷ DayOf day ∷ []) ≡ day ∷ []
days_if true stream details day = refl
days_if false stream details day = refl

-- so the days of all are those that were placed
days_stated : (moment : ℕ) (placed : List PlacedDay)
    → days_of (flat_map (day_stated moment) placed) ≡ map day_selected placed
days_stated moment [] = refl
days_stated moment (p ∷ placed) =
    flat_map-append days_in (day_stated moment p) (flat_map (day_stated moment) placed)
    ∙ (λ i. days_if (is_governed p.before p.day) (stream_selected moment p) (details_selected moment p) (day_selected p) i
    ++ days_stated moment placed i)

-- the place of a placed day
abbrev spot_of : PlacedDay → Stream × ℕ
spot_of p = (p.selected.stream, p.day.date)

-- it is the place of the day that it states
same_spots : (placed : List PlacedDay) → map place_of (map day_selected placed) ≡ map spot_of placed
same_spots [] = refl
same_spots (p ∷ placed) = ap (λ l. spot_of p ∷ l) (same_spots placed)

-- the days of a stream are at different places
stream_apart : (selected : SelectedStream) (before : Option SelectedDay) (days : List SelectedDay)
    → AllPairs (λ (a b : SelectedDay). a.date < b.date) days → Apart (map spot_of (placed_after selected before days))
stream_apart selected before [] up = tt
stream_apart selected before (day ∷ days) up = (
  (λ m.
      let p = in_map spot_of (placed_after selected (Some day) days) _ m in
      let d = from_placed selected (Some day) days p.0 p.1 in
      let less = pairs_head (λ (a b : SelectedDay). a.date < b.date) day days up p.0.day d.1 in
      let same : day.date ≡ p.0.day.date = ap (λ (q : Stream × ℕ). q.1) p.2 in
      absurd (omega (arith, less, same))),
  stream_apart selected (Some day) days (pairs_tail (λ (a b : SelectedDay). a.date < b.date) day days up),
)

-- no stream stands before itself
never_before : (s : Stream) → stream_cmp s s ≡ Less → ⊥
never_before s less =
    let nmi : slice_cmp nat_cmp s.nmi s.nmi ≡ Equal = tied_itself nat_list_cmp_total s.nmi in
    let suffix : slice_cmp nat_cmp s.suffix s.suffix ≡ Equal = tied_itself nat_list_cmp_total s.suffix in
    let same : stream_cmp s s ≡ Equal = (λ i. ordering_then (nmi i) (suffix i)) in
    cc

-- a stream stands before another, by its bytes
abbrev IsBefore : SelectedStream → SelectedStream → Type 0
IsBefore a b = stream_cmp a.stream b.stream ≡ Less

-- and so are those of all streams
spots_apart : (streams : List SelectedStream) → AllPairs IsBefore streams
    → ((s : SelectedStream) → Member s streams → AllPairs (λ (a b : SelectedDay). a.date < b.date) s.days.items)
    → Apart (map spot_of (placed_days streams))
spots_apart [] up dates = tt
spots_apart (s ∷ streams) up dates =
    subst Apart (sym (map-append spot_of (placed_after s None s.days.items) (placed_days streams)))
    (apart_append (map spot_of (placed_after s None s.days.items)) (map spot_of (placed_days streams))
    (stream_apart s None s.days.items (dates s (inl refl)))
    (spots_apart streams (pairs_tail IsBefore s streams up) (λ t m. dates t (inr m)))
    (λ x m n.
    let p = in_map spot_of (placed_after s None s.days.items) x m in
    let q = in_map spot_of (placed_days streams) x n in
    let d = from_placed s None s.days.items p.0 p.1 in
    let t = in_flat (λ (z : SelectedStream). placed_after z None z.days.items) streams q.0 q.1 in
    let e = from_placed t.0 None t.0.days.items q.0 t.2 in
    let one : x.0 ≡ s.stream = ap (λ (z : Stream × ℕ). z.0) p.2 ∙ ap (λ (z : SelectedStream). z.stream) d.0 in
    let two : x.0 ≡ t.0.stream = ap (λ (z : Stream × ℕ). z.0) q.2 ∙ ap (λ (z : SelectedStream). z.stream) e.0 in
    let less : stream_cmp s.stream t.0.stream ≡ Less = pairs_head IsBefore s streams up t.0 t.1 in
    never_before s.stream (subst (λ z. stream_cmp s.stream z ≡ Less) (sym two ∙ one) less)))

-- the intervals of a selection are those that come in and those that are there
pub intervals_counted : (w : World) (header : HeaderValue) (streams : List SelectedStream) → AllPairs IsBefore streams
    → ((s : SelectedStream) → Member s streams → AllPairs (λ (a b : SelectedDay). a.date < b.date) s.days.items)
    → added_by w (stated (selection_stated header streams)) + known_by w (stated (selection_stated header streams))
    ≡ intervals_in (selection_stated header streams)
intervals_counted w header streams up dates =
    let xs = selection_stated header streams in
    let whole = known_or_added w (stated xs) in
    let apart : Apart (map place_of (days_of xs)) =
    subst Apart (sym (ap (map place_of) (days_stated header.moment (placed_days streams)) ∙ same_spots (placed_days streams)))
    (spots_apart streams up dates) in
    let all = counted_days xs (no_period header streams) apart in
    omega (arith, whole, all)
