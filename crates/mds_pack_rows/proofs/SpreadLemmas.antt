-- Versions of one update that are spread over the intervals of a day.
use Rattle.std.proofs.Common.{◌≡◌, ◌≢◌, ◌<◌, ℕ, ◌+◌, zero, suc, List, [], ◌∷◌, ◌++◌, length, map, get_or, slice_set, slice_index_or, replicate, take, true, false, Option, Some, None, refl, sym, ap, ◌∙◌, arith}
use Rattle.std.proofs.lemmas.List.{map-append, take_more}
use Rattle.mds_names.specs.declared.stream.Stream.{Stream}
use Rattle.mds_marks.specs.Reading.{ReadingValue}
use Rattle.mds_packs.proofs.Whole.{any_held}
use Rattle.mds_world.specs.FactOrder.{exact, total}
use Rattle.mds_world.specs.Facts.{Fact, key_at}
use Rattle.mds_world.specs.Facts.Fact.{VersionIs}
use Rattle.mds_world.specs.World.{union}
use Rattle.mds_world.proofs.Sets.{list_append, union_assoc, union_comm}
use Rattle.mds_tables.proofs.RowLemmas.{of}
use Rattle.mds_keeper.specs.Books.{row_fact}
use Rattle.mds_keeper.specs.declared.day_book.Version.{Version}
use Rattle.mds_pack_rows.specs.PackFacts.{facts_from, minutes_of}
use Rattle.mds_pack_rows.specs.Putting.{SayMore, SayRows}

abbrev Held : Type 0
Held = Option ReadingValue

-- where all intervals have a reading, one has
pub all_held : (readings : List ReadingValue) → 0 < length readings → any_held (map (λ reading. Some reading) readings) ≡ true
all_held [] some = absurd (omega (arith, some))
all_held (r ∷ readings) some = refl

module _ (s : Stream) (day minutes update : ℕ) where
  -- the version of an interval
  abbrev pub version_of : ℕ → ReadingValue → Fact
  version_of interval r = VersionIs (key_at s day minutes interval update) r

  -- intervals without a reading say nothing
  pub none_said : (count interval : ℕ) → facts_from s day minutes update interval (replicate count None) ≡ []
  none_said zero interval = refl
  none_said (suc count) interval = none_said count (interval + 1)

  -- where one has a reading, they say a version
  pub some_said : (interval : ℕ) (readings : List Held) → any_held readings ≡ true → facts_from s day minutes update interval readings ≢ []
  some_said interval [] some = absurd cc
  some_said interval (None ∷ readings) some = some_said (interval + 1) readings some
  some_said interval (Some r ∷ readings) some = λ none. absurd cc

  -- and where none has, they say none
  pub none_held : (interval : ℕ) (readings : List Held) → any_held readings ≡ false → facts_from s day minutes update interval readings ≡ []
  none_held interval [] none = refl
  none_held interval (None ∷ readings) none = none_held (interval + 1) readings none
  none_held interval (Some r ∷ readings) none = absurd cc

  -- an interval that gets its reading says that more
  pub interval_said : (readings : List Held) (k interval : ℕ) (r : ReadingValue) → k < length readings → get_or readings k None ≡ None
      → of (facts_from s day minutes update interval (slice_set readings k (Some r))) ≡ union (of (facts_from s day minutes update interval readings)) (of (version_of (interval + k) r ∷ []))
  interval_said [] k interval r low free = absurd (omega (arith, low))
  interval_said (Some t ∷ readings) zero interval r low free = absurd cc
  interval_said (None ∷ readings) zero interval r low free =
      let rest = facts_from s day minutes update (interval + 1) readings in
      let e : interval ≡ interval + 0 = omega arith in
      list_append total exact (version_of interval r ∷ []) rest ∙ union_comm total exact (of (version_of interval r ∷ [])) (of rest)
      ∙ ap (λ n. union (of rest) (of (version_of n r ∷ []))) e
  interval_said (None ∷ readings) (suc k) interval r low free =
      let e : (interval + 1) + k ≡ interval + suc k = omega arith in
      interval_said readings k (interval + 1) r (omega (arith, low)) free
      ∙ ap (λ n. union (of (facts_from s day minutes update (interval + 1) readings)) (of (version_of n r ∷ []))) e
  interval_said (Some t ∷ readings) (suc k) interval r low free =
      let e : (interval + 1) + k ≡ interval + suc k = omega arith in
      let one = of (version_of interval t ∷ []) in
      let old = of (facts_from s day minutes update (interval + 1) readings) in
      let more = of (version_of (interval + suc k) r ∷ []) in
      list_append total exact (version_of interval t ∷ []) (facts_from s day minutes update (interval + 1) (slice_set readings k (Some r)))
      ∙ ap (union one) (interval_said readings k (interval + 1) r (omega (arith, low)) free
      ∙ ap (λ n. union old (of (version_of n r ∷ []))) e)
      ∙ sym (union_assoc total exact one old more)
      ∙ ap (λ w. union w more) (sym (list_append total exact (version_of interval t ∷ []) (facts_from s day minutes update (interval + 1) readings)))

length_set : (readings : List Held) (k : ℕ) (reading : Held) → length (slice_set readings k reading) ≡ length readings
length_set [] k reading = refl
length_set (r ∷ readings) zero reading = refl
length_set (r ∷ readings) (suc k) reading = ap suc (length_set readings k reading)

-- a version that is set at its interval, where so many intervals have its length
pub set_said : (readings : List Held) (k update : ℕ) (row : ℕ × Version) (r : ReadingValue) → k < length readings → get_or readings k None ≡ None
    → minutes_of (length readings) ≡ row.1.length → 1 + k ≡ row.0 → update ≡ row.1.update → r ≡ row.1.reading
    → SayMore update readings (slice_set readings k (Some r)) row
set_said readings k update row r low free of_length at when same s day =
    let minutes = minutes_of (length readings) in
    ap (λ n. of (facts_from s day (minutes_of n) update 1 (slice_set readings k (Some r)))) (length_set readings k (Some r))
    ∙ interval_said s day minutes update readings k 1 r low free
    ∙ (λ i. union (of (facts_from s day minutes update 1 readings)) (of (VersionIs (key_at s day (of_length i) (at i) (when i)) (same i) ∷ [])))

-- the loop over the versions
pub start_said : (update count : ℕ) (readings : List Held) → readings ≡ replicate count None → SayRows update readings []
start_said update count readings is s day =
    let minutes = minutes_of (length readings) in
    ap (λ xs. of (facts_from s day minutes update 1 xs)) is ∙ ap of (none_said s day minutes update count 1)

pub next_said : (update : ℕ) (old new : List Held) (rows : List (ℕ × Version)) (k : ℕ) (row : ℕ × Version) → k < length rows → row ≡ slice_index_or rows k row
    → SayMore update old new row → SayRows update old (take k rows) → SayRows update new (take (k + 1) rows)
next_said update old new rows k row low is more before s day =
    let front : take (k + 1) rows ≡ take k rows ++ row ∷ [] =
    take_more rows k row low ∙ ap (λ x. take k rows ++ x ∷ []) (sym is) in
    more s day ∙ ap (λ w. union w (of (row_fact s day row ∷ []))) (before s day)
    ∙ sym (ap (λ rs. of (map (row_fact s day) rs)) front ∙ ap of (map-append (row_fact s day) (take k rows) (row ∷ []))
    ∙ list_append total exact (map (row_fact s day) (take k rows)) (row_fact s day row ∷ []))
