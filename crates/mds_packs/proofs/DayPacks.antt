-- The body of a day of which each interval has a reading, as it is written.
use Rattle.std.proofs.Common.{◌≡◌, ◌<◌, ◌≤◌, ◌+◌, ℕ, true, Option, Some, List, [], ◌∷◌, ◌++◌, ℤ, length, map, get_or, take, refl, sym, ap, ◌∙◌, arith}
use Rattle.std.specs.List.{flat_map, list_all}
use Rattle.std.proofs.lemmas.List.{flat_map_more, length-map, take_more}
use Rattle.std.proofs.lemmas.List.Folds.{flat_map-map, list_all-map}
use Rattle.mds_marks.specs.Reading.{ReadingValue, is_lawful}
use Rattle.mds_runs.specs.declared.cover.Run.{Run}
use Rattle.mds_runs.specs.Gaps.{runs_of}
use Rattle.mds_packs.specs.Body.{IsDay, body_of, is_held_lawful, marks_of, reading_bytes, run_bytes, runs_in, two, value_bytes}
use Rattle.mds_packs.proofs.Packs.{few_runs}

-- each of the readings is held
abbrev pub held : List ReadingValue → List (Option ReadingValue)
held readings = map (λ (r : ReadingValue). Some r) readings

pub held-length : (readings : List ReadingValue) → length (held readings) ≡ length readings
held-length readings = length-map readings (λ (r : ReadingValue). Some r)

marks_held : (readings : List ReadingValue) → map (λ (r : ReadingValue). Some r.mark) readings ≡ marks_of (held readings)
marks_held [] = refl
marks_held (r ∷ readings) = ap (λ l. Some r.mark ∷ l) (marks_held readings)

-- the runs of their marks
pub held-runs : (readings : List ReadingValue) (runs : List Run) → runs ≡ runs_of 1 (map (λ (r : ReadingValue). Some r.mark) readings) → runs ≡ runs_in (held readings)
held-runs readings runs is = is ∙ ap (runs_of 1) (marks_held readings)

pub held-few : (readings : List ReadingValue) (runs : List Run) → runs ≡ runs_of 1 (map (λ (r : ReadingValue). Some r.mark) readings) → length runs ≤ length readings
held-few readings runs is =
    let e = ap length (held-runs readings runs is) in
    omega (arith, e, few_runs (held readings), held-length readings)

-- a value is put behind those before it
pub one_value : (readings : List ReadingValue) (k : ℕ) (value : Option ℤ) (old now new : List ℕ) → k < length readings → ((d : ReadingValue) → value ≡ (get_or readings k d).value) → new ≡ now ++ value_bytes value → now ≡ old ++ flat_map (λ (r : ReadingValue). value_bytes r.value) (take k readings) → new ≡ old ++ flat_map (λ (r : ReadingValue). value_bytes r.value) (take (k + 1) readings)
one_value [] k value old now new lt at is so_far = absurd (omega arith)
one_value (x ∷ xs) k value old now new lt at is so_far =
    let f = λ (r : ReadingValue). value_bytes r.value in
    is
    ∙ ap (λ v. now ++ value_bytes v) (at x)
    ∙ ap (λ l. l ++ f (get_or (x ∷ xs) k x)) so_far
    ∙ flat_map_more f old (take k (x ∷ xs)) (get_or (x ∷ xs) k x)
    ∙ ap (λ l. old ++ flat_map f l) (sym (take_more (x ∷ xs) k x lt))

-- they are a day
pub held-day : (readings : List ReadingValue) → list_all is_lawful readings ≡ true → 0 < length readings → IsDay (length readings) (held readings)
held-day [] lawful some = absurd (omega arith)
held-day (r ∷ readings) lawful some = record {
  places = held-length (r ∷ readings);
  lawful = list_all-map is_held_lawful (λ (x : ReadingValue). Some x) (r ∷ readings) ∙ lawful;
  held = refl;
}

-- their body
pub held-body : (readings : List ReadingValue) (runs : List Run) (a b c d e f : List ℕ) → runs ≡ runs_of 1 (map (λ (r : ReadingValue). Some r.mark) readings) → a ≡ [] → b ≡ a ++ 1 ∷ [] → c ≡ b ++ two (length readings) → d ≡ c ++ two (length runs) → e ≡ d ++ flat_map run_bytes runs → f ≡ e ++ flat_map (λ (r : ReadingValue). value_bytes r.value) readings → f ≡ body_of (held readings)
unfolding body_of
held-body readings runs a b c d e f is ea eb ec ed ee ef =
    let all = held readings in
    let places : two (length readings) ≡ two (length all) = ap two (sym (held-length readings)) in
    let own : runs ≡ runs_in all = held-runs readings runs is in
    let b-is : b ≡ 1 ∷ [] = eb ∙ ap (λ l. l ++ 1 ∷ []) ea in
    let c-is : c ≡ (1 ∷ []) ++ two (length all) = ec ∙ ap (λ l. l ++ two (length readings)) b-is ∙ ap (λ l. (1 ∷ []) ++ l) places in
    let d-is : d ≡ ((1 ∷ []) ++ two (length all)) ++ two (length (runs_in all)) = ed ∙ ap (λ l. l ++ two (length runs)) c-is ∙ ap (λ (l : List Run). ((1 ∷ []) ++ two (length all)) ++ two (length l)) own in
    let e-is : e ≡ (((1 ∷ []) ++ two (length all)) ++ two (length (runs_in all))) ++ flat_map run_bytes (runs_in all) = ee ∙ ap (λ l. l ++ flat_map run_bytes runs) d-is ∙ ap (λ (l : List Run). (((1 ∷ []) ++ two (length all)) ++ two (length (runs_in all))) ++ flat_map run_bytes l) own in
    ef
    ∙ ap (λ l. l ++ flat_map (λ (r : ReadingValue). value_bytes r.value) readings) e-is
    ∙ ap (λ l. ((((1 ∷ []) ++ two (length all)) ++ two (length (runs_in all))) ++ flat_map run_bytes (runs_in all)) ++ l) (sym (flat_map-map reading_bytes (λ (r : ReadingValue). Some r) readings))
