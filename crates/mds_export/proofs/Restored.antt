-- Readings are what their written values and marks say, and rows what their fields say.
use Rattle.std.proofs.Common.{◌≡◌, ◌<◌, ◌+◌, ◌-◌, ℕ, zero, suc, Bool, true, false, ◌&&◌, not, cond, eqb, List, [], ◌∷◌, length, map, get_or, slice_get, ℤ, pos, Option, Some, None, is_some, is_none, unwrap_or, IsTrue, refl, sym, ap, ◌∙◌, arith, add-zero}
use Rattle.std.specs.List.{range_with_len}
use Rattle.std.proofs.lemmas.Bool.{and_parts}
use Rattle.std.proofs.lemmas.List.Elements.{All-head, All-tail}
use Rattle.mds_marks.specs.Mark.{is_mark}
use Rattle.mds_marks.specs.Quality.{null, variable}
use Rattle.mds_marks.specs.Reading.{ReadingValue, is_lawful, is_reading, is_value}
use Rattle.mds_marks.specs.declared.mark.Mark.{Mark}
use Rattle.mds_runs.specs.Runs.{mark_at}
use Rattle.mds_runs.specs.declared.cover.Run.{Run}
use Rattle.mds_days.specs.Readings.{reading_by, readings_of}
use Rattle.mds_export.specs.Exports.{marks_of}
use Rattle.mds_export.proofs.Bounds.{AreLawfulReadings}

-- the values as they are written: a null value as 0
abbrev pub written_values : List ReadingValue → List (Option ℤ)
written_values readings = map (λ reading. Some (unwrap_or reading.value (pos 0))) readings

value_back : (b : Bool) (o : Option ℤ) → cond b (is_none o) (is_some o) ≡ true → cond b None (Some (unwrap_or o (pos 0))) ≡ o
value_back true None e = refl
value_back true (Some z) e = absurd (cc)
value_back false None e = absurd (cc)
value_back false (Some z) e = refl

reading_back : (reading : ReadingValue) → is_lawful reading ≡ true → reading_by reading.mark (Some (unwrap_or reading.value (pos 0))) ≡ reading
reading_back reading h =
    let flag = reading.mark.quality.flag in
    let parts = and_parts (is_mark reading.mark && is_value reading.value) (is_reading flag reading.value) h in
    let value = and_parts (not (eqb flag variable)) (cond (eqb flag null) (is_none reading.value) (is_some reading.value)) parts.1 in
    ap (λ v. record { mark = reading.mark; value = v }) (value_back (eqb flag null) reading.value value.1)

-- a reading by its place
reading_at : (readings : List ReadingValue) (k : ℕ) (mark : Mark) → AreLawfulReadings readings → k < length readings
    → slice_get (marks_of readings) k ≡ Some mark
    → slice_get readings k ≡ Some (reading_by mark (get_or (written_values readings) k None))
reading_at [] k mark h lt is = absurd (omega arith)
reading_at (reading ∷ readings) zero mark h lt is =
    let same : reading.mark ≡ mark = cc in
    ap Some (sym (reading_back reading (All-head (λ r. IsTrue (is_lawful r)) reading readings h))
    ∙ ap (λ m. reading_by m (Some (unwrap_or reading.value (pos 0)))) same)
reading_at (reading ∷ readings) (suc k) mark h lt is =
    reading_at readings k mark (All-tail (λ r. IsTrue (is_lawful r)) reading readings h) (omega arith) is

from_places : (f : ℕ → ReadingValue) (a : ℕ) (readings : List ReadingValue)
    → ((k : ℕ) → k < length readings → slice_get readings k ≡ Some (f (a + k))) → map f (range_with_len a (length readings)) ≡ readings
from_places f a [] h = refl
from_places f a (reading ∷ readings) h =
    let head : Some reading ≡ Some (f a) = h 0 (omega arith) ∙ ap (λ k. Some (f k)) (add-zero a) in
    let same : f a ≡ reading = cc in
    let tail = from_places f (a + 1) readings (λ k lt.
    let e : a + suc k ≡ a + 1 + k = omega arith in h (suc k) (omega arith) ∙ ap (λ j. Some (f j)) e) in
    λ i. same i ∷ tail i

-- all of them, where the runs give each mark
pub readings_back : (readings : List ReadingValue) (own : Mark) (runs : List Run) → AreLawfulReadings readings
    → ((k : ℕ) → k < length readings → slice_get (marks_of readings) k ≡ Some (mark_at runs own (1 + k)))
    → readings_of (length readings) own runs (written_values readings) ≡ readings
readings_back readings own runs lawful marked =
    from_places (λ i. reading_by (mark_at runs own i) (get_or (written_values readings) (i - 1) None)) 1 readings (λ k lt.
    let place : k ≡ 1 + k - 1 = omega arith in
    reading_at readings k (mark_at runs own (1 + k)) lawful lt (marked k lt)
    ∙ ap (λ j. Some (reading_by (mark_at runs own (1 + k)) (get_or (written_values readings) j None))) place)
