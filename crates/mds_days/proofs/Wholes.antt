-- A whole day: each interval has a reading.
use Rattle.std.proofs.Common.{◌≡◌, ◌<◌, ◌≤◌, ℕ, ◌+◌, ◌-◌, Bool, true, false, ◌&&◌, ◌==◌, cond, not, List, [], ◌∷◌, ◌++◌, length, get_or, take, drop, Option, Some, None, refl, sym, ap, ◌∙◌, arith, nat_le, length-take, length-drop, get_or-take, get_or-drop}
use Rattle.std.specs.Prelude.{ℤ, is_some, is_none, All}
use Rattle.std.specs.Option.{option_map_or}
use Rattle.std.specs.List.{list_any, range_with_len}
use Rattle.std.proofs.lemmas.Bool.{leb-true, and_parts, both_ways}
use Rattle.std.proofs.lemmas.List.Elements.{All-head, All-tail}
use Rattle.std.proofs.lemmas.List.Folds.{list_any_at}
use Rattle.std.proofs.lemmas.List.FromFn.{get_or-range_with_len, length-range_with_len, map-range_with_len_more}
use Rattle.mds_marks.specs.Quality.{null, variable}
use Rattle.mds_marks.specs.Reading.{ReadingValue, is_reading}
use Rattle.mds_marks.specs.declared.mark.Mark.{Mark}
use Rattle.mds_runs.specs.declared.cover.Run.{Run}
use Rattle.mds_runs.specs.Runs.{AreAscending, holds, leaves_out, mark_at, run_at}
use Rattle.mds_days.specs.Days.{DayValue, IsDay, IsRunOf, IsWhole}
use Rattle.mds_days.specs.Readings.{reading_by, readings_of}
use Rattle.mds_days.specs.RunFaults.{lacks_value}

-- ---- tests

bool_cases : (P : Bool → Type 0) (b : Bool) → (b ≡ true → P true) → (b ≡ false → P false) → P b
bool_cases P true on off = on refl
bool_cases P false on off = off refl

-- a mark that isn't variable and a value, which is there unless the mark is null
good : (a b : Bool) (v : Option ℤ) → b ≡ false → (not a && is_none v) ≡ false → (not b && cond a (is_none (cond a None v)) (is_some (cond a None v))) ≡ true
good a true v eb h = cc
good true false v eb h = refl
good false false None eb h = cc
good false false (Some z) eb h = refl

weaker : (a p q : Bool) → (p ≡ false → q ≡ false) → (not a && p) ≡ false → (not a && q) ≡ false
weaker true p q f h = refl
weaker false p q f h = f h

own_valued : (a b p : Bool) → b ≡ false → (not a && not b && p) ≡ false → (not a && p) ≡ false
own_valued true b p eb h = refl
own_valued false true p eb h = cc
own_valued false false p eb h = h

gap_free : (b p : Bool) → p ≡ true → (b && p) ≡ false → b ≡ false
gap_free true true e h = cc
gap_free true false e h = cc
gap_free false p e h = refl

-- ---- values

none_off : (values : List (Option ℤ)) (j : ℕ) → j < length values → list_any (λ value. is_none value) values ≡ false → is_none (get_or values j None) ≡ false
none_off values j lt off =
    bool_cases (λ b. b ≡ false) (is_none (get_or values j None))
    (λ on. absurd (both_ways _ off (list_any_at (λ value. is_none value) values j None lt on)))
    (λ e. refl)

-- no value of a run is empty
run_off : (values : List (Option ℤ)) (first last k : ℕ) → first ≤ k + 1 → k + 1 ≤ last → k < length values → lacks_value values first last ≡ false → is_none (get_or values k None) ≡ false
run_off values first last k lo hi lt off =
    let j : ℕ = k - (first - 1) in
    let within : j < last + 1 - first = omega arith in
    let there : j < length (take (last + 1 - first) (drop (first - 1) values)) = omega (arith, length-take (last + 1 - first) (drop (first - 1) values), length-drop (first - 1) values) in
    let place : first - 1 + j ≡ k = omega arith in
    let same : get_or (take (last + 1 - first) (drop (first - 1) values)) j None ≡ get_or values k None = get_or-take _ _ j None within ∙ get_or-drop (first - 1) values j None ∙ ap (λ i. get_or values i None) place in
    sym (ap (λ v. is_none v) same) ∙ none_off _ j there off

-- ---- the run of an interval

-- the first run, or a later one
found_in : (P : Run → Type 0) (x : Run) (runs : List Run) (i : ℕ) (run : Run) → P x → (run_at runs i ≡ Some run → P run × (holds i run ≡ true)) → (b : Bool) → holds i x ≡ b → cond b (Some x) (run_at runs i) ≡ Some run → P run × (holds i run ≡ true)
found_in P x runs i run here later true is e =
    let same : x ≡ run = cc in
    rw (← same) (here, is)
found_in P x runs i run here later false is e = later e

found : (P : Run → Type 0) (runs : List Run) (i : ℕ) (run : Run) → All P runs → run_at runs i ≡ Some run → P run × (holds i run ≡ true)
found P [] i run all e = cc
found P (x ∷ runs) i run all e = found_in P x runs i run (All-head P x runs all) (λ f. found P runs i run (All-tail P x runs all) f) (holds i x) refl e

-- without a run of its own an interval has the day's mark, which isn't variable then
own_goes : (day : DayValue) → IsDay day → IsWhole day → (k : ℕ) → k < length day.values → run_at day.runs (k + 1) ≡ None → is_reading day.mark.quality.flag (reading_by day.mark (get_or day.values k None)).value ≡ true
own_goes day is whole k lt none =
    let at : get_or (range_with_len 1 (length day.values)) k 0 ≡ k + 1 = get_or-range_with_len 1 (length day.values) k 0 lt ∙ omega arith in
    let out : leaves_out (length day.values) day.runs ≡ true = list_any_at (λ i. is_none (run_at day.runs i)) (range_with_len 1 (length day.values)) k 0 (omega (arith, length-range_with_len 1 (length day.values))) (ap (λ i. is_none (run_at day.runs i)) at ∙ ap (λ o. is_none o) none) in
    let fixed = gap_free (day.mark.quality.flag == variable) _ out whole in
    good (day.mark.quality.flag == null) (day.mark.quality.flag == variable) (get_or day.values k None) fixed
    (weaker (day.mark.quality.flag == null) _ _ (λ off. none_off day.values k lt off) (own_valued _ _ _ fixed is.own))

run_goes : (day : DayValue) → IsDay day → (k : ℕ) → k < length day.values → (run : Run) → run_at day.runs (k + 1) ≡ Some run → is_reading run.mark.quality.flag (reading_by run.mark (get_or day.values k None)).value ≡ true
run_goes day is k lt run e =
    let there = found (IsRunOf day.values) day.runs (k + 1) run is.marked e in
    let parts = and_parts (nat_le run.first (k + 1)) (nat_le (k + 1) run.last) there.1 in
    good (run.mark.quality.flag == null) (run.mark.quality.flag == variable) (get_or day.values k None) there.0.not_variable
    (weaker (run.mark.quality.flag == null) _ _ (λ off. run_off day.values run.first run.last k (leb-true _ _ parts.0) (leb-true _ _ parts.1) lt off) there.0.valued)

goes_by : (day : DayValue) → IsDay day → IsWhole day → (k : ℕ) → k < length day.values → (o : Option Run) → run_at day.runs (k + 1) ≡ o → is_reading (option_map_or (λ (run : Run). run.mark) o day.mark).quality.flag (reading_by (option_map_or (λ (run : Run). run.mark) o day.mark) (get_or day.values k None)).value ≡ true
goes_by day is whole k lt None e = own_goes day is whole k lt e
goes_by day is whole k lt (Some run) e = run_goes day is k lt run e

-- the mark and the value of an interval of a whole day are those of a reading
pub goes_together : (day : DayValue) → IsDay day → IsWhole day → (k : ℕ) → k < length day.values → is_reading (mark_at day.runs day.mark (k + 1)).quality.flag (reading_by (mark_at day.runs day.mark (k + 1)) (get_or day.values k None)).value ≡ true
goes_together day is whole k lt = goes_by day is whole k lt (run_at day.runs (k + 1)) refl

-- and those that a loop has in hand
pub goes : (day : DayValue) → IsDay day → IsWhole day → (k : ℕ) → k < length day.values → (mark : Mark) (value : Option ℤ) → mark ≡ mark_at day.runs day.mark (k + 1) → value ≡ get_or day.values k None → is_reading mark.quality.flag (reading_by mark value).value ≡ true
goes day is whole k lt mark value em ev = rw (em, ev) (goes_together day is whole k lt)

-- ---- the loops over intervals

-- the runs that are left give the intervals from one on the marks that all runs give them
pub record GoOn (own : Mark) (all : List Run) (from : ℕ) (left : List Run) : Type 0 where
  pub ascending : AreAscending left
  pub marks : (i : ℕ) → from ≤ i → mark_at left own i ≡ mark_at all own i

pub GoOn-next : (own : Mark) (all left rest : List Run) (k : ℕ) → GoOn own all (k + 1) left → AreAscending rest → ((i : ℕ) → k + 1 ≤ i → mark_at rest own i ≡ mark_at left own i) → GoOn own all (k + 1 + 1) rest
GoOn-next own all left rest k h asc later = record { ascending = asc; marks = λ i lo. later i (omega arith) ∙ h.marks i (omega arith) }

-- one more interval
pub readings_more : (own : Mark) (runs : List Run) (values : List (Option ℤ)) (k : ℕ) → readings_of (k + 1) own runs values ≡ readings_of k own runs values ++ reading_by (mark_at runs own (k + 1)) (get_or values k None) ∷ []
readings_more own runs values k =
    let f : ℕ → ReadingValue = λ i. reading_by (mark_at runs own i) (get_or values (i - 1) None) in
    let e : k + 1 - 1 ≡ k = omega arith in
    map-range_with_len_more f 1 k (k + 1) (omega arith)
    ∙ ap (λ j. readings_of k own runs values ++ reading_by (mark_at runs own (k + 1)) (get_or values j None) ∷ []) e

-- after which it is among those made
pub readings_push : (own : Mark) (runs : List Run) (values : List (Option ℤ)) (k : ℕ) (old new : List ReadingValue) (reading : ReadingValue) (mark : Mark) (value : Option ℤ) → old ≡ readings_of k own runs values → new ≡ old ++ reading ∷ [] → reading ≡ reading_by mark value → mark ≡ mark_at runs own (k + 1) → value ≡ get_or values k None → new ≡ readings_of (k + 1) own runs values
readings_push own runs values k old new reading mark value before pushed is em ev =
    let same : reading_by mark value ≡ reading_by (mark_at runs own (k + 1)) (get_or values k None) = rw (em, ev) refl in
    pushed ∙ ap (λ (xs : List ReadingValue). xs ++ reading ∷ []) before
    ∙ ap (λ (r : ReadingValue). readings_of k own runs values ++ r ∷ []) (is ∙ same)
    ∙ sym (readings_more own runs values k)
