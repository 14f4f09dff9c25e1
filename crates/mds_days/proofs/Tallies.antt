-- The tally of a day, from the amounts of its readings.
use Rattle.std.proofs.Common.{◌≡◌, ℕ, ◌+◌, ◌-◌, suc, zero, Bool, true, false, ◌&&◌, ◌==◌, cond, List, [], ◌∷◌, ◌++◌, length, map, get_or, Option, Some, None, refl, sym, ap, ◌∙◌, arith, append-nil, length-append}
use Rattle.std.specs.Prelude.{ℤ, ◌+ℤ◌, option_to_list, is_some, is_none, count_by, fold, pos, not, ◌≤◌, ◌*◌, ◌^◌, unsigned_abs}
use Rattle.std.specs.List.{flat_map, list_any, range_with_len}
use Rattle.std.proofs.lemmas.List.FromFn.{fill_by_all}
use Rattle.std.proofs.lemmas.Bool.Decides.{nat_tests}
use Rattle.std.proofs.lemmas.Grind.{flat_map-append}
use Rattle.std.proofs.lemmas.List.Sums.{fold-append}
use Rattle.std.proofs.lemmas.List.Recursion.{is_count_by}
use Rattle.mds_marks.specs.Quality.{null, variable}
use Rattle.mds_marks.specs.Reading.{ReadingValue}
use Rattle.mds_marks.specs.declared.mark.Mark.{Mark}
use Rattle.mds_runs.specs.declared.cover.Run.{Run}
use Rattle.mds_runs.specs.Runs.{mark_at}
use Rattle.mds_days.proofs.Wholes.{readings_more}
use Rattle.mds_days.specs.Days.{AreValuesOf}
use Rattle.mds_days.specs.declared.day.Tally.{Tally}
use Rattle.mds_days.specs.Readings.{amounts, reading_by, readings_of, total}

-- places counted from one more
shift : {X : Type 0} (f : ℕ → X) (a n : ℕ) → map f (range_with_len (a + 1) n) ≡ map (λ i. f (i + 1)) (range_with_len a n)
shift f a zero = refl
shift f a (suc n) = ap (λ xs. f (a + 1) ∷ xs) (shift f (a + 1) n)

map_map : {X Y Z : Type 0} (f : Y → Z) (g : X → Y) (xs : List X) → map (λ x. f (g x)) xs ≡ map f (map g xs)
map_map f g [] = refl
map_map f g (x ∷ xs) = ap (λ ys. f (g x) ∷ ys) (map_map f g xs)

at_one_less : (values : List (Option ℤ)) (k : ℕ) → get_or values k None ≡ get_or values (k + 1 - 1) None
at_one_less values k =
    let e : k ≡ k + 1 - 1 = omega arith in
    ap (λ i. get_or values i None) e

-- the values of all intervals, one by one
pub values_at : (values : List (Option ℤ)) → map (λ i. get_or values (i - 1) None) (range_with_len 1 (length values)) ≡ values
values_at values =
    shift (λ i. get_or values (i - 1) None) 0 (length values)
    ∙ sym (fill_by_all (λ i. get_or values (i + 1 - 1) None) values (length values) None refl (λ k lt. at_one_less values k))

-- without runs each reading has the day's own mark
own_readings : (own : Mark) (values : List (Option ℤ)) → readings_of (length values) own [] values ≡ map (reading_by own) values
own_readings own values =
    map_map (reading_by own) (λ i. get_or values (i - 1) None) (range_with_len 1 (length values))
    ∙ ap (map (reading_by own)) (values_at values)

-- so all of them at once, behind none, are the readings of the day
pub pushed_all : (own : Mark) (runs : List Run) (values all : List (Option ℤ)) (old new : List ReadingValue) → runs ≡ [] → all ≡ values → old ≡ [] → new ≡ old ++ map (reading_by own) all → new ≡ readings_of (length values) own runs values
pushed_all own runs values all old new none same fresh pushed =
    rw (none, ← same) (pushed ∙ ap (λ (xs : List ReadingValue). xs ++ map (reading_by own) all) fresh ∙ sym (own_readings own all))

amounts_null : (own : Mark) (values : List (Option ℤ)) → (own.quality.flag == null) ≡ true → amounts (map (reading_by own) values) ≡ []
amounts_null own [] e = refl
amounts_null own (v ∷ values) e =
    ap (λ b. option_to_list (cond b None v) ++ amounts (map (reading_by own) values)) e ∙ amounts_null own values e

amounts_kept : (own : Mark) (values : List (Option ℤ)) → (own.quality.flag == null) ≡ false → amounts (map (reading_by own) values) ≡ flat_map option_to_list values
amounts_kept own [] e = refl
amounts_kept own (v ∷ values) e =
    ap (λ b. option_to_list (cond b None v) ++ amounts (map (reading_by own) values)) e
    ∙ ap (λ xs. option_to_list v ++ xs) (amounts_kept own values e)

-- of null quality no reading has a value
pub null_amounts : (own : Mark) (values : List (Option ℤ)) (flag : ℕ) → flag ≡ own.quality.flag → flag ≡ 78 → [] ≡ amounts (readings_of (length values) own [] values)
null_amounts own values flag is e =
    let null : (own.quality.flag == null) ≡ true = grind (arith, nat_tests) in
    sym (ap amounts (own_readings own values) ∙ amounts_null own values null)

-- else each value is that of a reading
pub own_amounts : (own : Mark) (values : List (Option ℤ)) (flag : ℕ) → flag ≡ own.quality.flag → (flag ≡ 78 → ⊥) → flat_map option_to_list values ≡ amounts (readings_of (length values) own [] values)
own_amounts own values flag is e =
    let other : (own.quality.flag == null) ≡ false = grind (arith, nat_tests) in
    sym (ap amounts (own_readings own values) ∙ amounts_kept own values other)

count_step : (v : Option ℤ) (values : List (Option ℤ)) → length (flat_map option_to_list (v ∷ values)) ≡ cond (is_some v) (1 + length (flat_map option_to_list values)) (length (flat_map option_to_list values))
count_step None values = refl
count_step (Some v) values = omega arith

-- how many values there are
pub count_amounts : (values : List (Option ℤ)) → length (flat_map option_to_list values) ≡ count_by (λ value. is_some value) values
count_amounts = is_count_by (λ (values : List (Option ℤ)). length (flat_map option_to_list values)) (λ value. is_some value) refl count_step

all_there : (values : List (Option ℤ)) → list_any (λ value. is_none value) values ≡ false → length values ≡ length (flat_map option_to_list values)
all_there [] e = refl
all_there (None ∷ values) e = cc
all_there (Some v ∷ values) e = ap suc (all_there values e)

needed : (a b c : Bool) → a ≡ false → b ≡ false → (not a && not b && c) ≡ false → c ≡ false
needed true b c ea eb h = cc
needed false true c ea eb h = cc
needed false false c ea eb h = h

-- an own mark of another flag than N and V needs a value of each interval
pub all_amounts : (own : Mark) (values : List (Option ℤ)) (flag : ℕ) → flag ≡ own.quality.flag → (flag ≡ 78 → ⊥) → (flag ≡ 86 → ⊥) → AreValuesOf own values → length values ≡ length (flat_map option_to_list values)
all_amounts own values flag is e f valued =
    let other : (own.quality.flag == null) ≡ false = grind (arith, nat_tests) in
    let fixed : (own.quality.flag == variable) ≡ false = grind (arith, nat_tests) in
    all_there values (needed _ _ _ other fixed valued)

-- ---- the tally of intervals one by one

-- one more reading
amounts_more : (readings : List ReadingValue) (reading : ReadingValue) → amounts (readings ++ reading ∷ []) ≡ amounts readings ++ option_to_list reading.value
amounts_more readings reading =
    flat_map-append (λ (reading : ReadingValue). option_to_list reading.value) readings (reading ∷ [])
    ∙ ap (λ xs. amounts readings ++ xs) (append-nil (option_to_list reading.value))

total_more : (xs ys : List ℤ) → total (xs ++ ys) ≡ fold (λ sum value. sum +ℤ value) (total xs) ys
total_more xs ys = fold-append (λ sum value. sum +ℤ value) (pos 0) xs ys

one_at_most : (v : Option ℤ) → length (option_to_list v) ≤ 1
one_at_most None = omega arith
one_at_most (Some v) = omega arith

-- a tally of some amounts, each of at most one of so many intervals
pub record Counts (k : ℕ) (values : List ℤ) (tally : Tally) : Type 0 where
  pub few : tally.count ≤ k
  pub count : tally.count ≡ length values
  pub sum : tally.total ≡ total values
  pub small : unsigned_abs tally.total ≤ tally.count * 10 ^ 18

Counts-push : (k : ℕ) (values : List ℤ) (old new : Tally) (v : Option ℤ) → Counts k values old → new.count ≡ old.count + length (option_to_list v) → new.total ≡ fold (λ sum value. sum +ℤ value) old.total (option_to_list v) → unsigned_abs new.total ≤ new.count * 10 ^ 18 → Counts (k + 1) (values ++ option_to_list v) new
Counts-push k values old new v h count sum small = record {
  few = omega (arith, one_at_most v);
  count = omega (arith, length-append values (option_to_list v));
  sum = sum ∙ ap (λ z. fold (λ sum value. sum +ℤ value) z (option_to_list v)) h.sum ∙ sym (total_more values (option_to_list v));
  small = small;
}

pub Counts-more : (k : ℕ) (own : Mark) (runs : List Run) (values : List (Option ℤ)) (old new : Tally) (mark : Mark) (value : Option ℤ) → Counts k (amounts (readings_of k own runs values)) old → mark ≡ mark_at runs own (k + 1) → value ≡ get_or values k None → new.count ≡ old.count + length (option_to_list (reading_by mark value).value) → new.total ≡ fold (λ sum value. sum +ℤ value) old.total (option_to_list (reading_by mark value).value) → unsigned_abs new.total ≤ new.count * 10 ^ 18 → Counts (k + 1) (amounts (readings_of (k + 1) own runs values)) new
Counts-more k own runs values old new mark value h em ev count sum small =
    let same : reading_by mark value ≡ reading_by (mark_at runs own (k + 1)) (get_or values k None) = rw (em, ev) refl in
    let all : amounts (readings_of (k + 1) own runs values) ≡ amounts (readings_of k own runs values) ++ option_to_list (reading_by mark value).value = ap amounts (readings_more own runs values k) ∙ amounts_more (readings_of k own runs values) (reading_by (mark_at runs own (k + 1)) (get_or values k None)) ∙ ap (λ (reading : ReadingValue). amounts (readings_of k own runs values) ++ option_to_list reading.value) (sym same) in
    rw all (Counts-push k _ old new (reading_by mark value).value h count sum small)
