-- What an accepted record says together with the values that were read with it.
use Rattle.std.proofs.Common.{◌≡◌, ℕ, ◌+◌, Bool, true, false, not, ◌&&◌, ◌||◌, eqb, List, [], ◌∷◌, ◌++◌, length, map, fold, flat_map, Option, Some, None, is_none, ℤ, pos, ◌+ℤ◌, Result, Ok, Err, is_ok, codes, if◌then◌else◌, option_map, refl, sym, ◌∙◌, ap, arith}
use Rattle.std.proofs.lemmas.Bool.Decides.{nat_tests}
use Rattle.std.proofs.lemmas.Int.{ints}
use Rattle.std.specs.List.{list_any}
use Rattle.std.specs.Option.{option_to_list}
use Rattle.std.specs.Result.{result_ok}
use Rattle.mds_quantity.specs.Quantity.{denoted}
use Rattle.mds_quantity.specs.declared.quantity.QuantityFault.{QuantityFault}
use Rattle.mds_marks.specs.BorrowedMarks.{mark_value}
use Rattle.mds_marks.specs.Mark.{mark_of}
use Rattle.mds_marks.specs.declared.mark.MarkRef.{MarkRef}
use Rattle.mds_marks.specs.Quality.{QualityValue, null, variable, stands_alone, has_method, quality_of}
use Rattle.mds_records.specs.Layouts.{has_flag}
use Rattle.mds_records.specs.RecordSteps.{first_false, is_empty_or_quantity, is_there, lesser, or_else}
use Rattle.mds_records.specs.Records.{amount_of, quantity_in, sum_of}
use Rattle.mds_records.proofs.Terms.{parts_of}

-- the sum of values, and that of the values of fields, from a sum on
abbrev total : ℤ → List ℤ → ℤ
total from values = fold (λ sum value. sum +ℤ value) from values

abbrev total_of : ℤ → List (List ℕ) → ℤ
total_of from texts = fold (λ sum text. sum +ℤ amount_of (denoted text)) from texts

nothing_more : (sum : ℤ) → sum +ℤ pos 0 ≡ sum
nothing_more sum = omega (arith, ints)

one_more : (sum : ℤ) (texts : List (List ℕ)) (values : List ℤ) (value : Result ℤ QuantityFault) → ((from : ℤ) → total_of from texts ≡ total from values)
    → total_of (sum +ℤ amount_of value) texts ≡ total sum (option_to_list (result_ok value) ++ values)
one_more sum texts values (Ok amount) same = same (sum +ℤ amount)
one_more sum texts values (Err fault) same = ap (λ from. total_of from texts) (nothing_more sum) ∙ same sum

total_held : (texts : List (List ℕ)) (from : ℤ) → total_of from texts ≡ total from (flat_map option_to_list (map quantity_in texts))
total_held [] from = refl
total_held (text ∷ texts) from = one_more from texts (flat_map option_to_list (map quantity_in texts)) (denoted text) (total_held texts)

-- the sum of fields is that of the values that are there
pub sum_held : (texts : List (List ℕ)) (values : List (Option ℤ)) → values ≡ map quantity_in texts → sum_of texts ≡ total (pos 0) (flat_map option_to_list values)
sum_held texts values held = total_held texts (pos 0) ∙ ap (λ held. total (pos 0) (flat_map option_to_list held)) (sym held)

-- where no field is bad and none is empty, no value is missing
one_there : (n : ℕ) (is_empty : Bool) (value : Result ℤ QuantityFault) (good there : List Bool) (values : List (Option ℤ))
    → (first_false (n + 1) good ≡ None → first_false (n + 1) there ≡ None → list_any (λ value. is_none value) values ≡ false)
    → first_false n ((is_empty || is_ok value) ∷ good) ≡ None → first_false n (not is_empty ∷ there) ≡ None
    → (is_none (result_ok value) || list_any (λ value. is_none value) values) ≡ false
one_there n true value good there values more g t = absurd (cc)
one_there n false (Ok amount) good there values more g t = more g t
one_there n false (Err fault) good there values more g t = absurd (cc)

none_missing : (n : ℕ) (texts : List (List ℕ)) → first_false n (map is_empty_or_quantity texts) ≡ None → first_false n (map is_there texts) ≡ None
    → list_any (λ value. is_none value) (map quantity_in texts) ≡ false
none_missing n [] g t = refl
none_missing n (text ∷ texts) g t =
    one_there n (eqb (length text) 0) (denoted text) (map is_empty_or_quantity texts) (map is_there texts) (map quantity_in texts) (none_missing (n + 1) texts) g t

-- a flag that was read is one of the six
abbrev is_known : ℕ → Bool
is_known flag = stands_alone flag || has_method flag

known_from : (flag : ℕ) (alone method : Bool) (is_empty is_method : Bool) (digits : ℕ) (q : QualityValue)
    → Some q ≡ option_map (λ method. record { flag = flag; method = method }) (if alone then (if is_empty then Some 0 else None) else (if method && is_method then Some digits else None))
    → (q.flag ≡ flag) × ((alone || method) ≡ true)
known_from flag true method true is_method digits q e = (cc, refl)
known_from flag true method false is_method digits q e = absurd (cc)
known_from flag false true is_empty true digits q e = (cc, refl)
known_from flag false true is_empty false digits q e = absurd (cc)
known_from flag false false is_empty is_method digits q e = absurd (cc)

known : (text : List ℕ) (q : QualityValue) → Some q ≡ quality_of text → is_known q.flag ≡ true
unfolding quality_of
known [] q e = absurd (cc)
known (flag ∷ rest) q e =
    let from = known_from flag (stands_alone flag) (has_method flag) _ _ _ q e in
    ap is_known from.0 ∙ from.1

-- one that means no values is N or V
by_letter : (a n v e f s : Bool) → ((a || n || v) || (e || f || s)) ≡ true → (a || (e || (f || (s || false)))) ≡ false → (not n && not v) ≡ false
by_letter true n v e f s k m = absurd (cc)
by_letter false true v e f s k m = refl
by_letter false false true e f s k m = refl
by_letter false false false true f s k m = absurd (cc)
by_letter false false false false true s k m = absurd (cc)
by_letter false false false false false true k m = absurd (cc)
by_letter false false false false false false k m = absurd (cc)

no_values_meant : (q : QualityValue) → is_known q.flag ≡ true → has_flag (codes "AEFS") (Some q) ≡ false → (not (eqb q.flag null) && not (eqb q.flag variable)) ≡ false
no_values_meant q k m = by_letter (eqb q.flag 65) (eqb q.flag 78) (eqb q.flag 86) (eqb q.flag 69) (eqb q.flag 70) (eqb q.flag 83) k m

-- where no value of a day is at fault, none is bad, nor empty where values have to be there
no_lesser : (m n : Option ℕ) → lesser m n ≡ None → (m ≡ None) × (n ≡ None)
no_lesser None n h = (refl, h)
no_lesser (Some m) None h = absurd (cc)
no_lesser (Some m) (Some n) h = absurd (cc)

no_value_bad : (is_day : Bool) (in_values after least : Option ℕ) → least ≡ (if is_day then or_else in_values after else Some 2) → least ≡ None → in_values ≡ None
no_value_bad false in_values after least is none = let wrong = sym is ∙ none in absurd (cc)
no_value_bad true None after least is none = refl
no_value_bad true (Some n) after least is none = let wrong = sym is ∙ none in absurd (cc)

-- so none is missing unless the day's quality is N or V
and_false : (a : Bool) → (a && false) ≡ false
and_false true = refl
and_false false = refl

by_meaning : (means needs : Bool) (texts : List (List ℕ)) (bad empty : Option ℕ)
    → bad ≡ first_false 3 (map is_empty_or_quantity texts) → empty ≡ first_false 3 (map is_there texts)
    → lesser bad (if means then empty else None) ≡ None → (means ≡ false → needs ≡ false)
    → (needs && list_any (λ value. is_none value) (map quantity_in texts)) ≡ false
by_meaning false needs texts bad empty b e none not_needed = rw (not_needed refl) refl
by_meaning true needs texts bad empty b e none not_needed =
    let both = no_lesser bad empty none in
    ap (λ missing. needs && missing) (none_missing 3 texts (sym b ∙ both.0) (sym e ∙ both.1)) ∙ and_false needs

pub values_there : (text : List ℕ) (q : QualityValue) (texts : List (List ℕ)) (values : List (Option ℤ)) (is_day means : Bool) (bad empty in_values after least : Option ℕ)
    → Some q ≡ quality_of text → values ≡ map quantity_in texts → means ≡ has_flag (codes "AEFS") (Some q)
    → bad ≡ first_false 3 (map is_empty_or_quantity texts) → empty ≡ first_false 3 (map is_there texts)
    → in_values ≡ lesser bad (if means then empty else None)
    → least ≡ (if is_day then or_else in_values after else Some 2) → least ≡ None
    → (not (eqb q.flag null) && not (eqb q.flag variable) && list_any (λ value. is_none value) values) ≡ false
values_there text q texts values is_day means bad empty in_values after least read held m b e i l none =
    let needs : Bool = not (eqb q.flag null) && not (eqb q.flag variable) in
    ap (λ held. needs && list_any (λ value. is_none value) held) held
    ∙ by_meaning means needs texts bad empty b e (sym i ∙ no_value_bad is_day in_values after least l none) (λ none. no_values_meant q (known text q read) (sym m ∙ none))

-- the quality of a mark that was read
pub quality_read : (quality code text : List ℕ) (read : Option MarkRef) (m : MarkRef) → option_map mark_value read ≡ mark_of quality code text → read ≡ Some m → Some m.quality ≡ quality_of quality
quality_read quality code text read m value is =
    let parts = parts_of quality code text (mark_value m) (sym (ap (λ (o : Option MarkRef). option_map mark_value o) is) ∙ value) in parts.quality_is

-- the quality of an event isn't V
pub not_variable : (q : QualityValue) → has_flag (codes "AEFNS") (Some q) ≡ true → eqb q.flag variable ≡ false
not_variable q h = grind (arith, nat_tests)
