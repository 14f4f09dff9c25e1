-- What values say together, one value after the other.
use Rattle.std.proofs.Common.{◌≡◌, ℕ, ◌+◌, ◌-◌, ◌*◌, ◌^◌, ◌<◌, ◌≤◌, unsigned_abs, to_z, of_z, Bool, true, false, not, ◌||◌, eqb, List, [], ◌∷◌, ◌++◌, length, take, drop, set, map, get_or, Option, Some, None, is_some, refl, sym, ◌∙◌, ap, arith, rules, if◌then◌else◌, ◌+ℤ◌, pos, ℤ, Result, Ok, Err, is_ok, add-zero, ◌⊎◌, inl, inr, length-drop}
use Rattle.std.proofs.lemmas.Int.{to_z-of_z, fits_signed_from_abs}
use Rattle.std.specs.Int.{w128}
use Rattle.std.specs.List.{position_or_len}
use Rattle.std.proofs.lemmas.List.{take_more, take_more_set, take_all, map-append, length-map, length-take-le, drop-drop, get_or-drop}
use Rattle.std.proofs.lemmas.List.Sums.{fold_push, prefix_len-le-length, passes_at_first}
use Rattle.std.proofs.lemmas.List.Splits.{length-slice_split}
use Rattle.std.proofs.lemmas.Bool.{cases_lt, ne_eqb}
use Rattle.std.proofs.lemmas.Bool.Decides.{nat_tests}
use Rattle.mds_quantity.specs.declared.quantity.QuantityFault.{QuantityFault}
use Rattle.mds_quantity.specs.declared.quantity.QuantityFault.TheVariants.{Form}
use Rattle.mds_quantity.specs.Quantity.{denoted}
use Rattle.mds_lines.specs.Lines.{is_comma, fields_of}
use Rattle.mds_records.specs.Records.{sum_of, amount_of, quantity_in}
use Rattle.mds_lines.specs.Rest.{first_of}
use Rattle.mds_records.specs.RecordSteps.{first_false, is_empty_or_quantity}
use Rattle.mds_records.proofs.Rests.{one_field, more_fields, taken_at}

-- with one test more
pub first_false_push : (n : ℕ) (tests : List Bool) (test : Bool) → first_false n (tests ++ test ∷ []) ≡ (if is_some (first_false n tests) || test then first_false n tests else Some (n + length tests))
first_false_push n [] true = refl
first_false_push n [] false = ap Some (sym (add-zero n))
first_false_push n (true ∷ tests) test = first_false_push (n + 1) tests test ∙ ap (λ m. if is_some (first_false (n + 1) tests) || test then first_false (n + 1) tests else Some m) (omega arith)
first_false_push n (false ∷ tests) test = refl

-- one more value in its slot
pub slot_more : (slots : List (Option ℤ)) (fields : List (List ℕ)) (k : ℕ) → k < length slots → k < length fields → take k slots ≡ map quantity_in (take k fields)
    → take (k + 1) (set slots k (quantity_in (get_or fields k []))) ≡ map quantity_in (take (k + 1) fields)
slot_more slots fields k slot there e =
    take_more_set slots k (quantity_in (get_or fields k [])) slot ∙ ap (λ xs. xs ++ quantity_in (get_or fields k []) ∷ []) e
    ∙ sym (ap (map quantity_in) (take_more fields k [] there) ∙ map-append quantity_in (take k fields) (get_or fields k [] ∷ []))

-- the same of the first k + 1 fields
pub first_false_more : (p : List ℕ → Bool) (fields : List (List ℕ)) (k : ℕ) → k < length fields → first_false 3 (map p (take (k + 1) fields))
    ≡ (if is_some (first_false 3 (map p (take k fields))) || p (get_or fields k []) then first_false 3 (map p (take k fields)) else Some (k + 3))
first_false_more p fields k lt =
    let taken : length (map p (take k fields)) ≡ k = length-map (take k fields) p ∙ length-take-le k fields (omega arith) in
    ap (λ xs. first_false 3 (map p xs)) (take_more fields k [] lt) ∙ ap (first_false 3) (map-append p (take k fields) (get_or fields k [] ∷ []))
    ∙ first_false_push 3 (map p (take k fields)) (p (get_or fields k []))
    ∙ ap (λ m. if is_some (first_false 3 (map p (take k fields))) || p (get_or fields k []) then first_false 3 (map p (take k fields)) else Some m) (omega arith)

-- the sum of the first k + 1 fields
pub sum_of_more : (fields : List (List ℕ)) (k : ℕ) → k < length fields → sum_of (take (k + 1) fields) ≡ sum_of (take k fields) +ℤ amount_of (denoted (get_or fields k []))
sum_of_more fields k lt = ap sum_of (take_more fields k [] lt) ∙ fold_push (λ sum text. sum +ℤ amount_of (denoted text)) (pos 0) (take k fields) (get_or fields k [])

first_by : (text : List ℕ) (n : ℕ) → n ≡ position_or_len is_comma text → (n ≡ length text) ⊎ (n < length text) → first_of (fields_of text) ≡ take n text
first_by text n e (inl l) = ap first_of (one_field text n e l) ∙ sym (take_all n text (omega arith))
first_by text n e (inr lt) = ap first_of (more_fields text n e lt)

first_field : (text : List ℕ) (n : ℕ) → n ≡ position_or_len is_comma text → first_of (fields_of text) ≡ take n text
first_field text n e =
    let le : position_or_len is_comma text ≤ length text = prefix_len-le-length (λ c. not (is_comma c)) text in
    elim (cases_lt n (length text)) [ inl lt ↦ first_by text n e (inr lt) | inr past ↦ first_by text n e (inl (omega arith)) ]

-- what the field at a place says of the fields of a text
pub record FieldAt (text : List ℕ) (fields : List (List ℕ)) (at k n : ℕ) : Type 0 where
  pub there : k < length fields
  pub within : at + n ≤ length text
  pub field : take n (drop at text) ≡ get_or fields k []
  pub size : length (get_or fields k []) ≡ n
  pub last : at + n ≡ length text → length fields ≡ k + 1
  pub more : at + n < length text → (fields_of (drop (at + n + 1) text) ≡ drop (k + 1) fields) × (get_or text (at + n) 0 ≡ 44)

is_comma_44 : (c : ℕ) → is_comma c ≡ true → c ≡ 44
is_comma_44 c h = search (rules, nat_tests)

pub field_at : (text : List ℕ) (fields : List (List ℕ)) (at k n : ℕ) → at ≤ length text → fields_of (drop at text) ≡ drop k fields → n ≡ position_or_len is_comma (drop at text) → FieldAt text fields at k n
field_at text fields at k n within left e =
    let some : 0 < length (fields_of (drop at text)) = omega (arith, length-slice_split is_comma (drop at text)) in
    let counted : length (fields_of (drop at text)) ≡ length fields - k = ap length left ∙ length-drop k fields in
    let rest : length (drop at text) ≡ length text - at = length-drop at text in
    let le : position_or_len is_comma (drop at text) ≤ length (drop at text) = prefix_len-le-length (λ c. not (is_comma c)) (drop at text) in
    let there : k < length fields = omega arith in
    let field : take n (drop at text) ≡ get_or fields k [] = sym (first_field (drop at text) n e) ∙ taken_at fields (fields_of (drop at text)) k left in
    record {
      there = there;
      within = omega arith;
      field = field;
      size = ap length (sym field) ∙ length-take-le n (drop at text) (omega arith);
      last = λ l. let one : length (fields_of (drop at text)) ≡ 1 = ap length (one_field (drop at text) n e (omega arith)) in omega arith;
      more = λ lt.
          let cut : fields_of (drop at text) ≡ take n (drop at text) ∷ fields_of (drop (n + 1) (drop at text)) = more_fields (drop at text) n e (omega arith) in (
            ap fields_of (sym (drop-drop (n + 1) at text ∙ ap (λ m. drop m text) (omega arith))) ∙ ap (drop 1) (sym cut) ∙ ap (drop 1) left ∙ drop-drop 1 k fields,
            sym (get_or-drop at text n 0) ∙ ap (λ m. get_or (drop at text) m 0) e ∙ is_comma_44 _ (passes_at_first is_comma (drop at text) 0 (omega arith)),
          );
    }

-- the test of a field, from what was read of it
pub tested : (t : List ℕ) (n : ℕ) (value : Result ℤ QuantityFault) → length t ≡ n → value ≡ denoted t → (eqb n 0 || is_ok value) ≡ is_empty_or_quantity t
tested t n value e h = rw (h, ← e) refl

empty_denotes : denoted [] ≡ Err Form
unfolding denoted
empty_denotes = refl

-- a quantity is no empty field
pub quantity_is_there : (t : List ℕ) (n : ℕ) (q : ℤ) → length t ≡ n → Ok q ≡ denoted t → eqb n 0 ≡ false
quantity_is_there [] n q h e = let f = e ∙ empty_denotes in absurd (cc)
quantity_is_there (x ∷ t) n q h e = ne_eqb n 0 (λ z. omega (arith, h, z))

-- what is noted of a quantity: nothing
pub no_bad : (bad : Option ℕ) (is_empty : Bool) (n : ℕ) → bad ≡ (if is_some bad || (is_empty || true) then bad else Some n)
no_bad (Some m) is_empty n = refl
no_bad None true n = refl
no_bad None false n = refl

pub no_empty : (empty : Option ℕ) (is_empty : Bool) (n : ℕ) → is_empty ≡ false → empty ≡ (if is_some empty || not is_empty then empty else Some n)
no_empty (Some m) is_empty n h = refl
no_empty None is_empty n h = rw h refl

-- and of what is none
pub bad_noted : (bad : Option ℕ) (is_empty : Bool) (n : ℕ) → (if is_some bad || is_empty then bad else Some n) ≡ (if is_some bad || (is_empty || false) then bad else Some n)
bad_noted bad true n = refl
bad_noted bad false n = refl

-- there is always a field left, so there are more than were taken
pub left_means_more : (text : List ℕ) (at k : ℕ) → fields_of (drop at text) ≡ drop k (fields_of text) → k < length (fields_of text)
left_means_more text at k left =
    let some : 0 < length (fields_of (drop at text)) = omega (arith, length-slice_split is_comma (drop at text)) in
    let counted : length (fields_of (drop at text)) ≡ length (fields_of text) - k = ap length left ∙ length-drop k (fields_of text) in
    omega arith

-- the sum of a day's values is an i128
pub sum_fits : (sum : ℤ) (n : ℕ) → n ≤ 288 → unsigned_abs sum ≤ n * 10 ^ 18 → to_z w128 (of_z w128 sum) ≡ sum
sum_fits sum n few small = to_z-of_z w128 sum (fits_signed_from_abs w128 sum (omega arith))

-- one more field that passes, where none before it failed
pub none_false_more : (p : List ℕ → Bool) (fields : List (List ℕ)) (k : ℕ) → k < length fields → p (get_or fields k []) ≡ true → first_false 3 (map p (take k fields)) ≡ None → first_false 3 (map p (take (k + 1) fields)) ≡ None
none_false_more p fields k there h e = first_false_more p fields k there ∙ rw (h, e) refl

-- one more value below 10^18 keeps a sum small
pub more_small : (a b k : ℕ) → a ≤ b + 10 ^ 18 → b ≤ k * 10 ^ 18 → a ≤ (k + 1) * 10 ^ 18
more_small a b k h e = omega arith
