-- The first fault of a record's fields, from tests of each field.
use Rattle.std.proofs.Common.{◌≡◌, ℕ, zero, suc, ◌+◌, ◌-◌, ◌<◌, Bool, true, false, not, ◌||◌, eqb, List, [], ◌∷◌, ◌++◌, length, map, get_or, Option, Some, None, option_map, refl, ap, arith, rules, tests, find, if◌then◌else◌, bytes_eq}
use Rattle.std.specs.List.{range_with_len}
use Rattle.std.proofs.lemmas.Bool.Decides.{nat_tests}
use Rattle.mds_records.specs.declared.header_name.HeaderName.{HeaderName}
use Rattle.mds_records.specs.declared.header_name.HeaderName.TheVariants.{Nem12, Nem13}
use Rattle.mds_lines.specs.declared.line.Kind.{Kind}
use Rattle.mds_records.specs.declared.fault.FieldFault.{FieldFault}
use Rattle.mds_records.specs.declared.fault.FieldFault.TheVariants.{WrongFile, Count, Bad}
use Rattle.mds_records.specs.FieldFaults.{field_fault, is_of_other_file, has_wrong_count, layout_of, least_bad, is_bad}
use Rattle.mds_records.specs.Layouts.{Form, Rule, Nothing, may, must, fits, file_name}
use Rattle.mds_lines.specs.Lines.{field}
use Rattle.mds_records.specs.RecordSteps.{first_false, outcome}

first_of_tests : (p : ℕ → Bool) (a n : ℕ) (b : Bool) → p a ≡ b → find p (range_with_len (a + 1) n) ≡ first_false (a + 1) (map (λ k. not (p k)) (range_with_len (a + 1) n)) → find p (range_with_len a (suc n)) ≡ first_false a (map (λ k. not (p k)) (range_with_len a (suc n)))
first_of_tests p a n true e h = rw e refl
first_of_tests p a n false e h = rw e h

-- the first number that passes is the first whose opposite fails
pub find_first_false : (p : ℕ → Bool) (a n : ℕ) → find p (range_with_len a n) ≡ first_false a (map (λ k. not (p k)) (range_with_len a n))
find_first_false p a zero = refl
find_first_false p a (suc n) = first_of_tests p a n (p a) refl (find_first_false p (a + 1) n)

-- Whether each field is good, from field 2 on.
abbrev pub good_tests : HeaderName → List Rule → List ℕ → List Bool
good_tests file rules line = map (λ k. not (is_bad file (get_or rules (k - 2) (may Nothing)) (field line k))) (range_with_len 2 (length rules))

outcome_is : (other wrong right : Bool) (bad : Option ℕ) → right ≡ not wrong → (if other then Some WrongFile else (if wrong then Some Count else option_map Bad bad)) ≡ outcome other right bad
outcome_is true wrong right bad e = refl
outcome_is false true right bad e = rw e refl
outcome_is false false right bad e = rw e refl

pub field_fault-is : (file : HeaderName) (kind : Kind) (n : ℕ) (line : List ℕ) (other right : Bool) (tests : List Bool) → other ≡ is_of_other_file file kind line → right ≡ not (has_wrong_count kind n line) → tests ≡ good_tests file (layout_of kind n line) line → field_fault file kind n line ≡ outcome other right (first_false 2 tests)
unfolding field_fault
field_fault-is file kind n line other right tests o r t = rw (o, t, ← find_first_false (λ k. is_bad file (get_or (layout_of kind n line) (k - 2) (may Nothing)) (field line k)) 2 (length (layout_of kind n line))) (outcome_is (is_of_other_file file kind line) (has_wrong_count kind n line) right (least_bad file (layout_of kind n line) line) r)

pub suc_is_not : (n : ℕ) → eqb (suc n) 0 ≡ false
suc_is_not n = search (rules, nat_tests)

twice : (b : Bool) → b ≡ not (not b)
twice true = refl
twice false = refl

-- a kind of file has a name
pub named : (file : HeaderName) → bytes_eq [] (file_name file) ≡ false
named Nem12 = refl
named Nem13 = refl

-- a field that must be there is good if it is of its form, which the empty text isn't
pub good_must : (file : HeaderName) (form : Form) (text : List ℕ) → fits file form [] ≡ false → fits file form text ≡ not (is_bad file (must form) text)
good_must file form [] h = h
good_must file form (x ∷ xs) h = rw (suc_is_not (length xs)) (twice (fits file form (x ∷ xs)))

-- a field that may be left empty is good if it is empty or of its form
pub good_may : (file : HeaderName) (form : Form) (text : List ℕ) → (eqb (length text) 0 || fits file form text) ≡ not (is_bad file (may form) text)
good_may file form [] = refl
good_may file form (x ∷ xs) = rw (suc_is_not (length xs)) (twice (fits file form (x ∷ xs)))

-- and so if it is of its form, where the empty text is of that form too
pub good_even_empty : (file : HeaderName) (form : Form) (text : List ℕ) → fits file form [] ≡ true → fits file form text ≡ not (is_bad file (may form) text)
good_even_empty file form [] h = h
good_even_empty file form (x ∷ xs) h = rw (suc_is_not (length xs)) (twice (fits file form (x ∷ xs)))

-- lists are equal by their parts
pub same_parts : {X : Type 0} {a b : X} {xs ys : List X} → a ≡ b → xs ≡ ys → a ∷ xs ≡ b ∷ ys
same_parts e h = cc

-- where no test of a list failed, each passed
pub none_fails : (n : ℕ) (tests : List Bool) → first_false n tests ≡ None → (k : ℕ) → k < length tests → get_or tests k true ≡ true
none_fails n [] h k lt = absurd (omega arith)
none_fails n (false ∷ tests) h k lt = cc
none_fails n (true ∷ tests) h zero lt = refl
none_fails n (true ∷ tests) h (suc k) lt = none_fails (n + 1) tests h k (omega arith)

no_bad : (bad : Option ℕ) → option_map Bad bad ≡ None → bad ≡ None
no_bad None h = refl
no_bad (Some n) h = cc

-- where there is no fault, each test passed
pub each_passed : (is_other is_whole : Bool) (tests : List Bool) → outcome is_other is_whole (first_false 2 tests) ≡ None → (k : ℕ) → k < length tests → get_or tests k true ≡ true
each_passed true is_whole tests h k lt = cc
each_passed false false tests h k lt = cc
each_passed false true tests h k lt = none_fails 2 tests (no_bad (first_false 2 tests) h) k lt

-- a bad field of some of the fields is the first of all where those before it passed
pub bad_in : (from : ℕ) (good more : List Bool) (fault : FieldFault) → option_map Bad (first_false from good) ≡ Some fault → option_map Bad (first_false from (good ++ more)) ≡ Some fault
bad_in from [] more fault h = absurd (cc)
bad_in from (true ∷ good) more fault h = bad_in (from + 1) good more fault h
bad_in from (false ∷ good) more fault h = h

pub passed_in : (from next : ℕ) (good more : List Bool) → from + length good ≡ next → first_false from good ≡ None → first_false from (good ++ more) ≡ first_false next more
passed_in from next [] more n h = let same : from ≡ next = omega arith in ap (λ k. first_false k more) same
passed_in from next (true ∷ good) more n h = let n : from + 1 + length good ≡ next = omega arith in passed_in (from + 1) next good more n h
passed_in from next (false ∷ good) more n h = absurd (cc)
