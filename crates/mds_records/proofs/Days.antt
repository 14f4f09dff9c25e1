-- The first fault of a 300 record.
use Rattle.std.proofs.Common.{◌≡◌, ℕ, zero, suc, ◌+◌, ◌-◌, ◌<◌, ◌≤◌, Bool, true, false, not, ◌&&◌, ◌||◌, ltb, List, [], ◌∷◌, ◌++◌, length, take, drop, map, replicate, get_or, Option, Some, None, is_some, is_ok, refl, sym, ◌∙◌, ap, arith, rules, tests, if◌then◌else◌, add-zero, lit<, length-append, option_map, inl, inr}
use Rattle.std.specs.List.{range_with_len}
use Rattle.std.proofs.lemmas.List.{length-drop, drop-drop, get_or-drop, length-replicate, length-map, length-take-le}
use Rattle.std.proofs.lemmas.Bool.{lt-ltb, le-ltb, cases_lt}
use Rattle.mds_quantity.specs.Quantity.{denoted}
use Rattle.mds_calendar.specs.Calendar.{day_of, moment_of}
use Rattle.mds_marks.specs.Quality.{quality_of}
use Rattle.mds_marks.specs.Reason.{code_of, is_reason_text}
use Rattle.mds_terms.specs.Parts.{optional}
use Rattle.mds_records.specs.declared.header_name.HeaderName.{HeaderName}
use Rattle.mds_lines.specs.declared.line.Kind.TheVariants.{IntervalData}
use Rattle.mds_records.specs.declared.interval_values.ValueFaults.{ValueFaults}
use Rattle.mds_records.specs.declared.fault.FieldFault.TheVariants.{Count, Bad}
use Rattle.mds_records.specs.declared.interval_data.DayFields.{DayFields}
use Rattle.mds_records.specs.FieldFaults.{field_fault, is_bad, layout_of}
use Rattle.mds_records.specs.Layouts.{Rule, Value, DayDate, QualityMethod, ReasonNumber, ReasonWords, Nothing, MomentTime, may, must, layout, means_values}
use Rattle.mds_lines.specs.Lines.{field, fields_of}
use Rattle.mds_lines.specs.Rest.{first_of, are_blank}
use Rattle.mds_records.specs.RecordSteps.{first_false, HasDayFields, HasWrongCount, is_empty_or_quantity, is_there, lesser, or_else}
use Rattle.mds_records.proofs.Rests.{right_count, taken_at, left_at}
use Rattle.mds_records.proofs.Rules.{field_fault-is, good_tests, good_must, good_may, good_even_empty, none_fails, same_parts, suc_is_not}
use Rattle.mds_records.proofs.Terms.{no_day, no_quality, empty_code, empty_text, optional_good}

-- the rule of a value
abbrev value_rule : Bool → Rule
value_rule there = record { may_be_empty = not there; form = Value }

-- the tests of fields by their rules, one after the other
abbrev tests_of : HeaderName → List Rule → List (List ℕ) → List Bool
tests_of file [] fields = []
tests_of file (rule ∷ rules) fields = not (is_bad file rule (first_of fields)) ∷ tests_of file rules (drop 1 fields)

-- tests that agree from a number on are the same over a range from there
same_on : (a n : ℕ) (p q : ℕ → Bool) → ((k : ℕ) → a ≤ k → p k ≡ q k) → map p (range_with_len a n) ≡ map q (range_with_len a n)
same_on a zero p q h = refl
same_on a (suc n) p q h = same_parts (h a (omega arith)) (same_on (a + 1) n p q (λ k above. h k (omega arith)))

sub_self : (a : ℕ) → a - a ≡ 0
sub_self a = omega arith

first_at : (all : List (List ℕ)) (k : ℕ) → get_or all k [] ≡ first_of (drop k all)
first_at all k = sym (get_or-drop k all 0 [] ∙ ap (λ i. get_or all i []) (omega arith))

rule_after : (rule : Rule) (rules : List Rule) (a k : ℕ) → a + 1 ≤ k → get_or (rule ∷ rules) (k - a) (may Nothing) ≡ get_or rules (k - (a + 1)) (may Nothing)
rule_after rule rules a k above = let e : k - a ≡ suc (k - (a + 1)) = omega arith in ap (λ i. get_or (rule ∷ rules) i (may Nothing)) e

one_after : (all : List (List ℕ)) (a : ℕ) → 0 < a → drop (a + 1 - 1) all ≡ drop 1 (drop (a - 1) all)
one_after all a low = ap (λ n. drop n all) (omega arith) ∙ sym (drop-drop 1 (a - 1) all)

tests_from : (file : HeaderName) (rules : List Rule) (all : List (List ℕ)) (a : ℕ) → 0 < a → map (λ k. not (is_bad file (get_or rules (k - a) (may Nothing)) (get_or all (k - 1) []))) (range_with_len a (length rules)) ≡ tests_of file rules (drop (a - 1) all)
tests_from file [] all a low = refl
tests_from file (rule ∷ rules) all a low =
    same_parts (rw (sub_self a) (ap (λ t. not (is_bad file rule t)) (first_at all (a - 1))))
    (same_on (a + 1) (length rules) (λ k. not (is_bad file (get_or (rule ∷ rules) (k - a) (may Nothing)) (get_or all (k - 1) [])))
    (λ k. not (is_bad file (get_or rules (k - (a + 1)) (may Nothing)) (get_or all (k - 1) [])))
    (λ k above. ap (λ (r : Rule). not (is_bad file r (get_or all (k - 1) []))) (rule_after rule rules a k above))
    ∙ tests_from file rules all (a + 1) (omega arith) ∙ ap (tests_of file rules) (one_after all a low))

-- the tests of a line's fields
pub good_tests-is : (file : HeaderName) (rules : List Rule) (line : List ℕ) → good_tests file rules line ≡ tests_of file rules (drop 1 (fields_of line))
good_tests-is file rules line = tests_from file rules (fields_of line) 2 (lit< tt)

cong_drop : (fields : List (List ℕ)) (m n : ℕ) → m ≡ n → drop m fields ≡ drop n fields
cong_drop fields m n e = ap (λ k. drop k fields) e

drop_one : (fields : List (List ℕ)) (n : ℕ) → drop n (drop 1 fields) ≡ drop (suc n) fields
drop_one fields n = let e : 1 + n ≡ suc n = omega arith in drop-drop n 1 fields ∙ cong_drop fields (1 + n) (suc n) e

tests_of-append : (file : HeaderName) (some more : List Rule) (fields : List (List ℕ)) → tests_of file (some ++ more) fields ≡ tests_of file some fields ++ tests_of file more (drop (length some) fields)
tests_of-append file [] more fields = refl
tests_of-append file (rule ∷ some) more fields =
    let e : drop (length some) (drop 1 fields) ≡ drop (suc (length some)) fields = drop_one fields (length some) in
    same_parts refl (tests_of-append file some more (drop 1 fields) ∙ ap (λ left. tests_of file some (drop 1 fields) ++ tests_of file more left) e)

tests_of-replicate : (file : HeaderName) (rule : Rule) (n : ℕ) (fields : List (List ℕ)) → n ≤ length fields → tests_of file (replicate n rule) fields ≡ map (λ t. not (is_bad file rule t)) (take n fields)
tests_of-replicate file rule zero fields h = refl
tests_of-replicate file rule (suc n) [] h = absurd (omega arith)
tests_of-replicate file rule (suc n) (f ∷ fields) h = ap (λ ts. not (is_bad file rule f) ∷ ts) (tests_of-replicate file rule n fields (omega arith))

-- the first failure of a list with more after it
pub first_false-append : (n : ℕ) (some more : List Bool) → first_false n (some ++ more) ≡ or_else (first_false n some) (first_false (n + length some) more)
first_false-append n [] more = ap (λ m. first_false m more) (sym (add-zero n))
first_false-append n (true ∷ some) more = first_false-append (n + 1) some more ∙ ap (λ m. or_else (first_false (n + 1) some) (first_false m more)) (omega arith)
first_false-append n (false ∷ some) more = refl

later : (m n : ℕ) (tests : List Bool) → n < m → lesser (first_false m tests) (Some n) ≡ Some n
later m n [] h = refl
later m n (true ∷ tests) h = later (m + 1) n tests (omega arith)
later m n (false ∷ tests) h = ap Some (omega arith)

earlier : (m n : ℕ) (tests : List Bool) → n ≤ m → lesser (Some n) (first_false m tests) ≡ Some n
earlier m n [] h = refl
earlier m n (true ∷ tests) h = earlier (m + 1) n tests (omega arith)
earlier m n (false ∷ tests) h = ap Some (omega arith)

both_step : (n : ℕ) (a b : Bool) (some more both : List Bool) → first_false (n + 1) both ≡ lesser (first_false (n + 1) some) (first_false (n + 1) more) → first_false n ((a && b) ∷ both) ≡ lesser (first_false n (a ∷ some)) (first_false n (b ∷ more))
both_step n true true some more both h = h
both_step n true false some more both h = sym (later (n + 1) n some (omega arith))
both_step n false true some more both h = sym (earlier (n + 1) n more (omega arith))
both_step n false false some more both h = ap Some (omega arith)

-- the first that fails one of two tests
both_tests : (n : ℕ) (p q : List ℕ → Bool) (xs : List (List ℕ)) → first_false n (map (λ t. p t && q t) xs) ≡ lesser (first_false n (map p xs)) (first_false n (map q xs))
both_tests n p q [] = refl
both_tests n p q (x ∷ xs) = both_step n (p x) (q x) (map p xs) (map q xs) (map (λ t. p t && q t) xs) (both_tests (n + 1) p q xs)

both_true : (b : Bool) → not (not b) ≡ (b && true)
both_true true = refl
both_true false = refl

map_same : (xs : List (List ℕ)) (p q : List ℕ → Bool) → ((t : List ℕ) → p t ≡ q t) → map p xs ≡ map q xs
map_same [] p q h = refl
map_same (x ∷ xs) p q h = same_parts (h x) (map_same xs p q h)

all_true : (n : ℕ) (xs : List (List ℕ)) → first_false n (map (λ t. true || is_there t) xs) ≡ None
all_true n [] = refl
all_true n (x ∷ xs) = all_true (n + 1) xs

-- the test of a value, which may be empty unless values have to be there
value_test : (file : HeaderName) (there : Bool) (t : List ℕ) → not (is_bad file (value_rule there) t) ≡ (is_empty_or_quantity t && (not there || is_there t))
value_test file true [] = refl
value_test file false [] = refl
value_test file true (x ∷ xs) = rw (suc_is_not (length xs)) (both_true (is_ok (denoted (x ∷ xs))))
value_test file false (x ∷ xs) = rw (suc_is_not (length xs)) (both_true (is_ok (denoted (x ∷ xs))))

-- the first bad value
values_fault : (file : HeaderName) (there : Bool) (values : List (List ℕ)) → first_false 3 (map (λ t. not (is_bad file (value_rule there) t)) values)
    ≡ lesser (first_false 3 (map is_empty_or_quantity values)) (if there then first_false 3 (map is_there values) else None)
values_fault file true values = ap (first_false 3) (map_same values _ _ (value_test file true)) ∙ both_tests 3 is_empty_or_quantity (λ t. false || is_there t) values
values_fault file false values = ap (first_false 3) (map_same values _ _ (value_test file false)) ∙ both_tests 3 is_empty_or_quantity (λ t. true || is_there t) values ∙ ap (lesser (first_false 3 (map is_empty_or_quantity values))) (all_true 3 values)

-- the fault of a line that ends before its quality
pub too_few : (file : HeaderName) (n : ℕ) (line : List ℕ) → length (fields_of line) ≤ n + 2 → field_fault file IntervalData n line ≡ Some Count
unfolding field_fault
too_few file n line h = rw (lt-ltb (length (fields_of line)) (n + 3) (omega arith)) refl

-- a field by its number, as the next of what is left
pub field_by : (line : List ℕ) (left : List (List ℕ)) (k number : ℕ) → left ≡ drop k (fields_of line) → k + 1 ≡ number → first_of left ≡ field line number
field_by line left k number e h = taken_at (fields_of line) left k e ∙ ap (λ i. get_or (fields_of line) i []) (omega arith)

layout_length : (n : ℕ) (there : Bool) → length (layout IntervalData n (not there)) + 1 ≡ n + 7
layout_length n there = ap (λ m. suc m + 1) (length-append (replicate n (value_rule there)) (must QualityMethod ∷ may ReasonNumber ∷ may ReasonWords ∷ may MomentTime ∷ may MomentTime ∷ []) ∙ ap (λ m. m + 5) (length-replicate n (value_rule there))) ∙ omega arith

-- the rules after the values
abbrev last_rules : List Rule
last_rules = must QualityMethod ∷ may ReasonNumber ∷ may ReasonWords ∷ may MomentTime ∷ may MomentTime ∷ []

last_tests : (file : HeaderName) (n : ℕ) (line : List ℕ) (left : List (List ℕ)) (a b c e g : Bool) → left ≡ drop (n + 2) (fields_of line)
    → a ≡ not (is_bad file (must QualityMethod) (field line (n + 3)))
    → b ≡ not (is_bad file (may ReasonNumber) (field line (n + 4))) → c ≡ not (is_bad file (may ReasonWords) (field line (n + 5)))
    → e ≡ not (is_bad file (may MomentTime) (field line (n + 6))) → g ≡ not (is_bad file (may MomentTime) (field line (n + 7)))
    → tests_of file last_rules left ≡ a ∷ b ∷ c ∷ e ∷ g ∷ []
last_tests file n line left a b c e g at0 ea eb ec ee eg =
    let fs = fields_of line in
    let at1 : drop 1 left ≡ drop (n + 2 + 1) fs = left_at fs left (drop 1 left) (n + 2) at0 refl in
    let at2 : drop 1 (drop 1 left) ≡ drop (n + 2 + 1 + 1) fs = left_at fs (drop 1 left) (drop 1 (drop 1 left)) (n + 2 + 1) at1 refl in
    let at3 : drop 1 (drop 1 (drop 1 left)) ≡ drop (n + 2 + 1 + 1 + 1) fs = left_at fs (drop 1 (drop 1 left)) (drop 1 (drop 1 (drop 1 left))) (n + 2 + 1 + 1) at2 refl in
    let at4 : drop 1 (drop 1 (drop 1 (drop 1 left))) ≡ drop (n + 2 + 1 + 1 + 1 + 1) fs = left_at fs (drop 1 (drop 1 (drop 1 left))) (drop 1 (drop 1 (drop 1 (drop 1 left)))) (n + 2 + 1 + 1 + 1) at3 refl in
    same_parts (ap (λ t. not (is_bad file (must QualityMethod) t)) (field_by line left (n + 2) (n + 3) at0 (omega arith)) ∙ sym ea)
    (same_parts (ap (λ t. not (is_bad file (may ReasonNumber) t)) (field_by line (drop 1 left) (n + 2 + 1) (n + 4) at1 (omega arith)) ∙ sym eb)
    (same_parts (ap (λ t. not (is_bad file (may ReasonWords) t)) (field_by line (drop 1 (drop 1 left)) (n + 2 + 1 + 1) (n + 5) at2 (omega arith)) ∙ sym ec)
    (same_parts (ap (λ t. not (is_bad file (may MomentTime) t)) (field_by line (drop 1 (drop 1 (drop 1 left))) (n + 2 + 1 + 1 + 1) (n + 6) at3 (omega arith)) ∙ sym ee)
    (same_parts (ap (λ t. not (is_bad file (may MomentTime) t)) (field_by line (drop 1 (drop 1 (drop 1 (drop 1 left)))) (n + 2 + 1 + 1 + 1 + 1) (n + 7) at4 (omega arith)) ∙ sym eg) refl))))

interval_tests : (file : HeaderName) (n : ℕ) (line : List ℕ) (d a b c e g : Bool) → n + 3 ≤ length (fields_of line)
    → d ≡ not (is_bad file (must DayDate) (field line 2)) → a ≡ not (is_bad file (must QualityMethod) (field line (n + 3)))
    → b ≡ not (is_bad file (may ReasonNumber) (field line (n + 4))) → c ≡ not (is_bad file (may ReasonWords) (field line (n + 5)))
    → e ≡ not (is_bad file (may MomentTime) (field line (n + 6))) → g ≡ not (is_bad file (may MomentTime) (field line (n + 7)))
    → d ∷ (map (λ t. not (is_bad file (value_rule (means_values (field line (n + 3)))) t)) (take n (drop 2 (fields_of line))) ++ a ∷ b ∷ c ∷ e ∷ g ∷ [])
    ≡ good_tests file (layout_of IntervalData n line) line
interval_tests file n line d a b c e g long ed ea eb ec ee eg =
    let fs = fields_of line in
    let there = means_values (field line (n + 3)) in
    let values = replicate n (value_rule there) in
    let two : drop 1 (drop 1 fs) ≡ drop 2 fs = drop-drop 1 1 fs in
    let counted : length (drop 1 (drop 1 fs)) ≡ length fs - 2 = ap length two ∙ length-drop 2 fs in
    let after : drop (length values) (drop 1 (drop 1 fs)) ≡ drop (n + 2) fs =
    ap (drop (length values)) two ∙ drop-drop (length values) 2 fs ∙ cong_drop fs (2 + length values) (n + 2) (ap (λ m. 2 + m) (length-replicate n (value_rule there)) ∙ omega arith) in
    let taken : tests_of file values (drop 1 (drop 1 fs)) ≡ map (λ t. not (is_bad file (value_rule there) t)) (take n (drop 2 fs)) =
    tests_of-replicate file (value_rule there) n (drop 1 (drop 1 fs)) (omega arith) ∙ ap (λ left. map (λ t. not (is_bad file (value_rule there) t)) (take n left)) two in
    sym (good_tests-is file (must DayDate ∷ (values ++ last_rules)) line
    ∙ same_parts (ap (λ t. not (is_bad file (must DayDate) t)) (field_by line (drop 1 fs) 1 2 refl refl) ∙ sym ed)
    (tests_of-append file values last_rules (drop 1 (drop 1 fs))
    ∙ ap (λ ts. ts ++ tests_of file last_rules (drop (length values) (drop 1 (drop 1 fs)))) taken
    ∙ ap (λ ts. map (λ t. not (is_bad file (value_rule there) t)) (take n (drop 2 fs)) ++ ts) (last_tests file n line (drop (length values) (drop 1 (drop 1 fs))) a b c e g after ea eb ec ee eg)))

-- the outcome of the tests of a day
day_outcome : (d : Bool) (n : ℕ) (values more : List Bool) → length values ≡ n → first_false 2 (d ∷ (values ++ more)) ≡ (if d then or_else (first_false 3 values) (first_false (n + 3) more) else Some 2)
day_outcome true n values more l = first_false-append 3 values more ∙ ap (λ m. or_else (first_false 3 values) (first_false m more)) (omega arith)
day_outcome false n values more l = refl

-- the first fault of a 300 record, from its fields and the tests of them
pub interval_is : (file : HeaderName) (n : ℕ) (line : List ℕ) (day : DayFields) (faults : ValueFaults) (d m a b c e g : Bool) (least : Option ℕ) → HasDayFields n line day faults
    → d ≡ is_some (day_of day.date.now) → m ≡ means_values day.quality.now → a ≡ is_some (quality_of day.quality.now)
    → b ≡ is_some (code_of day.reason_code.now) → c ≡ is_reason_text day.reason_text.now
    → e ≡ is_some (optional moment_of day.update.now) → g ≡ is_some (optional moment_of day.load.now)
    → least ≡ (if d then or_else (lesser faults.bad (if m then faults.empty else None)) (first_false (n + 3) (a ∷ b ∷ c ∷ e ∷ g ∷ [])) else Some 2)
    → field_fault file IntervalData n line ≡ option_map Bad least
interval_is file n line day faults d m a b c e g least f ed em ea eb ec ee eg is =
    let fs = fields_of line in
    let there = means_values (field line (n + 3)) in
    let values = map (λ t. not (is_bad file (value_rule there) t)) (take n (drop 2 fs)) in
    let last : length (layout_of IntervalData n line) + 1 ≡ n + 7 = layout_length n there in
    let counted : length (drop 2 fs) ≡ length fs - 2 = length-drop 2 fs in
    let long = f.least in
    let size : length values ≡ n = length-map (take n (drop 2 fs)) (λ t. not (is_bad file (value_rule there) t)) ∙ length-take-le n (drop 2 fs) (omega arith) in
    let enough : true ≡ not (ltb (length fs) (n + 3)) = rw (le-ltb (length fs) (n + 3) long) refl in
    let same : m ≡ there = em ∙ ap means_values f.quality in
    field_fault-is file IntervalData n line false true (d ∷ (values ++ a ∷ b ∷ c ∷ e ∷ g ∷ []))
    refl
    (sym f.blank ∙ right_count true (drop (n + 7) fs) fs (n + 3) (length (layout_of IntervalData n line) + 1) enough (cong_drop fs (n + 7) (length (layout_of IntervalData n line) + 1) (sym last)))
    (interval_tests file n line d a b c e g long
    (ed ∙ ap (λ t. is_some (day_of t)) f.date ∙ good_must file DayDate (field line 2) no_day)
    (ea ∙ ap (λ t. is_some (quality_of t)) f.quality ∙ good_must file QualityMethod (field line (n + 3)) no_quality)
    (eb ∙ ap (λ t. is_some (code_of t)) f.reason_code ∙ good_even_empty file ReasonNumber (field line (n + 4)) empty_code)
    (ec ∙ ap is_reason_text f.reason_text ∙ good_even_empty file ReasonWords (field line (n + 5)) empty_text)
    (ee ∙ ap (λ t. is_some (optional moment_of t)) f.update ∙ optional_good moment_of (field line (n + 6)) ∙ good_may file MomentTime (field line (n + 6)))
    (eg ∙ ap (λ t. is_some (optional moment_of t)) f.load ∙ optional_good moment_of (field line (n + 7)) ∙ good_may file MomentTime (field line (n + 7))))
    ∙ ap (option_map Bad) (day_outcome d n values (a ∷ b ∷ c ∷ e ∷ g ∷ []) size
    ∙ ap (λ (v : Option ℕ). if d then or_else v (first_false (n + 3) (a ∷ b ∷ c ∷ e ∷ g ∷ [])) else Some 2)
    (values_fault file there (take n (drop 2 fs)) ∙ sym (rw (f.bad, f.empty, same) refl))
    ∙ sym is)

-- the fault of a line with something after its last field
pub wrong_end : (file : HeaderName) (n : ℕ) (line : List ℕ) (left : List (List ℕ)) → n + 3 ≤ length (fields_of line) → left ≡ drop (n + 7) (fields_of line) → false ≡ are_blank left → field_fault file IntervalData n line ≡ Some Count
wrong_end file n line left long l w =
    let fs = fields_of line in
    let last : length (layout_of IntervalData n line) + 1 ≡ n + 7 = layout_length n (means_values (field line (n + 3))) in
    let enough : true ≡ not (ltb (length fs) (n + 3)) = rw (le-ltb (length fs) (n + 3) long) refl in
    field_fault-is file IntervalData n line false false (good_tests file (layout_of IntervalData n line) line) refl
    (w ∙ right_count true left fs (n + 3) (length (layout_of IntervalData n line) + 1) enough (l ∙ cong_drop fs (n + 7) (length (layout_of IntervalData n line) + 1) (sym last)))
    refl

-- the fault of a line with a wrong count of fields
pub wrong_count : (file : HeaderName) (n : ℕ) (line : List ℕ) → HasWrongCount n line → field_fault file IntervalData n line ≡ Some Count
wrong_count file n line (inl few) = too_few file n line (omega arith)
wrong_count file n line (inr more) =
    elim (cases_lt (length (fields_of line)) (n + 3)) [
      | inl few ↦ too_few file n line (omega arith)
      | inr long ↦ wrong_end file n line (drop (n + 7) (fields_of line)) long refl (sym more)
    ]

-- where no field of a day is bad, its date and each field after its values are good
pub record HasPassed (d a b c e g : Bool) : Type 0 where
  pub date : d ≡ true
  pub quality : a ≡ true
  pub code : b ≡ true
  pub text : c ≡ true
  pub update : e ≡ true
  pub load : g ≡ true

no_other : (m n : Option ℕ) → or_else m n ≡ None → n ≡ None
no_other None n h = h
no_other (Some m) n h = absurd (cc)

pub all_passed : (d a b c e g : Bool) (values after least : Option ℕ) (from : ℕ) → after ≡ first_false from (a ∷ b ∷ c ∷ e ∷ g ∷ [])
    → least ≡ (if d then or_else values after else Some 2) → least ≡ None → HasPassed d a b c e g
all_passed false a b c e g values after least from tests is none = let wrong = sym is ∙ none in absurd (cc)
all_passed true a b c e g values after least from tests is none =
    let passed = none_fails from (a ∷ b ∷ c ∷ e ∷ g ∷ []) (sym tests ∙ no_other values after (sym is ∙ none)) in
    record {
      date = refl;
      quality = passed 0 (lit< tt);
      code = passed 1 (lit< tt);
      text = passed 2 (lit< tt);
      update = passed 3 (lit< tt);
      load = passed 4 (lit< tt);
    }
