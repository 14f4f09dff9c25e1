-- Records each of whose fields fits its rule have no fault.
use Rattle.std.proofs.Common.{◌≡◌, ℕ, zero, suc, ◌+◌, ◌-◌, ◌<◌, ◌≤◌, Bool, true, false, not, ◌||◌, eqb, ltb, List, [], ◌∷◌, ◌++◌, length, drop, get_or, find, None, refl, sym, ap, ◌∙◌, arith}
use Rattle.std.specs.List.{list_any, range_with_len}
use Rattle.std.proofs.lemmas.Bool.Decides.{nat_tests}
use Rattle.std.proofs.lemmas.List.{drop_all}
use Rattle.mds_lines.specs.Lines.{field, fields_of}
use Rattle.mds_lines.specs.declared.line.Kind.{Kind}
use Rattle.mds_records.specs.declared.header_name.HeaderName.{HeaderName}
use Rattle.mds_records.specs.FieldFaults.{field_fault, has_wrong_count, is_bad, is_of_other_file, layout_of, least_bad}
use Rattle.mds_records.specs.Layouts.{Form, Rule, Nothing, fits, may, must, least_count}
use Rattle.mds_records.proofs.Rules.{good_even_empty, good_may, good_must}

-- each field is what its rule says
abbrev pub Fit : HeaderName → List Rule → List (List ℕ) → Type 0
Fit file [] fs = Unit {0}
Fit file (rule ∷ rules) [] = ⊥
Fit file (rule ∷ rules) (f ∷ fs) = (is_bad file rule f ≡ false) × Fit file rules fs

fit_at : (file : HeaderName) (rules : List Rule) (fs : List (List ℕ)) → Fit file rules fs → (i : ℕ) → i < length rules
    → is_bad file (get_or rules i (may Nothing)) (get_or fs i []) ≡ false
fit_at file [] fs h i l = absurd (omega arith)
fit_at file (rule ∷ rules) [] h i l = absurd h
fit_at file (rule ∷ rules) (f ∷ fs) h zero l = h.0
fit_at file (rule ∷ rules) (f ∷ fs) h (suc i) l = fit_at file rules fs h.1 i (omega arith)

find_none : (p : ℕ → Bool) (a n : ℕ) → ((k : ℕ) → a ≤ k → k < a + n → p k ≡ false) → find p (range_with_len a n) ≡ None
find_none p a zero h = refl
find_none p a (suc n) h = rw (h a (omega arith) (omega arith)) (find_none p (a + 1) n (λ k low high. h k (omega arith) (omega arith)))

-- the field after the indicator by its number
later : (first : List ℕ) (fs : List (List ℕ)) (k : ℕ) → 2 ≤ k → get_or (first ∷ fs) (k - 1) [] ≡ get_or fs (k - 2) []
later first fs k h =
    let e : k - 1 ≡ suc (k - 2) = omega arith in
    ap (λ i. get_or (first ∷ fs) i []) e

nothing_bad : (file : HeaderName) (rules : List Rule) (line first : List ℕ) (fs : List (List ℕ)) → fields_of line ≡ first ∷ fs → Fit file rules fs
    → least_bad file rules line ≡ None
nothing_bad file rules line first fs e h =
    find_none (λ k. is_bad file (get_or rules (k - 2) (may Nothing)) (field line k)) 2 (length rules) (λ k low high.
    ap (λ t. is_bad file (get_or rules (k - 2) (may Nothing)) (get_or t (k - 1) [])) e
    ∙ ap (is_bad file (get_or rules (k - 2) (may Nothing))) (later first fs k low)
    ∙ fit_at file rules fs h (k - 2) (omega arith))

-- as many fields as are wanted
right_count : (fields : List (List ℕ)) (least last : ℕ) → least ≤ length fields → length fields ≤ last
    → (ltb (length fields) least || list_any (λ text. ltb 0 (length text)) (drop last fields)) ≡ false
right_count fields least last low high =
    let enough : ltb (length fields) least ≡ false = grind (arith, nat_tests) in
    rw (enough, drop_all last fields high)

pub no_fault : (file : HeaderName) (kind : Kind) (n : ℕ) (line first : List ℕ) (fs : List (List ℕ)) → fields_of line ≡ first ∷ fs
    → is_of_other_file file kind line ≡ false → least_count kind n ≤ length fs + 1 → length fs ≤ length (layout_of kind n line)
    → Fit file (layout_of kind n line) fs → field_fault file kind n line ≡ None
unfolding field_fault
no_fault file kind n line first fs e other low high h =
    let count : has_wrong_count kind n line ≡ false =
    ap (λ t. ltb (length t) (least_count kind n) || list_any (λ text. ltb 0 (length text)) (drop (length (layout_of kind n line) + 1) t)) e
    ∙ right_count (first ∷ fs) (least_count kind n) (length (layout_of kind n line) + 1) (omega arith) (omega arith) in
    rw (other, count, nothing_bad file (layout_of kind n line) line first fs e h)

-- fields that fit
not_bad : (b : Bool) → true ≡ not b → b ≡ false
not_bad true e = absurd (cc)
not_bad false e = refl

pub fit_must : (file : HeaderName) (form : Form) (text : List ℕ) → fits file form [] ≡ false → fits file form text ≡ true → is_bad file (must form) text ≡ false
fit_must file form text none h = not_bad _ (sym h ∙ good_must file form text none)

pub fit_even : (file : HeaderName) (form : Form) (text : List ℕ) → fits file form [] ≡ true → fits file form text ≡ true → is_bad file (may form) text ≡ false
fit_even file form text some h = not_bad _ (sym h ∙ good_even_empty file form text some)

pub fit_or : (file : HeaderName) (form : Form) (text : List ℕ) → (eqb (length text) 0 || fits file form text) ≡ true → is_bad file (may form) text ≡ false
fit_or file form text h = not_bad _ (sym h ∙ good_may file form text)

or_true : (a b : Bool) → b ≡ true → (a || b) ≡ true
or_true true b e = refl
or_true false b e = e

pub fit_may : (file : HeaderName) (form : Form) (text : List ℕ) → fits file form text ≡ true → is_bad file (may form) text ≡ false
fit_may file form text h = fit_or file form text (or_true (eqb (length text) 0) (fits file form text) h)

pub fit_empty : (file : HeaderName) (form : Form) → is_bad file (may form) [] ≡ false
fit_empty file form = refl

-- a field that isn't empty, whether it might be or not
pub fit_there : (file : HeaderName) (b : Bool) (form : Form) (text : List ℕ) → 0 < length text → fits file form text ≡ true
    → is_bad file (record { may_be_empty = b; form = form }) text ≡ false
fit_there file b form text some h =
    let e : eqb (length text) 0 ≡ false = grind (arith, nat_tests) in
    rw (e, h)

-- rules and fields that go on
pub fit_append : (file : HeaderName) (some more : List Rule) (fs gs : List (List ℕ)) → length some ≡ length fs → Fit file some fs → Fit file more gs
    → Fit file (some ++ more) (fs ++ gs)
fit_append file [] more [] gs e a b = b
fit_append file [] more (f ∷ fs) gs e a b = absurd (omega (arith, e))
fit_append file (rule ∷ some) more [] gs e a b = absurd a
fit_append file (rule ∷ some) more (f ∷ fs) gs e a b = (a.0, fit_append file some more fs gs (omega (arith, e)) a.1 b)
