-- The part of a buffer between two places.
use Rattle.std.proofs.Common.{◌≡◌, ℕ, suc, ◌+◌, ◌-◌, ◌<◌, ◌≤◌, min, List, [], ◌∷◌, ◌++◌, length, take, drop, refl, sym, ◌∙◌, ap, arith, Bool, true, false, ltb, zero-add, rules}
use Rattle.std.specs.Ordering.{ord_min, nat_cmp}
use Rattle.std.proofs.lemmas.Bool.Decides.{nat_tests}
use Rattle.std.proofs.lemmas.List.{take-take, drop-take, drop-drop, drop_all, drop-append-le, take-append-le, length-take, length-take-le, length-drop}
use Rattle.std.specs.List.{slice_range}

-- the front of a part
pub range_front : (xs : List ℕ) (a b n : ℕ) → n ≤ b - a → slice_range xs a (a + n) ≡ take n (slice_range xs a b)
range_front xs a b n le =
    let e : (a + n) - a ≡ n = omega arith in
    ap (λ k. take k (drop a xs)) e ∙ sym (take-take n (b - a) (drop a xs) le)

-- the front of two lists that reaches into the second
take_across : (xs ys : List ℕ) (n : ℕ) → take (length xs + n) (xs ++ ys) ≡ xs ++ take n ys
take_across [] ys n = ap (λ k. take k ys) (zero-add n)
take_across (x ∷ xs) ys n =
    let e : length (x ∷ xs) + n ≡ suc (length xs + n) = omega arith in
    ap (λ k. take k (x ∷ xs ++ ys)) e ∙ ap (λ t. x ∷ t) (take_across xs ys n)

-- a part that is read on after its end
pub range_more : (xs more : List ℕ) (a b n : ℕ) → a ≤ b → b ≤ length xs → slice_range (take b xs ++ more) a (b + n) ≡ slice_range xs a b ++ take n more
range_more xs more a b n le within =
    let front = length-take-le b xs within in
    let e : b ≡ a + (b - a) = omega arith in
    let part = ap (λ k. drop a (take k xs)) e ∙ drop-take a (b - a) xs in
    let size : length (take (b - a) (drop a xs)) ≡ b - a = length-take-le (b - a) (drop a xs) (simp length-drop (omega arith)) in
    let count : (b + n) - a ≡ length (take (b - a) (drop a xs)) + n = omega arith in
    ap (λ ys. take ((b + n) - a) ys) (drop-append-le a (take b xs) more (omega arith) ∙ ap (λ ys. ys ++ more) part)
    ∙ ap (λ k. take k (take (b - a) (drop a xs) ++ more)) count
    ∙ take_across (take (b - a) (drop a xs)) more n

-- what is after the front of a part
range_back : (xs : List ℕ) (a b n : ℕ) → a + n ≤ b → slice_range xs (a + n) b ≡ drop n (slice_range xs a b)
range_back xs a b n le =
    let e : b - a ≡ n + (b - (a + n)) = omega arith in
    ap (λ ys. take (b - (a + n)) ys) (sym (drop-drop n a xs)) ∙ sym (drop-take n (b - (a + n)) (drop a xs)) ∙ ap (λ k. drop n (take k (drop a xs))) (sym e)

-- nothing is after the end of a part
range_none : (xs : List ℕ) (a b n : ℕ) → b - a ≤ n → slice_range xs b b ≡ drop n (slice_range xs a b)
range_none xs a b n le =
    let e : b - b ≡ 0 = omega arith in
    ap (λ k. take k (drop b xs)) e ∙ sym (drop_all n (take (b - a) (drop a xs)) (simp length-take (omega arith)))

-- what is after the front of a part, if anything
pub range_after : (xs : List ℕ) (a b n c : ℕ) → a ≤ b → c ≡ min (a + n) b → slice_range xs c b ≡ drop n (slice_range xs a b)
range_after xs a b n c le e = at (ltb (a + n) b) refl where
  at : (t : Bool) → ltb (a + n) b ≡ t → slice_range xs c b ≡ drop n (slice_range xs a b)
  at true t = let lt : a + n < b = grind (arith, nat_tests) in let s : c ≡ a + n = omega arith in ap (λ k. slice_range xs k b) s ∙ range_back xs a b n (omega arith)
  at false t = let ge : b ≤ a + n = grind (arith, nat_tests) in let s : c ≡ b = omega arith in ap (λ k. slice_range xs k b) s ∙ range_none xs a b n (omega arith)

-- std's least of two numbers
pub least : (x y : ℕ) → ord_min nat_cmp x y ≡ min x y
least x y = search rules

-- a part after whose end n bytes were read
pub range_filled : (xs bytes after : List ℕ) (a b n : ℕ) → a ≤ b → b ≤ length xs → n ≤ length bytes
    → slice_range (take b xs ++ (bytes ++ after)) a (b + n) ≡ slice_range xs a b ++ take n bytes
range_filled xs bytes after a b n le within few =
    range_more xs (bytes ++ after) a b n le within ∙ ap (λ ys. slice_range xs a b ++ ys) (take-append-le n bytes after few)
