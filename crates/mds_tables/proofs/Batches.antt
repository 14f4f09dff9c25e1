-- Lists that are taken in batches of one size.
use Rattle.std.proofs.Common.{◌≡◌, ◌<◌, ◌+◌, ◌*◌, ℕ, zero, suc, List, [], ◌∷◌, ◌++◌, drop, get_or, length, map, take, refl, sym, ap, ◌∙◌, arith}
use Rattle.std.proofs.lemmas.Grind.{flat_map-append}
use Rattle.std.proofs.lemmas.List.{append-nil, append_assoc, map-append, take-append-drop, take_more}
use Rattle.std.proofs.Math.Seq.{take-add}
use Rattle.std.specs.List.{flat_map}
use Rattle.std.specs.Simd.{first_chunks}
use Rattle.sqlite_value.specs.Order.{Row}
use Rattle.mds_tables.specs.Parts.{Part, singly, statements_of}

-- what lies in several arrays, as one list
abbrev pub flat : {X : Type 0} → List (List X) → List X
flat xss = flat_map (λ xs. xs) xss

flat_chunks : {X : Type 0} (n k : ℕ) (xs : List X) → flat (first_chunks n k xs) ≡ take (k * n) xs
flat_chunks n zero xs = let none : 0 ≡ 0 * n = omega arith in ap (λ k. take k xs) none
flat_chunks n (suc k) xs =
    let size : n + k * n ≡ suc k * n = omega arith in
    ap (λ l. take n xs ++ l) (flat_chunks n k (drop n xs)) ∙ sym (take-add n (k * n) xs) ∙ ap (λ m. take m xs) size

-- the arrays and what is left are the whole
pub chunks_are : {X : Type 0} (n : ℕ) (xs : List X) (k : ℕ) (chunks : List (List X)) (back : List X) → chunks ≡ first_chunks n k xs
    → back ≡ drop (k * n) xs → flat chunks ++ back ≡ xs
chunks_are n xs k chunks back front rest =
    (λ i. flat (front i) ++ rest i) ∙ ap (λ l. l ++ drop (k * n) xs) (flat_chunks n k xs) ∙ take-append-drop (k * n) xs

-- the arrays up to a place, and the next
pub flat_more : {X : Type 0} (xss : List (List X)) (at : ℕ) (xs : List X) → at < length xss → xs ≡ get_or xss at xs
    → flat (take at xss) ++ xs ≡ flat (take (at + 1) xss)
flat_more xss at xs low is =
    sym (ap flat (take_more xss at xs low ∙ ap (λ y. take at xss ++ y ∷ []) (sym is))
    ∙ flat_map-append (λ ys. ys) (take at xss) (xs ∷ [])
    ∙ ap (λ l. flat (take at xss) ++ l) (append-nil xs))

-- ---- the statements that put them

module _ {A : Type 0} (part : Part A) where
  pub statements_both : (xss yss : List (List A)) → statements_of part (xss ++ yss) ≡ statements_of part xss ++ statements_of part yss
  statements_both xss yss = map-append {B = ℕ × List Row} (λ items. (part.place, map part.cells items)) xss yss

  one_by_one : (xs ys : List A) → singly part (xs ++ ys) ≡ singly part xs ++ singly part ys
  one_by_one xs ys = ap (statements_of part) (map-append (λ item. item ∷ []) xs ys)
      ∙ statements_both (map (λ item. item ∷ []) xs) (map (λ item. item ∷ []) ys)

  pub singly_more : (xs : List A) (at : ℕ) (x : A) → take at xs ++ x ∷ [] ≡ take (at + 1) xs
      → singly part (take at xs) ++ singly part (x ∷ []) ≡ singly part (take (at + 1) xs)
  singly_more xs at x more = sym (one_by_one (take at xs) (x ∷ [])) ∙ ap (singly part) more

  -- those before a place, the one there, and those behind it
  pub singly_both : (xs : List A) (at : ℕ) (x : A) → take at xs ++ x ∷ [] ≡ take (at + 1) xs
      → singly part (take at xs) ++ (singly part (x ∷ []) ++ singly part (drop (at + 1) xs)) ≡ singly part xs
  singly_both xs at x more =
      sym (append_assoc (singly part (take at xs)) (singly part (x ∷ [])) (singly part (drop (at + 1) xs)))
      ∙ ap (λ puts. puts ++ singly part (drop (at + 1) xs)) (singly_more xs at x more)
      ∙ sym (one_by_one (take (at + 1) xs) (drop (at + 1) xs)) ∙ ap (singly part) (take-append-drop (at + 1) xs)
