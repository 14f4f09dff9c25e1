-- An order for each type that has a code, so that its values can be members of finite sets.
use Rattle.std.specs.Prelude.{◌≡◌, ℕ, List, [], ◌∷◌, ◌++◌, refl}
use Rattle.std.proofs.Common.{sym, ap, ◌∙◌, append_assoc}
use Rattle.std.specs.Coded.{Coded}
use Rattle.std.specs.declared.cmp.Ordering.{Ordering}
use Rattle.std.specs.Ordering.{nat_cmp, on}
use Rattle.std.specs.Cmp.{IsTotalOrder, on_total}
use Rattle.std.specs.Cmp.Lexicographic.{slice_cmp, nat_list_cmp_total}
use Rattle.std.specs.FinMap.{IsAntisymmetric, nat_cmp-IsAntisymmetric, slice_cmp-IsAntisymmetric}
use base.Stored.{Gv, gnil, gnum, gcons}

-- a ghost value's numbers, in order, each part preceded by its kind
cells : Gv → List ℕ
cells gnil = 0 ∷ []
cells (gnum n) = 1 ∷ n ∷ []
cells (gcons a b) = 2 ∷ cells a ++ cells b

-- no value's cells are a prefix of another's
same_cells : (a b : Gv) (x y : List ℕ) → cells a ++ x ≡ cells b ++ y → (a ≡ b) × (x ≡ y)
unfolding cells
same_cells gnil gnil x y e = (refl, cc)
same_cells gnil (gnum n) x y e = cc
same_cells gnil (gcons c d) x y e = cc
same_cells (gnum n) gnil x y e = cc
same_cells (gnum n) (gnum m) x y e = (cc, cc)
same_cells (gnum n) (gcons c d) x y e = cc
same_cells (gcons a b) gnil x y e = cc
same_cells (gcons a b) (gnum n) x y e = cc
same_cells (gcons a b) (gcons c d) x y e =
    let tails : (cells a ++ cells b) ++ x ≡ (cells c ++ cells d) ++ y = cc in
    let whole : cells a ++ (cells b ++ x) ≡ cells c ++ (cells d ++ y) =
    sym (append_assoc (cells a) (cells b) x) ∙ tails ∙ append_assoc (cells c) (cells d) y in
    let one = same_cells a c (cells b ++ x) (cells d ++ y) whole in
    let two = same_cells b d x y one.1 in
    ((λ i. gcons (one.0 i) (two.0 i)), two.1)

-- the values of a type that has a code, in the order of their codes
pub coded_cmp : {A : Type 0} → Coded A → A → A → Ordering
coded_cmp c = on (λ a. cells (c.code a)) (slice_cmp nat_cmp)

pub coded_total : {A : Type 0} (c : Coded A) → IsTotalOrder (coded_cmp c)
unfolding coded_cmp
coded_total c = on_total (λ a. cells (c.code a)) nat_list_cmp_total

-- values that compare equal are the same
pub coded_exact : {A : Type 0} (c : Coded A) → IsAntisymmetric (coded_cmp c)
unfolding coded_cmp
coded_exact c x y e =
    let h : cells (c.code x) ≡ cells (c.code y) = slice_cmp-IsAntisymmetric nat_cmp-IsAntisymmetric _ _ e in
    c.inj x y (same_cells (c.code x) (c.code y) [] [] (ap (λ l. l ++ []) h)).0
