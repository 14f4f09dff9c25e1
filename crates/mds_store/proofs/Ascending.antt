-- A list of which each stands before the next.
use Rattle.std.specs.Prelude.{◌≡◌, ◌<◌, ◌+◌, ◌↔◌, ℕ, Bool, true, false, List, [], ◌∷◌, length, IsTrue, refl}
use Rattle.std.specs.List.{AllPairs, IsAllAdjacentAnswer}
use Rattle.std.proofs.Common.{sym, subst, inl, inr, arith, zero, suc, get_or}
use Rattle.std.proofs.lemmas.Bool.{cases_lt}

module _ {X : Type 0} (P : X → X → Type 0) (chain : (a b c : X) → P a b → P b c → P a c) where
  -- neighbours in order make all pairs so
  all_before : (xs : List X) → ((k : ℕ) (d : X) → k + 1 < length xs → P (get_or xs k d) (get_or xs (k + 1) d)) → AllPairs P xs
  all_before xs up i zero d h k = absurd (omega arith)
  all_before xs up i (suc j) d h k =
      let next : j + 1 ≡ suc j = omega arith in
      let step : P (get_or xs j d) (get_or xs (suc j) d) =
      subst (λ n. P (get_or xs j d) (get_or xs n d)) next (up j d (omega arith)) in
      elim (cases_lt i j) [
        | inl less ↦ chain (get_or xs i d) (get_or xs j d) (get_or xs (suc j) d) (all_before xs up i j d less (omega arith)) step
        | inr more ↦
            let same : j ≡ i = omega arith in
            subst (λ n. P (get_or xs n d) (get_or xs (suc j) d)) same step
      ]

  -- what a test of all neighbours says, where it tells whether one stands before another
  module _ (before : X → X → Bool) (yes : (a b : X) → before a b ≡ true → P a b) (no : (a b : X) → before a b ≡ false → P a b → ⊥) where
    one_step : (xs : List X) (k : ℕ) → k + 1 < length xs → ((d : X) → before (get_or xs k d) (get_or xs (k + 1) d) ≡ false)
        → AllPairs P xs → ⊥
    one_step [] k low fails all = absurd (omega arith)
    one_step (x ∷ xs) k low fails all = no _ _ (fails x) (all k (k + 1) x (omega arith) low)

    pub ascends : (xs : List X) (r : Bool) → IsAllAdjacentAnswer (λ x y b. b ≡ before x y) xs r → IsTrue r ↔ AllPairs P xs
    ascends xs true h = ((λ _. all_before xs (λ k d l. yes _ _ (sym (h k d l)))), (λ _. refl))
    ascends xs false h = ((λ never. absurd (cc never)), (λ all. absurd (one_step xs h.0 h.1 (λ d. sym (h.2 d)) all)))
