-- The members of lists.
use Rattle.std.specs.Prelude.{◌≡◌, ◌⊎◌, List, [], ◌∷◌}

-- it is a member of the list
abbrev pub Member : {K : Type 0} → K → List K → Type 0
Member x [] = ⊥
Member x (k ∷ ks) = (x ≡ k) ⊎ Member x ks

-- no two of the list are equal
abbrev pub Apart : {K : Type 0} → List K → Type 0
Apart [] = Unit {0}
Apart (k ∷ ks) = (Member k ks → ⊥) × Apart ks
