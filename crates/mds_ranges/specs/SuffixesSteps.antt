-- The first suffix that is after another one. No public contract cites it.
use Rattle.std.specs.Prelude.{◌≡◌, ℕ, List, Option, None, Some, IfSome}
use Rattle.std.specs.Cmp.Lexicographic.{slice_cmp}
use Rattle.std.specs.Ordering.{nat_cmp}
use Rattle.std.specs.declared.cmp.Ordering.TheVariants.{Less}
use Rattle.mds_world.specs.Lists.{Member}

-- in the order of their bytes
abbrev pub IsBefore : List ℕ → List ℕ → Type 0
IsBefore suffix other = slice_cmp nat_cmp suffix other ≡ Less

-- it is after the last one, if there is one
abbrev pub IsAfter : Option (List ℕ) → List ℕ → Type 0
IsAfter last suffix = IfSome last (λ last. IsBefore last suffix)

-- The first suffix that is after the last one.
abbrev pub IsNext : Option (List ℕ) → List (List ℕ) → Option (List ℕ) → Type 0
IsNext last suffixes None = (suffix : List ℕ) → Member suffix suffixes → IsAfter last suffix → ⊥
IsNext last suffixes (Some next) =
    Member next suffixes × IsAfter last next
    × ((suffix : List ℕ) → Member suffix suffixes → IsAfter last suffix → IsBefore suffix next → ⊥)
