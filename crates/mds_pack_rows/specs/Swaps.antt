-- One row of a table replaced by another.
use Rattle.std.specs.Prelude.{ℕ, List, ◌∷◌, drop, map}
use Rattle.std.specs.List.Sorted.{IsPermutation}
use Rattle.sqlite_trees.specs.Tree.{Trees}
use Rattle.sqlite_value.specs.Order.{Row}

-- The rows of a tree, each without its rowid, are those that it had, except that one is gone and one came.
pub record Swaps (tree : ℕ) (gone come : Row) (old new : Trees) : Type 0 where
  pub rest : List Row
  pub was : IsPermutation (gone ∷ rest) (map (drop 1) (old tree))
  pub is : IsPermutation (come ∷ rest) (map (drop 1) (new tree))
