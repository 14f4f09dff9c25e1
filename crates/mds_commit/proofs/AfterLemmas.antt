-- Tables that follow mds_form: a statement on another table leaves them as they are.
use Rattle.std.proofs.Common.{◌≤◌, ◌<◌, ℕ, List, [], ◌∷◌, ◌∙◌, arith}
use Rattle.std.specs.List.{AllByRecursion}
use Rattle.sqlite.specs.Table.{Table}
use Rattle.sqlite_trees.specs.Tree.{Trees}
use Rattle.mds_tables.specs.Writing.{Keeps, KeepsOthers}
use Rattle.mds_pack_rows.specs.Current.{after_forms, after_forms_behind, trees_formed}

-- what stays twice
pub keeps_on : (a b c : Trees) (tables : List Table) → Keeps a b tables → Keeps b c tables → Keeps a c tables
keeps_on a b c [] one two = tt
keeps_on a b c (table ∷ tables) one two = (two.0 ∙ one.0, keeps_on a b c tables one.1 two.1)

others_kept : (a b : Trees) (tree : ℕ) → tree < trees_formed → (tables : List Table)
    → AllByRecursion (λ (table : Table). trees_formed ≤ table.tree) tables → KeepsOthers tree a b tables → Keeps a b tables
others_kept a b tree low [] behind others = tt
others_kept a b tree low (table ∷ tables) behind others =
    (others.0 (λ same. omega (arith, same, low, behind.0)), others_kept a b tree low tables behind.1 others.1)

pub untouched : (a b : Trees) (tree : ℕ) → tree < trees_formed → KeepsOthers tree a b after_forms.tables → Keeps a b after_forms.tables
untouched a b tree low = others_kept a b tree low after_forms.tables after_forms_behind
