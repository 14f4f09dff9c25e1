-- What the steps of a migration do in a transaction, part by part (profile).
use Rattle.std.specs.Prelude.{◌≡◌, ◌≢◌, ◌↔◌, ℕ, ℤ, pos, [], ◌∷◌, drop, map, IsTrue}
use Rattle.std.specs.List.Sorted.{IsPermutation}
use Rattle.sqlite.specs.State.{State}
use Rattle.sqlite.specs.declared.types.Value.TheVariants.{Int}
use Rattle.sqlite_catalog.specs.Listing.{IsSound}
use Rattle.sqlite_trees.specs.Tree.{Trees}
use Rattle.sqlite_value.specs.Order.{Row, column}
use Rattle.mds_quantity.specs.declared.unit.Unit.{Unit as MeasureUnit}
use Rattle.mds_world.specs.Facts.{Fact}
use Rattle.mds_world.specs.Facts.Fact.{HeadIs, VersionIs}
use Rattle.mds_world.specs.Lists.{Member}
use Rattle.mds_tables.specs.RowFacts.{head_fact, versions_in}
use Rattle.mds_tables.specs.Stores.{versions_said}
use Rattle.mds_tables.specs.Tables.{head_tree, schema_tree}
use Rattle.mds_tables.specs.Writing.{KeepsOthers}
use Rattle.mds_pack_rows.specs.PackFacts.{pack_facts, pack_versions}
use Rattle.mds_pack_rows.specs.PackTables.{pack_tree}
use Rattle.mds_pack_rows.specs.Putting.{ChangesPacks}
use Rattle.mds_migrate.specs.OldLengths.{day_head, erased}

-- the fact is a version that mds_version says, with the length of a head that mds_head says of its day
abbrev pub IsLengthened : Trees → Fact → Type 0
IsLengthened trees (VersionIs key reading) =
    Member (erased (VersionIs key reading)) (versions_in trees)
    × ((unit : MeasureUnit) × Member (HeadIs (day_head key unit)) (map head_fact (trees head_tree)))
IsLengthened trees fact = ⊥

-- mds_pack says the versions that mds_version says, each with the length of its day's head, and nothing else. Each of its rows says one.
-- Every other table is as it was.
pub record Packs (old new : State) : Type 0 where
  pub changes : ChangesPacks old new
  pub lengthened : (fact : Fact) → Member fact (pack_versions new.now.trees) ↔ IsLengthened old.now.trees fact
  pub said : (row : Row) → Member row (new.now.trees pack_tree) → pack_facts row ≢ []

-- A table has no row, and every other one is as it was.
pub record Clears (tree : ℕ) (old new : State) : Type 0 where
  pub is_open : IsTrue new.is_open
  pub schema : new.now.schema ≡ old.now.schema
  pub none : new.now.trees tree ≡ []
  pub others : KeepsOthers tree old.now.trees new.now.trees old.now.schema.tables
  pub committed : new.committed ≡ old.committed
  pub sound : IsSound new.now.schema new.now.trees

-- a row of mds_head without its rowid, with length 0
abbrev pub without_length : Row → Row
without_length row = column row 1 ∷ column row 2 ∷ column row 3 ∷ Int (pos 0) ∷ column row 5 ∷ []

-- Each row of mds_head has length 0, and is otherwise as it was. Every other table is as it was.
pub record ClearsLengths (old new : State) : Type 0 where
  pub is_open : IsTrue new.is_open
  pub schema : new.now.schema ≡ old.now.schema
  pub rows : IsPermutation (map without_length (old.now.trees head_tree)) (map (drop 1) (new.now.trees head_tree))
  pub others : KeepsOthers head_tree old.now.trees new.now.trees old.now.schema.tables
  pub committed : new.committed ≡ old.committed
  pub sound : IsSound new.now.schema new.now.trees

-- mds_schema says a number, and every other table is as it was.
pub record Raises (number : ℤ) (old new : State) : Type 0 where
  pub is_open : IsTrue new.is_open
  pub schema : new.now.schema ≡ old.now.schema
  pub version : versions_said new.now.trees ≡ number ∷ []
  pub others : KeepsOthers schema_tree old.now.trees new.now.trees old.now.schema.tables
  pub committed : new.committed ≡ old.committed
  pub sound : IsSound new.now.schema new.now.trees

-- mds_schema says a number, if it has just the row whose rowid is shown
abbrev pub RaisesRow : ℤ → State → State → Row → Type 0
RaisesRow number old new shown =
    (row : Row) → old.now.trees schema_tree ≡ row ∷ [] → column shown 0 ≡ column row 0 → Raises number old new
