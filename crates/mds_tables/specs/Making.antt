-- What making the tables leaves (profile).
use Rattle.std.specs.Prelude.{◌≡◌, List, [], drop, IsTrue}
use Rattle.std.specs.FinSet as set
use Rattle.std.specs.List.{AllByRecursion}
use Rattle.sqlite.specs.Effect.{Database}
use Rattle.sqlite.specs.Schema.{Schema}
use Rattle.sqlite.specs.State.{HasCleanDisk, State}
use Rattle.sqlite_catalog.specs.Listing.{IsSound}
use Rattle.sqlite_schema.specs.declared.schema.Table.{Table}
use Rattle.sqlite_trees.specs.Tree.{Trees}
use Rattle.mds_tables.specs.Layouts.{Layout, world_with}
use Rattle.mds_tables.specs.Stores.{IsStoreOf}
use Rattle.mds_tables.specs.Tables.{no_schema, schema_with, tables_with}

-- a store that keeps nothing: mds_schema says the number of the layout, and no other table has a row
pub record KeepsNothingOf (layout : Layout) (db : Database) : Type 0 where
  pub store : IsStoreOf layout db
  pub bare : AllByRecursion (λ (t : Table). db.trees t.tree ≡ []) (drop 1 (tables_with layout.more))
  pub world : world_with layout db.trees ≡ set.empty

-- An empty database was made a store that keeps nothing.
pub record IsMadeOf (layout : Layout) (old new : State) : Type 0 where
  pub was_open : IsTrue old.is_open
  pub is_open : IsTrue new.is_open
  pub made : old.committed.schema ≡ no_schema → KeepsNothingOf layout new.committed

-- What a crash may leave of a making that wasn't answered: such a store.
pub record LeavesMadeOf (layout : Layout) (old : State) (left : Trees) : Type 0 where
  pub was_open : IsTrue old.is_open
  pub made : old.committed.schema ≡ no_schema → KeepsNothingOf layout (record { schema = schema_with layout.more; trees = left })
  pub sound : old.committed.schema ≡ no_schema → IsSound (schema_with layout.more) left

-- these tables have no row
abbrev pub AreEmpty : List Table → Database → Type 0
AreEmpty tables db = AllByRecursion (λ (t : Table). db.trees t.tree ≡ []) tables

-- a step of the making, in a transaction; before and after it the tables of the schema have no row
pub record MakesThere (before after : Schema) (old new : State) : Type 0 where
  pub was_open : HasCleanDisk new → IsTrue new.is_open → IsTrue old.is_open
  pub is_open : HasCleanDisk new → IsTrue old.is_open → IsTrue new.is_open
  pub schema : HasCleanDisk new → IsTrue old.is_open → old.now.schema ≡ before → new.now.schema ≡ after
  pub inside : HasCleanDisk new → IsTrue old.in_transaction → IsTrue new.in_transaction
  pub empty : HasCleanDisk new → IsTrue old.is_open → old.now.schema ≡ before → AreEmpty before.tables old.now → AreEmpty after.tables new.now

-- mds_schema, which had no row, has one with the number, and no other table has one
pub record SaysVersionOf (layout : Layout) (old new : State) : Type 0 where
  pub was_open : HasCleanDisk new → IsTrue new.is_open → IsTrue old.is_open
  pub is_open : HasCleanDisk new → IsTrue old.is_open → IsTrue new.is_open
  pub inside : HasCleanDisk new → IsTrue old.in_transaction → IsTrue new.in_transaction
  pub said : HasCleanDisk new → IsTrue old.is_open → old.now.schema ≡ schema_with layout.more
      → AreEmpty (tables_with layout.more) old.now → KeepsNothingOf layout new.now
  pub sound : HasCleanDisk new → IsTrue old.is_open → old.now.schema ≡ schema_with layout.more → IsSound (schema_with layout.more) new.now.trees

-- the same, committed, from a database that the transaction saw without tables
pub record CommitsMadeOf (layout : Layout) (old new : State) : Type 0 where
  pub is_open : IsTrue old.is_open → IsTrue new.is_open
  pub made : IsTrue old.is_open → old.now.schema ≡ no_schema → KeepsNothingOf layout new.committed

-- what a crash may leave of it
pub record HasMadeOf (layout : Layout) (old : State) (left : Trees) : Type 0 where
  pub made : IsTrue old.is_open → old.now.schema ≡ no_schema
      → KeepsNothingOf layout (record { schema = schema_with layout.more; trees = left })
  pub sound : IsTrue old.is_open → old.now.schema ≡ no_schema → IsSound (schema_with layout.more) left
