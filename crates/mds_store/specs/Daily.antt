-- What makes a database with the tables of schema 3 a store of that schema (profile). A migration starts from it.
use Rattle.std.specs.Prelude.{◌≡◌, [], ◌∷◌, pos}
use Rattle.sqlite.specs.Effect.{Database}
use Rattle.sqlite_trees.specs.Tree.{Trees}
use Rattle.mds_tables.specs.Stores.{IsStoreOf, versions_said}
use Rattle.mds_tables.specs.Tables.{detail_tree, version_tree}
use Rattle.mds_pack_rows.specs.DailyLayout.{daily_layout}

-- neither a version nor details of a stream have a row of their own
abbrev pub AreBare : Trees → Type 0
AreBare trees = (trees version_tree ≡ []) × (trees detail_tree ≡ [])

-- mds_schema says 3, and neither has one
pub record AreDaily (trees : Trees) : Type 0 where
  pub version : versions_said trees ≡ pos 3 ∷ []
  pub bare : AreBare trees

-- a store of schema 3
pub record IsDailyStore (db : Database) : Type 0 where
  pub store : IsStoreOf daily_layout db
  pub bare : AreBare db.trees
