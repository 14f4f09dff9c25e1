-- What makes a database with the tables of schema 2 a store of that schema (profile).
use Rattle.std.specs.Prelude.{◌≡◌, [], ◌∷◌, pos}
use Rattle.sqlite.specs.Effect.{Database}
use Rattle.sqlite_trees.specs.Tree.{Trees}
use Rattle.mds_tables.specs.Stores.{IsStoreOf, versions_said}
use Rattle.mds_tables.specs.Tables.{version_tree}
use Rattle.mds_pack_rows.specs.PacksLayout.{packs_layout}

-- mds_schema says 2, and no version has a row of its own
pub record ArePacked (trees : Trees) : Type 0 where
  pub version : versions_said trees ≡ pos 2 ∷ []
  pub unversioned : trees version_tree ≡ []

-- a store of schema 2
pub record IsPackedStore (db : Database) : Type 0 where
  pub store : IsStoreOf packs_layout db
  pub unversioned : db.trees version_tree ≡ []
