-- What makes a database with the tables of the current schema a store (profile).
use Rattle.std.specs.Prelude.{◌≡◌, ◌⊎◌, [], ◌∷◌, pos, IsTrue}
use Rattle.sqlite.specs.Effect.{Database}
use Rattle.sqlite.specs.State.{HasCleanDisk, State}
use Rattle.sqlite_catalog.specs.Listing.{IsSound}
use Rattle.sqlite_trees.specs.Tree.{Trees}
use Rattle.mds_tables.specs.Stores.{IsStore, IsStoreOf, versions_said}
use Rattle.mds_pack_rows.specs.Current.{current_layout, current_schema}
use Rattle.mds_store.specs.Starting.{IsAdopted}
use Rattle.mds_store.specs.Daily.{AreBare, IsDailyStore}
use Rattle.mds_store.specs.Packed.{IsPackedStore}

-- mds_schema says the number of the current schema, and neither a version nor details of a stream have a row of their own
pub record AreCurrent (trees : Trees) : Type 0 where
  pub version : versions_said trees ≡ pos current_layout.number ∷ []
  pub bare : AreBare trees

-- a store of the current schema
pub record IsCurrentStore (db : Database) : Type 0 where
  pub store : IsStoreOf current_layout db
  pub bare : AreBare db.trees

-- While the disk is honest and the connection open, what is committed is a store of the current schema. What a crash may leave says
-- its number, has no row of those two kinds, and obeys the schema, open or not. So the next open finds a store there.
pub record HoldsCurrent (s : State) : Type 0 where
  pub committed : HasCleanDisk s → IsTrue s.is_open → IsCurrentStore s.committed
  pub left : HasCleanDisk s → (trees : Trees) → s.may_leave trees → AreCurrent trees
  pub sound : HasCleanDisk s → (trees : Trees) → s.may_leave trees → ∥ IsSound current_schema trees ∥₁

-- a store of an earlier schema, which is to be migrated first
abbrev pub IsEarlierStore : Database → Type 0
IsEarlierStore db = IsStore db ⊎ (IsPackedStore db ⊎ IsDailyStore db)

-- The database was a store of the current schema, and keeps what it kept.
pub record IsCurrentAdopted (old new : State) : Type 0 where
  pub adopted : IsAdopted current_layout old new
  pub bare : AreBare old.committed.trees
