-- What a step of a migration leaves (profile): from schema 1 to schema 2, from there to schema 3, or from there to schema 4.
use Rattle.std.specs.Prelude.{◌≡◌, ◌≢◌, ◌⊎◌, ◌↔◌, ℕ, List, [], ◌∷◌, drop, map, pos, IsTrue, Result}
use Rattle.std.specs.List.Sorted.{IsPermutation}
use Rattle.sqlite.specs.Effect.{Database}
use Rattle.sqlite.specs.Schema.{Schema}
use Rattle.sqlite.specs.State.{HasCleanDisk, KeepsCommit, State}
use Rattle.sqlite.specs.Table.{Table}
use Rattle.sqlite_catalog.specs.Listing.{IsSound}
use Rattle.sqlite_trees.specs.Tree.{Trees}
use Rattle.sqlite_value.specs.Order.{Row}
use Rattle.mds_quantity.specs.declared.unit.Unit.{Unit as MeasureUnit}
use Rattle.mds_marks.specs.Reading.{ReadingValue}
use Rattle.mds_world.specs.Facts.{Fact, key_at}
use Rattle.mds_world.specs.Facts.Fact.{HeadIs, VersionIs}
use Rattle.mds_world.specs.Lists.{Member}
use Rattle.mds_world.specs.Sets.{◌∈◌}
use Rattle.mds_world.specs.World.{head_over}
use Rattle.mds_world.specs.declared.facts.Key.{Key}
use Rattle.mds_tables.specs.Layouts.{rows_layout, world_with}
use Rattle.mds_tables.specs.Stores.{AreOpen, IsStore, versions_said}
use Rattle.mds_tables.specs.Tables.{detail_table, detail_tree, event_table, head_table, head_tree, holiday_table, job_table, period_table, schema_1, version_tree}
use Rattle.mds_tables.specs.Frames.{Moves}
use Rattle.mds_tables.specs.Writing.{Keeps}
use Rattle.mds_pack_rows.specs.DailyLayout.{world_3}
use Rattle.mds_pack_rows.specs.DailyTables.{daydetail_table, schema_3}
use Rattle.mds_pack_rows.specs.FormLayout.{world_4}
use Rattle.mds_pack_rows.specs.FormTables.{schema_4}
use Rattle.mds_pack_rows.specs.PackFacts.{pack_facts}
use Rattle.mds_pack_rows.specs.PackTables.{pack_table, pack_tree, schema_2}
use Rattle.mds_pack_rows.specs.PacksLayout.{world_2}
use Rattle.mds_store.specs.Daily.{IsDailyStore}
use Rattle.mds_store.specs.CurrentStore.{IsCurrentStore}
use Rattle.mds_store.specs.Packed.{IsPackedStore}
use Rattle.mds_migrate.specs.Migrating.{without_length}
use Rattle.mds_migrate.specs.OldDetails.{Becomes}
use Rattle.mds_migrate.specs.OldHeads.{IsFormedOf}
use Rattle.mds_migrate.specs.OldLengths.{CameOf, day_head}
use Rattle.mds_migrate.specs.declared.outcome.Migrated.{Migrated}
use Rattle.mds_migrate.specs.declared.outcome.Migrated.TheVariants.{AlreadyCurrent, Done}
use Rattle.mds_migrate.specs.declared.outcome.MigrateFault.{MigrateFault}
use Rattle.mds_migrate.specs.declared.outcome.MigrateFault.TheVariants.{OtherSchema, Unavailable}

-- the tables that no step changes: those of events, accumulations, holidays and jobs
abbrev pub steady_tables : List Table
steady_tables = event_table ∷ period_table ∷ holiday_table ∷ job_table ∷ []

-- The tables of schema 2 name the World that comes of that of schema 1. There mds_schema says 2, and no version has a row of its own.
pub record HasPacked (old new : Trees) : Type 0 where
  pub lengthened : (fact : Fact) → (fact ∈ world_2 new) ↔ CameOf (world_with rows_layout old) fact
  -- no version is lost: its day has a head, whose length it takes
  pub kept : (key : Key) (reading : ReadingValue) → VersionIs key reading ∈ world_with rows_layout old
      → (length : ℕ) × (VersionIs (key_at key.stream key.day length key.interval key.update) reading ∈ world_2 new)
  -- each row of mds_pack says a version
  pub said : (row : Row) → Member row (new pack_tree) → pack_facts row ≢ []
  -- mds_head, mds_detail and the steady tables have the same rows as before
  pub others : Keeps old new (head_table ∷ detail_table ∷ steady_tables)
  pub version : versions_said new ≡ pos 2 ∷ []
  pub unversioned : new version_tree ≡ []
  pub sound : IsSound schema_2 new

-- The tables of schema 3 name the World that those of schema 2 become. There mds_schema says 3, and neither versions nor details of
-- streams have rows of their own.
pub record HasDated (old new : Trees) : Type 0 where
  pub becomes : Becomes old (world_3 new)
  -- mds_head, mds_pack and the steady tables have the same rows as before
  pub others : Keeps old new (head_table ∷ pack_table ∷ steady_tables)
  pub version : versions_said new ≡ pos 3 ∷ []
  pub unversioned : new version_tree ≡ []
  pub undated : new detail_tree ≡ []
  pub sound : IsSound schema_3 new

-- The tables of schema 4 name the World that comes of that of schema 3. There mds_schema says 4, and neither versions nor details of
-- streams have rows of their own.
pub record HasFormed (old new : Trees) : Type 0 where
  pub becomes : (fact : Fact) → (fact ∈ world_4 new) ↔ IsFormedOf (world_3 old) fact
  -- no form is lost: a version of the length of its day's head has a head of its own update
  pub kept : (key : Key) (reading : ReadingValue) (unit : MeasureUnit) → VersionIs key reading ∈ world_3 old
      → HeadIs (day_head key unit) ∈ world_3 old → HeadIs (head_over key unit) ∈ world_4 new
  -- mds_pack, mds_daydetail and the steady tables have the same rows as before
  pub others : Keeps old new (pack_table ∷ daydetail_table ∷ steady_tables)
  -- mds_head has its rows with length 0, and otherwise as they were
  pub heads : IsPermutation (map without_length (old head_tree)) (map (drop 1) (new head_tree))
  pub version : versions_said new ≡ pos 4 ∷ []
  pub unversioned : new version_tree ≡ []
  pub undated : new detail_tree ≡ []
  pub sound : IsSound schema_4 new

-- A step: from databases that are such stores and have this schema, to another schema, and what becomes of their trees.
pub record Step : Type 1 where
  pub From : Database → Type 0
  pub under : Schema
  pub fits : (db : Database) → From db → db.schema ≡ under
  pub to : Schema
  pub Has : Trees → Trees → Type 0

abbrev pub packing : Step
packing = record { From = IsStore; under = schema_1; fits = λ db store. store.schema; to = schema_2; Has = HasPacked }

abbrev pub dating : Step
dating = record { From = IsPackedStore; under = schema_2; fits = λ db is. is.store.schema; to = schema_3; Has = HasDated }

abbrev pub forming : Step
forming = record { From = IsDailyStore; under = schema_3; fits = λ db is. is.store.schema; to = schema_4; Has = HasFormed }

module _ (step : Step) where
  -- while the disk is honest and the connection open, what is committed is a store that the step is for
  abbrev pub HoldsFrom : State → Type 0
  HoldsFrom s = HasCleanDisk s → IsTrue s.is_open → step.From s.committed

  -- such a store, which is sound
  pub record IsFor (db : Database) : Type 0 where
    pub store : step.From db
    pub sound : IsSound step.under db.trees

  -- what all parts of the step do, one after another, as the transaction sees them
  abbrev pub TakesOn : {X E : Type 0} → State → State → Result X E → Type 0
  TakesOn old new result = Moves step.under step.to (λ _. IsFor old.now → step.Has old.now.trees new.now.trees) old new result

  -- the same, with a commit
  pub record Writes (old new : State) : Type 0 where
    pub is_open : IsTrue old.is_open → IsTrue new.is_open
    pub schema : IsTrue old.is_open → IsFor old.now → new.committed.schema ≡ step.to
    pub taken : IsTrue old.is_open → IsFor old.now → step.Has old.now.trees new.committed.trees

  -- what a crash may leave of the transaction
  abbrev pub LeavesWritten : State → Trees → Type 0
  LeavesWritten old left = IsTrue old.is_open → IsFor old.now → step.Has old.now.trees left

  -- The store became one of the next schema.
  pub record IsTaken (old new : State) : Type 0 where
    pub was_open : IsTrue old.is_open
    pub was : step.From old.committed
    pub is_open : IsTrue new.is_open
    pub schema : new.committed.schema ≡ step.to
    pub taken : step.Has old.committed.trees new.committed.trees

  -- What a crash may leave of a step that wasn't answered: the store of the next schema, whole.
  pub record LeavesTaken (old : State) (left : Trees) : Type 0 where
    pub was_open : IsTrue old.is_open
    pub was : step.From old.committed
    pub taken : step.Has old.committed.trees left

-- one of the three steps was done, the one that the store needs
abbrev pub IsMigrated : State → State → Type 0
IsMigrated old new = IsTaken packing old new ⊎ (IsTaken dating old new ⊎ IsTaken forming old new)

-- two steps, one after the other
abbrev pub Both : (Trees → Trees → Type 0) → (Trees → Trees → Type 0) → Trees → Trees → Type 0
Both First Second old new = (between : Trees) × First old between × Second between new

-- what one step makes of a store
abbrev pub TakesOne : Database → Trees → Type 0
TakesOne old new =
    (IsDailyStore old × HasFormed old.trees new) ⊎ ((IsPackedStore old × HasDated old.trees new) ⊎ (IsStore old × HasPacked old.trees new))

-- what two steps make of one
abbrev pub TakesTwo : Database → Trees → Type 0
TakesTwo old new =
    (IsPackedStore old × Both HasDated HasFormed old.trees new) ⊎ (IsStore old × Both HasPacked HasDated old.trees new)

-- What all steps make of a store. The days of one of schema 3 get heads of updates. Those of one of schema 2 get details first, and
-- those of one of schema 1 are packed before that.
abbrev pub TakesSteps : Database → Trees → Type 0
TakesSteps old new =
    (IsDailyStore old × HasFormed old.trees new)
    ⊎ ((IsPackedStore old × Both HasDated HasFormed old.trees new)
    ⊎ (IsStore old × Both HasPacked (Both HasDated HasFormed) old.trees new))

abbrev pub LeavesMigrated : State → Trees → Type 0
LeavesMigrated old left = LeavesTaken packing old left ⊎ (LeavesTaken dating old left ⊎ LeavesTaken forming old left)

-- What a crash may leave of all steps: the store that one, two or all of them make, whole.
abbrev pub LeavesSteps : State → Trees → Type 0
LeavesSteps old left =
    IsTrue old.is_open × (TakesOne old.committed left ⊎ (TakesTwo old.committed left ⊎ TakesSteps old.committed left))

-- what a migration answers
abbrev pub Answered : State → State → Migrated → Type 0
Answered old new Done = IsMigrated old new
Answered old new AlreadyCurrent = IsCurrentStore old.committed × AreOpen old new × KeepsCommit old new

-- Nothing was changed. U3 only if the database is a store of none of the schemas.
abbrev pub IsRefused : State → State → MigrateFault → Type 0
IsRefused old new OtherSchema =
    KeepsCommit old new × (IsStore old.now → ⊥) × (IsPackedStore old.now → ⊥) × (IsDailyStore old.now → ⊥) × (IsCurrentStore old.now → ⊥)
IsRefused old new Unavailable = KeepsCommit old new
