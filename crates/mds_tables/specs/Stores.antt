-- What a connection over a store holds, and what calls do to it (profile).
use Rattle.std.specs.Prelude.{◌≡◌, ◌↔◌, ◌⊎◌, ℕ, ℤ, pos, List, [], ◌∷◌, ◌++◌, drop, length, map, take, IsTrue}
use Rattle.std.specs.List.Sorted.{IsPermutation}
use Rattle.sqlite.specs.Effect.{Database, IsDatabase}
use Rattle.sqlite.specs.State.{HasCleanDisk, IsRolledBack, IsUnchanged, State}
use Rattle.sqlite_catalog.specs.Listing.{IsSound}
use Rattle.sqlite_trees.specs.Tree.{Trees}
use Rattle.sqlite_value.specs.Order.{Row, column}
use Rattle.mds_world.specs.Lists.{Member}
use Rattle.mds_world.specs.World.{World, union}
use Rattle.mds_keeper.specs.Content.{content}
use Rattle.mds_keeper.specs.declared.additions.Additions.{Additions}
use Rattle.mds_jobs.specs.Bodies.{IsJobBody}
use Rattle.mds_jobs.specs.Jobs.{content_of}
use Rattle.mds_jobs.specs.declared.job.Job.{Job}
use Rattle.mds_statements.specs.Bodies.{IsPeriodBody}
use Rattle.mds_statements.specs.declared.periods.Period.{Period}
use Rattle.mds_tables.specs.Cells.{event_cells, holiday_cells, job_cells, period_cells}
use Rattle.mds_tables.specs.Layouts.{Layout, rows_layout, world_with}
use Rattle.mds_tables.specs.RowFacts.{int_at}
use Rattle.mds_tables.specs.Tables.{detail_tree, event_tree, holiday_tree, job_tree, period_tree, schema_tree, schema_version, schema_with, version_tree}

-- what mds_schema says
abbrev pub versions_said : Trees → List ℤ
versions_said trees = map (λ row. int_at row schema_version) (trees schema_tree)

-- A database is a store of a layout if it has just the layout's tables, and mds_schema says the layout's number.
pub record IsStoreOf (layout : Layout) (db : Database) : Type 0 where
  pub schema : db.schema ≡ schema_with layout.more
  pub version : versions_said db.trees ≡ pos layout.number ∷ []

-- while the disk is honest and the connection open, what is committed is a store
abbrev pub HoldsOf : Layout → State → Type 0
HoldsOf layout s = HasCleanDisk s → IsTrue s.is_open → IsStoreOf layout s.committed

-- the same of the tables alone, whatever mds_schema says
abbrev pub HoldsTablesOf : Layout → State → Type 0
HoldsTablesOf layout s = HasCleanDisk s → IsTrue s.is_open → s.committed.schema ≡ schema_with layout.more

-- the World that is kept
abbrev pub world_kept : Layout → State → World
world_kept layout s = world_with layout s.committed.trees

-- the connection is open, in no transaction, over a sound database, and it is as it was
pub record IsReady (old new : State) : Type 0 where
  pub same : IsUnchanged old new
  pub settled : old.now ≡ old.committed
  pub sound : IsDatabase old.now

-- nothing has changed, or the transaction is undone
abbrev pub ChangesNothing : State → State → Type 0
ChangesNothing old new = IsUnchanged old new ⊎ IsRolledBack old new

-- the connection was open, and still is
pub record AreOpen (old new : State) : Type 0 where
  pub was_open : IsTrue old.is_open
  pub is_open : IsTrue new.is_open

-- The rows of a tree, each without its rowid, are these together with those that were there.
abbrev pub Gains : ℕ → List Row → Trees → Trees → Type 0
Gains tree rows old new = IsPermutation (map (drop 1) (old tree) ++ rows) (map (drop 1) (new tree))

-- the row is that of the accumulation; its body has the fields, then the update, and then the notes
abbrev pub IsPeriodRow : Period → Row → Type 0
IsPeriodRow period row = (body : List ℕ) × IsPeriodBody period body × (row ≡ period_cells period.key body)

-- the row is that of the job, and its body is one of those that its content has
abbrev pub IsJobRow : Job × ℕ → Row → Type 0
IsJobRow job row =
    (body : List ℕ) × IsJobBody (content_of job.0) body × (row ≡ job_cells job.0.id body (pos job.1))

-- the row of each thing, in their order
abbrev pub AreRowsOf : {A B : Type 0} → (A → B → Type 0) → List A → List B → Type 0
AreRowsOf IsRow [] [] = Unit {0}
AreRowsOf IsRow (thing ∷ things) (row ∷ rows) = IsRow thing row × AreRowsOf IsRow things rows
AreRowsOf IsRow [] (row ∷ rows) = ⊥
AreRowsOf IsRow (thing ∷ things) [] = ⊥

-- What became of the rows of heads, versions and details of days when these additions were added. Each layout says it for itself.
abbrev pub Gained : Type 1
Gained = Trees → Trees → Additions → Type 0

-- Each table has the rows of its facts among the additions, column by column, together with those that were there, and no other.
pub record AddsOf (HasOwn : Gained) (old new : Trees) (additions : Additions) : Type 0 where
  pub schema : new schema_tree ≡ old schema_tree
  pub own : HasOwn old new additions
  pub unfilled : new version_tree ≡ old version_tree
  pub undated : new detail_tree ≡ old detail_tree
  pub events : Gains event_tree (map event_cells additions.events.items) old new
  pub periods : (rows : List Row) × AreRowsOf IsPeriodRow additions.periods.items rows × Gains period_tree rows old new
  pub holidays : Gains holiday_tree (map holiday_cells additions.holidays.items) old new
  pub jobs : (rows : List Row) × AreRowsOf IsJobRow additions.jobs.items rows × Gains job_tree rows old new

-- The additions are committed to what was kept.
pub record CommitsOf (layout : Layout) (HasOwn : Gained) (old new : State) (additions : Additions) : Type 0 where
  pub was_open : IsTrue old.is_open
  pub is_open : IsTrue new.is_open
  pub store : IsStoreOf layout new.committed
  pub rows : AddsOf HasOwn old.committed.trees new.committed.trees additions
  pub world : world_kept layout new ≡ union (world_kept layout old) (content additions)

-- What a crash may leave of a commit that wasn't answered: a store that keeps all of the additions together with what was kept.
pub record LeavesAddedOf (layout : Layout) (HasOwn : Gained) (old : State) (additions : Additions) (left : Trees) : Type 0 where
  pub was_open : IsTrue old.is_open
  pub store : IsStoreOf layout (record { schema = schema_with layout.more; trees = left })
  pub sound : IsSound (schema_with layout.more) left
  pub rows : AddsOf HasOwn old.committed.trees left additions
  pub world : world_with layout left ≡ union (world_kept layout old) (content additions)

-- after its rowid, a row of a tree begins with these columns
abbrev pub Begins : Row → Row → Type 0
Begins key row = take (length key) (drop 1 row) ≡ key

-- The rows of a tree that begin with these columns, each as its columns at these places.
abbrev pub Selects : ℕ → Row → List ℕ → Trees → List Row → Type 0
Selects tree key places trees rows =
    (shown : Row) → Member shown rows
    ↔ ((row : Row) × Member row (trees tree) × Begins key row × (shown ≡ map (column row) places))

-- the query was answered, and the database is as it was
pub record FindsOf (layout : Layout) (old new : State) (Shows : Trees → Type 0) : Type 0 where
  pub same : old.now.schema ≡ schema_with layout.more → IsUnchanged old new
  pub shows : old.now.schema ≡ schema_with layout.more → IsDatabase old.now → Shows old.now.trees

-- All rows of a tree, each as its columns at these places.
abbrev pub SelectsAll : ℕ → List ℕ → Trees → List Row → Type 0
SelectsAll tree places trees rows = IsPermutation (map (λ row. map (column row) places) (trees tree)) rows

-- a store of schema 1
abbrev pub IsStore : Database → Type 0
IsStore = IsStoreOf rows_layout
