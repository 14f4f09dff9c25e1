-- What the parts of a transaction do to the tables, and what all of it does.
use Rattle.std.specs.Prelude.{◌≡◌, ◌≢◌, ℕ, List, [], ◌∷◌, ◌++◌, map, IfErr, IsTrue, OnOk, Result}
use Rattle.std.specs.FinSet as set
use Rattle.std.specs.List.{AllByRecursion}
use Rattle.sqlite.specs.Schema.{Schema}
use Rattle.sqlite.specs.State.{HasCleanDisk, KeepsCommit, State, Survives}
use Rattle.sqlite.specs.Table.{Table}
use Rattle.sqlite.specs.declared.error.Error.{Error}
use Rattle.sqlite_catalog.specs.Listing.{IsSound}
use Rattle.sqlite_trees.specs.Tree.{Trees}
use Rattle.sqlite_value.specs.Order.{Row}
use Rattle.mds_world.specs.FactOrder.{fact_cmp}
use Rattle.mds_world.specs.Facts.{Fact}
use Rattle.mds_world.specs.Facts.Fact.{DetailIs, HeadIs}
use Rattle.mds_world.specs.World.{union}
use Rattle.mds_keeper.specs.Content as content
use Rattle.mds_keeper.specs.declared.additions.Additions.{Additions}
use Rattle.mds_tables.specs.Layouts.{Layout, world_with}
use Rattle.mds_tables.specs.Stores.{AddsOf, Gained, Gains}
use Rattle.mds_tables.specs.Tables.{More, detail_table, event_table, head_tree, holiday_table, job_table, period_table, schema_table, schema_with, version_table, version_tree}
use Rattle.mds_tables.specs.declared.jobs.JobRow.{JobRow}
use Rattle.mds_tables.specs.declared.periods.PeriodRow.{PeriodRow}
use Rattle.mds_tables.specs.Parts.{Part, Says, event_part, holiday_part, job_part, period_part}
use Rattle.mds_tables.specs.Refusals.{FailsToPut, TakesAll}

-- every table but that of a tree is as it was
abbrev pub KeepsOthers : ℕ → Trees → Trees → List Table → Type 0
KeepsOthers tree old new = AllByRecursion (λ table. table.tree ≢ tree → new table.tree ≡ old table.tree)

-- every table but those of these trees is as it was
abbrev pub KeepsBut : List ℕ → Trees → Trees → List Table → Type 0
KeepsBut trees old new = AllByRecursion (λ (table : Table). AllByRecursion (λ tree. table.tree ≢ tree) trees → new table.tree ≡ old table.tree)

-- all of these tables are as they were
abbrev pub Keeps : Trees → Trees → List Table → Type 0
Keeps old new = AllByRecursion (λ (table : Table). new table.tree ≡ old table.tree)

module _ (under : Schema) {A : Type 0} (part : Part A) (old new : State) (items : List A) where
  -- Under a schema these things have their rows in their table, together with those that were there, as the transaction sees it.
  -- Every other table is as it was, and nothing is committed.
  pub record Puts : Type 0 where
    pub schema : new.now.schema ≡ under
    pub rows : Gains part.tree (map part.cells items) old.now.trees new.now.trees
    pub others : KeepsOthers part.tree old.now.trees new.now.trees under.tables
    pub committed : new.committed ≡ old.committed
    pub sound : IsSound under new.now.trees

  -- The same, if the connection is open and has this schema. The row of each says its fact, under any rowid.
  pub record PutsThere : Type 0 where
    pub was_open : HasCleanDisk new → IsTrue new.is_open → IsTrue old.is_open
    pub is_open : HasCleanDisk new → IsTrue old.is_open → IsTrue new.is_open
    pub inside : HasCleanDisk new → IsTrue old.in_transaction → IsTrue new.in_transaction
    pub puts : HasCleanDisk new → IsTrue old.is_open → old.now.schema ≡ under → IsSound under old.now.trees → Puts
    pub said : Says part items

-- the trees of what is put after heads, versions and details
abbrev pub rest_trees : List ℕ
rest_trees = event_part.tree ∷ period_part.tree ∷ holiday_part.tree ∷ job_part.tree ∷ []

module _ (under : Schema) (old new : State) (additions : Additions) (periods : List PeriodRow) (jobs : List JobRow) where
  -- the same of all that is put after heads, versions and details; the rows of accumulations and of jobs are passed in
  pub record PutsRest : Type 0 where
    pub schema : new.now.schema ≡ under
    pub events : Gains event_part.tree (map event_part.cells additions.events.items) old.now.trees new.now.trees
    pub accumulated : Gains period_part.tree (map period_part.cells periods) old.now.trees new.now.trees
    pub holidays : Gains holiday_part.tree (map holiday_part.cells additions.holidays.items) old.now.trees new.now.trees
    pub planned : Gains job_part.tree (map job_part.cells jobs) old.now.trees new.now.trees
    pub others : KeepsBut rest_trees old.now.trees new.now.trees under.tables
    pub sound : IsSound under new.now.trees

  pub record PutsRestThere : Type 0 where
    pub was_open : HasCleanDisk new → IsTrue new.is_open → IsTrue old.is_open
    pub is_open : HasCleanDisk new → IsTrue old.is_open → IsTrue new.is_open
    pub inside : HasCleanDisk new → IsTrue old.in_transaction → IsTrue new.in_transaction
    pub puts : HasCleanDisk new → IsTrue old.is_open → old.now.schema ≡ under → IsSound under old.now.trees → PutsRest
    pub said_events : Says event_part additions.events.items
    pub said_periods : Says period_part periods
    pub said_holidays : Says holiday_part additions.holidays.items
    pub said_jobs : Says job_part jobs

-- the last facts are the first ones with these added
abbrev pub IsMore : List Fact → List Fact → List Fact → Type 0
IsMore more some facts = set.from_list {R = fact_cmp} more ≡ union (set.from_list some) (set.from_list facts)

-- the tables that every schema has, except that of heads
abbrev pub other_tables : List Table
other_tables = schema_table ∷ version_table ∷ detail_table ∷ event_table ∷ period_table ∷ holiday_table ∷ job_table ∷ []

-- The same of heads, versions and details, in any layout. They are in its tables, which say them together with what they said
-- before.
pub record PutsOwn (layout : Layout) (HasOwn : Gained) (old new : State) (additions : Additions) : Type 0 where
  pub schema : new.now.schema ≡ schema_with layout.more
  pub rows : HasOwn old.now.trees new.now.trees additions
  pub names : IsMore (layout.heads new.now.trees ++ layout.own new.now.trees) (layout.heads old.now.trees ++ layout.own old.now.trees)
      (map HeadIs (content.heads_of additions) ++ map content.version_fact (content.versions_of additions.days.items)
      ++ map DetailIs (content.details_of additions.details.items))
  pub others : Keeps old.now.trees new.now.trees other_tables
  pub sound : IsSound (schema_with layout.more) new.now.trees

-- What is said of the rows of heads, versions and details reads only mds_head, mds_version and the tables that follow those that
-- every schema has.
abbrev pub IsSteady : More → Gained → Type 0
IsSteady more HasOwn =
    (a b c d : Trees) (additions : Additions) → b head_tree ≡ a head_tree → b version_tree ≡ a version_tree → Keeps a b more.tables
    → HasOwn b c additions → d head_tree ≡ c head_tree → d version_tree ≡ c version_tree → Keeps c d more.tables
    → HasOwn a d additions

-- the connection is open, and the tables are as the schema says
pub record IsFit (under : Schema) (state : State) : Type 0 where
  pub is_open : IsTrue state.is_open
  pub sound : IsSound under state.now.trees

-- What a call in a transaction does that puts rows with these statements, each with the place of its table. It commits nothing, and
-- if it is Ok this is done. Else the store failed, or the tables refuse one of the statements. It is said under a schema.
pub record Changes {X : Type 0} (under : Schema) (Done : Type 0) (puts : List (ℕ × List Row)) (old new : State) (result : Result X Error) : Type 0 where
  pub ok : OnOk result Done
  pub took : HasCleanDisk new → old.now.schema ≡ under → IsFit under old → OnOk result (TakesAll old.step_limit puts old.now new.now)
  pub cause : HasCleanDisk new → IsTrue old.in_transaction → old.now.schema ≡ under → IsFit under old → IfErr result (FailsToPut old new puts old.now)
  pub kept : HasCleanDisk new → KeepsCommit old new
  pub survives : Survives old new (λ _. ⊥)

-- a call that puts the rows of things of one kind
abbrev pub PutsEach : {A X : Type 0} → Schema → Part A → List (ℕ × List Row) → State → State → Result X Error → List A → Type 0
PutsEach under part puts old new result items = Changes under (PutsThere under part old new items) puts old new result

module _ (layout : Layout) (HasOwn : Gained) where
  -- All of the additions are in the tables, together with what was there.
  pub record HasAddedOf (additions : Additions) (old new : Trees) : Type 0 where
    pub rows : AddsOf HasOwn old new additions
    pub world : world_with layout new ≡ union (world_with layout old) (content.content additions)
    pub sound : IsSound (schema_with layout.more) new

  -- The additions are committed together with what the transaction saw at its beginning.
  pub record WritesOf (old new : State) (additions : Additions) : Type 0 where
    pub is_open : IsTrue old.is_open → IsTrue new.is_open
    pub schema : IsTrue old.is_open → old.now.schema ≡ schema_with layout.more → IsSound (schema_with layout.more) old.now.trees
        → new.committed.schema ≡ schema_with layout.more
    pub added : IsTrue old.is_open → old.now.schema ≡ schema_with layout.more → IsSound (schema_with layout.more) old.now.trees
        → HasAddedOf additions old.now.trees new.committed.trees

  -- what a crash may leave of the transaction
  abbrev pub LeavesWrittenOf : State → Additions → Trees → Type 0
  LeavesWrittenOf old additions left =
      IsTrue old.is_open → old.now.schema ≡ schema_with layout.more → IsSound (schema_with layout.more) old.now.trees
      → HasAddedOf additions old.now.trees left
