-- What statements on mds_pack do in a transaction (profile).
use Rattle.std.specs.Prelude.{◌≡◌, ◌⊎◌, ℕ, ℤ, List, ◌∷◌, [], drop, map, IsTrue, None, Option}
use Rattle.std.specs.FinSet as set
use Rattle.sqlite.specs.Effect.{IsDatabase}
use Rattle.sqlite.specs.State.{HasCleanDisk, IsUnchanged, State}
use Rattle.sqlite.specs.declared.types.Value.TheVariants.{Int}
use Rattle.sqlite_catalog.specs.Listing.{IsSound}
use Rattle.sqlite_trees.specs.Tree.{Trees}
use Rattle.sqlite_value.specs.Order.{Row, column}
use Rattle.mds_names.specs.declared.stream.Stream.{Stream}
use Rattle.mds_marks.specs.Reading.{ReadingValue}
use Rattle.mds_world.specs.FactOrder.{fact_cmp}
use Rattle.mds_world.specs.Facts.{Fact}
use Rattle.mds_world.specs.Lists.{Member}
use Rattle.mds_world.specs.World.{union}
use Rattle.mds_keeper.specs.Books.{row_fact}
use Rattle.mds_keeper.specs.declared.day_book.Version.{Version}
use Rattle.mds_tables.specs.RowFacts.{text_at}
use Rattle.mds_tables.specs.Stores.{Begins}
use Rattle.mds_tables.specs.Tables.{More, schema_with}
use Rattle.mds_tables.specs.Writing.{IsMore, KeepsOthers}
use Rattle.mds_pack_rows.specs.PackCells.{key_cells, pack_cells}
use Rattle.mds_pack_rows.specs.PackFacts.{pack_facts, pack_versions, readings_facts, readings_in}
use Rattle.mds_pack_rows.specs.PackTables.{Behind, body_columns, pack_tree, packs_then}
use Rattle.mds_pack_rows.specs.Swaps.{Swaps}

-- Whatever the tables are, an open connection stays open, and the transaction goes on.
pub record GoesOn (old new : State) : Type 0 where
  pub was_open : HasCleanDisk new → IsTrue new.is_open → IsTrue old.is_open
  pub is_open : HasCleanDisk new → IsTrue old.is_open → IsTrue new.is_open
  pub inside : HasCleanDisk new → IsTrue old.in_transaction → IsTrue new.in_transaction

-- The connection was open over the tables up to mds_pack and others after it, and the disk is honest up to the end.
pub record IsThere (old new : State) : Type 0 where
  pub clean : HasCleanDisk new
  pub is_open : IsTrue old.is_open
  -- what follows mds_pack
  pub rest : Behind
  pub schema : old.now.schema ≡ schema_with (packs_then rest.more)
  pub sound : IsSound (schema_with (packs_then rest.more)) old.now.trees

-- Every table but mds_pack is as it was, and nothing is committed.
pub record ChangesPacks (old new : State) : Type 0 where
  pub is_open : IsTrue new.is_open
  pub schema : new.now.schema ≡ old.now.schema
  pub others : KeepsOthers pack_tree old.now.trees new.now.trees old.now.schema.tables
  pub committed : new.committed ≡ old.committed
  pub sound : IsSound new.now.schema new.now.trees

-- A query was answered, whatever tables follow mds_pack, and the database is as it was.
pub record FindsThere (old new : State) (Shows : Trees → Type 0) : Type 0 where
  pub same : (rest : More) → old.now.schema ≡ schema_with (packs_then rest) → IsUnchanged old new
  pub shows : (rest : More) → old.now.schema ≡ schema_with (packs_then rest) → IsDatabase old.now → Shows old.now.trees

-- one of these rows is this one, whatever their rowids
abbrev pub IsAmong : Row → List Row → Type 0
IsAmong row rows = Member (drop 1 row) (map (drop 1) rows)

-- mds_pack names these facts in addition to its earlier ones. A new row says one of them, and a row whose body doesn't read
-- stays.
pub record NamesMore (old new : Trees) (facts : List Fact) : Type 0 where
  pub names : IsMore (pack_versions new) (pack_versions old) facts
  pub came : (row : Row) → Member row (new pack_tree)
      → IsAmong row (old pack_tree) ⊎ ((fact : Fact) × Member fact facts × Member fact (pack_facts row))
  pub stay : (row : Row) → Member row (old pack_tree) → readings_in (text_at row 5) ≡ None → IsAmong row (new pack_tree)

-- these facts are put into mds_pack, as the transaction sees it
abbrev pub PutsFacts : State → State → List Fact → Type 0
PutsFacts old new facts =
    GoesOn old new × (IsThere old new → ChangesPacks old new × NamesMore old.now.trees new.now.trees facts)

-- a row with this rowid and any key has this body instead of its own
abbrev pub PutsBody : State → State → ℤ → List ℕ → Type 0
PutsBody old new id body = GoesOn old new × (IsThere old new → ChangesPacks old new
    × ((s : Stream) (day update : ℕ) (row : Row) → Member row (old.now.trees pack_tree) → column row 0 ≡ Int id
    → Begins (key_cells s day update) row
    → Swaps pack_tree (drop 1 row) (pack_cells s day update body) old.now.trees new.now.trees))

-- a row, shown by its rowid and its body, says these readings in addition to its own
abbrev pub PutsBeside : State → State → Row → List (Option ReadingValue) → Type 0
PutsBeside old new shown readings = GoesOn old new × (IsThere old new → ChangesPacks old new
    × ((s : Stream) (day update : ℕ) (row : Row) → Member row (old.now.trees pack_tree) → shown ≡ map (column row) body_columns
    → Begins (key_cells s day update) row
    → NamesMore old.now.trees new.now.trees (readings_facts s day update readings)))

-- readings of one update say what these versions do
abbrev pub SayRows : ℕ → List (Option ReadingValue) → List (ℕ × Version) → Type 0
SayRows update readings rows = (s : Stream) (day : ℕ)
    → set.from_list {R = fact_cmp} (readings_facts s day update readings) ≡ set.from_list (map (row_fact s day) rows)

-- they say this version in addition to what others say
abbrev pub SayMore : ℕ → List (Option ReadingValue) → List (Option ReadingValue) → ℕ × Version → Type 0
SayMore update old new row = (s : Stream) (day : ℕ)
    → set.from_list {R = fact_cmp} (readings_facts s day update new)
    ≡ union (set.from_list (readings_facts s day update old)) (set.from_list (row_fact s day row ∷ []))
