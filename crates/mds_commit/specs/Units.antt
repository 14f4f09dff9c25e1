-- What queries of mds_head find of the units of days, in a transaction (profile).
use Rattle.std.specs.Prelude.{◌≡◌, ◌≤◌, ℕ, List, [], ◌∷◌, IfOk, IsTrue, OnOk, Result, false}
use Rattle.sqlite.specs.State.{HasCleanDisk, KeepsCommit, State, Survives}
use Rattle.sqlite_sql.specs.Ops.{is_null}
use Rattle.sqlite_trees.specs.Tree.{Trees, rowid}
use Rattle.sqlite_value.specs.Order.{Row, column}
use Rattle.mds_names.specs.declared.stream.Stream.{Stream}
use Rattle.mds_quantity.specs.declared.unit.Unit.{Unit as MeasureUnit}
use Rattle.mds_world.specs.Lists.{Member}
use Rattle.mds_world.specs.declared.facts.Head.{Head}
use Rattle.mds_tables.specs.RowFacts.{natural_at, stream_in, text_at, unit_named}
use Rattle.mds_tables.specs.Tables.{More, head_tree, schema_with}
use Rattle.mds_pack_rows.specs.PackTables.{packs_then}
use Rattle.mds_pack_rows.specs.Putting.{FindsThere, GoesOn}

-- Queries of an open connection, if all are answered, say this of the trees. They change and commit nothing, whatever tables follow
-- mds_pack.
pub record AsksThere {X E : Type 0} (old new : State) (result : Result X E) (Tells : X → Trees → Type 0) : Type 0 where
  pub ok : HasCleanDisk new → IsTrue old.is_open → IfOk result (λ x. FindsThere old new (Tells x))
  pub goes_on : OnOk result (GoesOn old new)
  pub kept : HasCleanDisk new → IsTrue old.is_open → (rest : More) → old.now.schema ≡ schema_with (packs_then rest) → KeepsCommit old new
  pub survives : Survives old new (λ _. ⊥)

-- the row is of the stream, on a day from the first to the last
abbrev pub IsInDays : Stream → ℕ → ℕ → Row → Type 0
IsInDays s first last row = (stream_in row ≡ s) × (first ≤ natural_at row 3) × (natural_at row 3 ≤ last)

-- these rows, each of one column, show the unit of each row of mds_head in a range of days
abbrev pub ShowUnits : Stream → ℕ → ℕ → List Row → Trees → Type 0
ShowUnits s first last shown trees =
    (row : Row) → Member row (trees head_tree) → IsInDays s first last row → Member (column row 5 ∷ []) shown

-- each row of mds_head in a range of days says this unit
abbrev pub SayUnit : Stream → ℕ → ℕ → MeasureUnit → Trees → Type 0
SayUnit s first last unit trees =
    (row : Row) → Member row (trees head_tree) → IsInDays s first last row → unit_named (text_at row 5) ≡ unit

-- a head has the stream and the unit of another, and is on a day from that one's to the last
abbrev pub IsLike : Head → ℕ → Head → Type 0
IsLike first last head = (head.stream ≡ first.stream) × (head.unit ≡ first.unit) × (first.day ≤ head.day) × (head.day ≤ last)

-- no row of mds_head has NULL as its rowid
abbrev pub HaveRowids : Trees → Type 0
HaveRowids trees = (row : Row) → Member row (trees head_tree) → is_null (rowid row) ≡ false

-- for each row of mds_head one of these rows, each of one column, has NULL if it has NULL as its rowid
abbrev pub TellRowids : List Row → Trees → Type 0
TellRowids shown trees =
    (row : Row) → Member row (trees head_tree)
    → (first : Row) × Member first shown × (is_null (column first 0) ≡ false → is_null (rowid row) ≡ false)
