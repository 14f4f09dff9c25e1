-- The statements that make the tables, and what one of them does in a transaction (profile).
use Rattle.std.specs.Prelude.{◌≡◌, ℕ, ◌+◌, List, [], ◌∷◌, slice_index_or, IsTrue}
use Rattle.sqlite.specs.State.{State}
use Rattle.sqlite_catalog.specs.Listing.{IsSound}
use Rattle.mds_tables.specs.Texts.{create_detail, create_event, create_head, create_holiday, create_job, create_period, create_schema, create_version}
use Rattle.mds_tables.specs.Writing.{Keeps}
use Rattle.mds_pack_rows.specs.DailyTables.{create_daydetail}
use Rattle.mds_pack_rows.specs.FormTables.{create_form}
use Rattle.mds_pack_rows.specs.PackTables.{create_pack}
use Rattle.mds_pack_rows.specs.Schemas.{nth_table, schema_of}

-- The statement that makes the table of a number. A table comes after those that it refers to.
abbrev pub create : ℕ → List ℕ
create n =
    slice_index_or
    (create_schema ∷ create_head ∷ create_version ∷ create_detail ∷ create_event ∷ create_period ∷ create_holiday ∷ create_job
    ∷ create_pack ∷ create_daydetail ∷ [])
    n create_form

-- The table of a number follows those before it, which are as they were, and has no row. Nothing is committed.
pub record MakesTable (n : ℕ) (old new : State) : Type 0 where
  pub is_open : IsTrue new.is_open
  pub schema : new.now.schema ≡ schema_of (n + 1)
  pub others : Keeps old.now.trees new.now.trees (schema_of n).tables
  pub none : new.now.trees (nth_table n).tree ≡ []
  pub committed : new.committed ≡ old.committed
  pub sound : IsSound (schema_of (n + 1)) new.now.trees
