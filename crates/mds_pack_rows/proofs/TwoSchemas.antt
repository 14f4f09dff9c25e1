-- A database of one schema is no store of another, and what holds which tables.
use Rattle.std.proofs.Common.{◌≡◌, ◌≢◌, length, IsTrue, sym, ap, ◌∙◌}
use Rattle.sqlite.specs.Effect.{Database}
use Rattle.sqlite.specs.Schema.{Schema}
use Rattle.sqlite.specs.State.{State}
use Rattle.mds_tables.specs.Layouts.{Layout}
use Rattle.mds_tables.specs.Stores.{HoldsTablesOf, IsStoreOf}
use Rattle.mds_tables.specs.Tables.{schema_with, tables_with}

-- a store has as many tables as its layout says
pub not_of : (layout : Layout) (schema : Schema) (db : Database) → db.schema ≡ schema → length schema.tables ≢ length (tables_with layout.more)
    → ¬ IsStoreOf layout db
not_of layout schema db has differ store = differ (ap (λ (s : Schema). length s.tables) (sym has ∙ store.schema))

-- a connection in no transaction holds the tables that it sees
pub tables_seen : (layout : Layout) (s : State) → (IsTrue s.is_open → s.now ≡ s.committed) → s.now.schema ≡ schema_with layout.more
    → HoldsTablesOf layout s
tables_seen layout s settled has clean is_open = ap (λ (db : Database). db.schema) (sym (settled is_open)) ∙ has
