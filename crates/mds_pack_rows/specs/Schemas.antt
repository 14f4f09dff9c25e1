-- The schemas by their numbers (profile). The tables are a list, in the order in which they are made. Schema 1 has the first eight
-- of them, and each later schema has one more.
use Rattle.std.specs.Prelude.{ℕ, zero, suc, ◌+◌, List, [], ◌∷◌, codes, slice_index_or}
use Rattle.sqlite.specs.Schema.{Schema}
use Rattle.sqlite.specs.Table.{Table}
use Rattle.sqlite_schema.specs.declared.schema.Index.{Index}
use Rattle.mds_tables.specs.Tables.{key_index, schema_table, schema_tree}
use Rattle.mds_pack_rows.specs.Current.{current_schema}

-- the table of a number, from 0 on; the first one if there are not so many
abbrev pub nth_table : ℕ → Table
nth_table n = slice_index_or current_schema.tables n schema_table

-- the index of its key
abbrev pub nth_index : ℕ → Index
nth_index n = slice_index_or current_schema.indexes n (key_index (codes "sqlite_autoindex_mds_schema_1") schema_tree (1 ∷ []))

-- so many tables from a number on
abbrev pub tables_from : ℕ → ℕ → List Table
tables_from n zero = []
tables_from n (suc count) = nth_table n ∷ tables_from (n + 1) count

-- so many indexes from a number on
abbrev pub indexes_from : ℕ → ℕ → List Index
indexes_from n zero = []
indexes_from n (suc count) = nth_index n ∷ indexes_from (n + 1) count

-- the first of the tables, so many, with their indexes
abbrev pub schema_of : ℕ → Schema
schema_of count = record { tables = tables_from 0 count; indexes = indexes_from 0 count; views = [] }

-- the schema of a number, from 1 on
abbrev pub nth_schema : ℕ → Schema
nth_schema number = schema_of (number + 7)
