-- The tables of schema 4 (profile): those of schema 3, followed by mds_form. It keeps the heads of days: a row for each update,
-- with its length. It comes last, so that the trees of schema 3 keep their numbers.
use Rattle.std.specs.Prelude.{ℕ, false, List, [], ◌∷◌, codes}
use Rattle.sqlite.specs.Schema.{Schema}
use Rattle.sqlite.specs.Table.{Table}
use Rattle.sqlite_schema.specs.declared.schema.Action.TheVariants.{NoAction}
use Rattle.sqlite_schema.specs.declared.schema.Reference.{Reference}
use Rattle.mds_tables.specs.Tables.{More, form_tree, key_index, no_more, number, schema_with, table_of, tables_with, text}
use Rattle.mds_pack_rows.specs.DailyTables.{daily_then}

abbrev pub form_key : List ℕ
form_key = 1 ∷ 2 ∷ 3 ∷ 4 ∷ []

-- the versions of a head are in mds_pack
abbrev pub to_pack : Reference
to_pack = record {
  columns = form_key;
  parent = codes "mds_pack";
  parent_columns = codes "nmi" ∷ codes "suffix" ∷ codes "day" ∷ codes "moment" ∷ [];
  on_delete = NoAction;
  on_update = NoAction;
  is_deferred = false;
}

abbrev pub form_table : Table
form_table = record (table_of (codes "mds_form") form_tree
    (text (codes "nmi") ∷ text (codes "suffix") ∷ number (codes "day") ∷ number (codes "moment") ∷ number (codes "length")
    ∷ [])
    form_key) { references = to_pack ∷ [] }

-- mds_form and the index of its key, and then more
abbrev pub forms_then : More → More
forms_then rest = record {
  tables = form_table ∷ rest.tables;
  indexes = key_index (codes "sqlite_autoindex_mds_form_1") form_tree form_key ∷ rest.indexes;
}

-- what follows mds_daydetail
abbrev pub forms : More
forms = forms_then no_more

-- what follows the tables that every schema has, with more after mds_form
abbrev pub formed_then : More → More
formed_then rest = daily_then (forms_then rest)

-- with nothing after it
abbrev pub formed : More
formed = formed_then no_more

abbrev pub tables_4 : List Table
tables_4 = tables_with formed

abbrev pub schema_4 : Schema
schema_4 = schema_with formed

-- the statement that makes mds_form after the tables of schema 3
abbrev pub create_form : List ℕ
create_form = codes "CREATE TABLE mds_form (nmi TEXT NOT NULL, suffix TEXT NOT NULL, day INTEGER NOT NULL, moment INTEGER NOT NULL, length INTEGER NOT NULL, PRIMARY KEY (nmi, suffix, day, moment), FOREIGN KEY (nmi, suffix, day, moment) REFERENCES mds_pack (nmi, suffix, day, moment)) STRICT"
