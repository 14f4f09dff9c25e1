-- The tables of schema 3 (profile): those of schema 2, followed by mds_daydetail. It keeps the details of days: one row for the
-- details of a day under each moment of a header. It comes last, so that the trees of schema 2 keep their numbers.
use Rattle.std.specs.Prelude.{ℕ, List, [], ◌∷◌, codes}
use Rattle.sqlite.specs.Schema.{Schema}
use Rattle.sqlite.specs.Table.{Table}
use Rattle.mds_tables.specs.Tables.{More, daydetail_tree, key_index, no_more, number, schema_with, table_of, tables_with, text, to_head}
use Rattle.mds_pack_rows.specs.PackTables.{packs_then}

abbrev pub daydetail_key : List ℕ
daydetail_key = 1 ∷ 2 ∷ 3 ∷ 4 ∷ 5 ∷ 6 ∷ 7 ∷ 8 ∷ 9 ∷ []

abbrev pub daydetail_table : Table
daydetail_table = record (table_of (codes "mds_daydetail") daydetail_tree
    (text (codes "nmi") ∷ text (codes "suffix") ∷ number (codes "day") ∷ number (codes "moment") ∷ text (codes "configuration")
    ∷ text (codes "register") ∷ text (codes "datastream") ∷ text (codes "meter") ∷ number (codes "next") ∷ [])
    daydetail_key) { references = to_head ∷ [] }

-- mds_daydetail and the index of its key, and then more
abbrev pub daydetails_then : More → More
daydetails_then rest = record {
  tables = daydetail_table ∷ rest.tables;
  indexes = key_index (codes "sqlite_autoindex_mds_daydetail_1") daydetail_tree daydetail_key ∷ rest.indexes;
}

-- what follows mds_pack
abbrev pub daydetails : More
daydetails = daydetails_then no_more

-- what follows the tables that every schema has, with more after mds_daydetail
abbrev pub daily_then : More → More
daily_then rest = packs_then (daydetails_then rest)

-- with nothing after it
abbrev pub daily : More
daily = daily_then no_more

abbrev pub tables_3 : List Table
tables_3 = tables_with daily

abbrev pub schema_3 : Schema
schema_3 = schema_with daily

-- the statement that makes mds_daydetail after the tables of schema 2
abbrev pub create_daydetail : List ℕ
create_daydetail = codes "CREATE TABLE mds_daydetail (nmi TEXT NOT NULL, suffix TEXT NOT NULL, day INTEGER NOT NULL, moment INTEGER NOT NULL, configuration TEXT NOT NULL, register TEXT NOT NULL, datastream TEXT NOT NULL, meter TEXT NOT NULL, next INTEGER NOT NULL, PRIMARY KEY (nmi, suffix, day, moment, configuration, register, datastream, meter, next), FOREIGN KEY (nmi, suffix, day) REFERENCES mds_head (nmi, suffix, day)) STRICT"
