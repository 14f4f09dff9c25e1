-- The table of packed days (profile), and the tables of schema 2: those of schema 1, followed by mds_pack. It keeps the
-- versions of a day that have one update in one row, as a body. It comes after all others, so that the trees of schema 1 keep
-- their numbers. Other tables may follow it.
use Rattle.std.specs.Prelude.{◌≡◌, ◌≤◌, ℕ, List, [], ◌∷◌, codes}
use Rattle.std.specs.List.{AllByRecursion}
use Rattle.sqlite.specs.Kind.TheVariants.{Blob}
use Rattle.sqlite.specs.Schema.{Schema}
use Rattle.sqlite.specs.Table.{Table}
use Rattle.sqlite_rules.specs.Action.{works}
use Rattle.sqlite_schema.specs.declared.schema.Index.{Index}
use Rattle.sqlite_schema.specs.declared.schema.Keys.TheVariants.{Enforced}
use Rattle.sqlite_value.specs.Order.{Row}
use Rattle.mds_tables.specs.Tables.{More, key_index, needed, no_more, number, schema_with, table_of, tables_with, text, to_head}

abbrev pub pack_tree : ℕ
pack_tree = 16

abbrev pub pack_key : List ℕ
pack_key = 1 ∷ 2 ∷ 3 ∷ 4 ∷ []

-- the columns of a row that a replacement asks for: its rowid, and its body
abbrev pub body_columns : List ℕ
body_columns = 0 ∷ 5 ∷ []

-- those from which a day's versions are read: the update, and the body
abbrev pub update_columns : List ℕ
update_columns = 4 ∷ 5 ∷ []

abbrev pub pack_table : Table
pack_table = record (table_of (codes "mds_pack") pack_tree
    (text (codes "nmi") ∷ text (codes "suffix") ∷ number (codes "day") ∷ number (codes "moment")
    ∷ needed (codes "body") Blob ∷ [])
    pack_key) { references = to_head ∷ [] }

-- how many trees the tables up to mds_pack, and the indexes of their keys, take
abbrev pub trees_packed : ℕ
trees_packed = 18

-- mds_pack and the index of its key, and then more
abbrev pub packs_then : More → More
packs_then rest = record {
  tables = pack_table ∷ rest.tables;
  indexes = key_index (codes "sqlite_autoindex_mds_pack_1") pack_tree pack_key ∷ rest.indexes;
}

-- What follows mds_pack.
pub record Behind : Type 0 where
  -- the tables, and the indexes
  pub more : More
  -- no foreign key changes a row
  pub idle : (tree : ℕ) (olds news : List Row) → works (schema_with (packs_then more)) Enforced 0 tree olds news ≡ []
  -- the trees of those tables, and the tables of those indexes, come after that of mds_pack
  pub behind : AllByRecursion (λ (table : Table). trees_packed ≤ table.tree) more.tables
  pub indexes_behind : AllByRecursion (λ (index : Index). trees_packed ≤ index.table) more.indexes

-- what follows the tables that every schema has: mds_pack, and nothing after it
abbrev pub packs : More
packs = packs_then no_more

abbrev pub tables_2 : List Table
tables_2 = tables_with packs

abbrev pub schema_2 : Schema
schema_2 = schema_with packs

-- the statement that makes mds_pack after the tables of schema 1
abbrev pub create_pack : List ℕ
create_pack = codes "CREATE TABLE mds_pack (nmi TEXT NOT NULL, suffix TEXT NOT NULL, day INTEGER NOT NULL, moment INTEGER NOT NULL, body BLOB NOT NULL, PRIMARY KEY (nmi, suffix, day, moment), FOREIGN KEY (nmi, suffix, day) REFERENCES mds_head (nmi, suffix, day)) STRICT"
