-- The tables of a store (profile), as the library lists them: those that every schema has, and then more. A table and the index of
-- its key have trees of their own, numbered in the order in which they are made. No other file says that order.
use Rattle.std.specs.Prelude.{ℕ, ◌+◌, true, false, List, [], ◌∷◌, None, codes}
use Rattle.sqlite.specs.Collation.TheVariants.{Binary}
use Rattle.sqlite.specs.Kind.TheVariants.{Integer, Text}
use Rattle.sqlite.specs.Schema.{Schema}
use Rattle.sqlite.specs.Table.{Table}
use Rattle.sqlite.specs.declared.types.Value.TheVariants.{Null}
use Rattle.sqlite_schema.specs.declared.schema.Action.TheVariants.{NoAction}
use Rattle.sqlite_schema.specs.declared.schema.Column.{Column}
use Rattle.sqlite_schema.specs.declared.schema.Index.{Index}
use Rattle.sqlite_schema.specs.declared.schema.Kind.{Kind}
use Rattle.sqlite_schema.specs.declared.schema.Reference.{Reference}

-- the trees of the tables
abbrev pub schema_tree : ℕ
schema_tree = 0

abbrev pub head_tree : ℕ
head_tree = 2

abbrev pub version_tree : ℕ
version_tree = 4

abbrev pub detail_tree : ℕ
detail_tree = 6

abbrev pub event_tree : ℕ
event_tree = 8

abbrev pub period_tree : ℕ
period_tree = 10

abbrev pub holiday_tree : ℕ
holiday_tree = 12

abbrev pub job_tree : ℕ
job_tree = 14

-- how many trees the tables of every schema and the indexes of their keys take
abbrev pub trees_taken : ℕ
trees_taken = 16

-- The tree of mds_daydetail, which since schema 3 follows them and mds_pack.
abbrev pub daydetail_tree : ℕ
daydetail_tree = 18

-- The tree of mds_form, which since schema 4 follows that one.
abbrev pub form_tree : ℕ
form_tree = 20

-- a column of a type, NOT NULL and of a STRICT table
abbrev pub needed : List ℕ → Kind → Column
needed name kind =
    record { name = name; kind = kind; is_strict = true; not_null = true; default = Null; collation = Binary }

abbrev pub text : List ℕ → Column
text name = needed name Text

abbrev pub number : List ℕ → Column
number name = needed name Integer

-- a table with one key, which may be its PRIMARY KEY
abbrev pub keyed_table : List ℕ → ℕ → List Column → List ℕ → List ℕ → Table
keyed_table name tree columns primary key = record {
  name = name;
  tree = tree;
  columns = columns;
  key = None;
  primary = primary;
  uniques = key ∷ [];
  orders = (record { digits = 0 }) ∷ [];
  checks = [];
  references = [];
  computed = [];
  stamps = record { places = []; terms = []; formats = [] };
  is_counted = false;
}

-- one whose PRIMARY KEY is these of its columns, numbered from 1
abbrev pub table_of : List ℕ → ℕ → List Column → List ℕ → Table
table_of name tree columns key = keyed_table name tree columns key key

-- one with a single column, which is UNIQUE
abbrev pub single_table : List ℕ → ℕ → Column → Table
single_table name tree column = keyed_table name tree (column ∷ []) [] (1 ∷ [])

-- the index of a table's key
abbrev pub key_index : List ℕ → ℕ → List ℕ → Index
key_index name table key = record {
  name = name;
  tree = table + 1;
  table = table;
  columns = key;
  order = record { digits = 0 };
  is_unique = true;
}

abbrev pub day_key : List ℕ
day_key = 1 ∷ 2 ∷ 3 ∷ []

abbrev pub version_key : List ℕ
version_key = 1 ∷ 2 ∷ 3 ∷ 4 ∷ 5 ∷ []

abbrev pub detail_key : List ℕ
detail_key = 1 ∷ 2 ∷ 3 ∷ 4 ∷ 5 ∷ 6 ∷ 7 ∷ 8 ∷ []

abbrev pub event_key : List ℕ
event_key = 1 ∷ 2 ∷ 3 ∷ 4 ∷ 5 ∷ 6 ∷ 7 ∷ []

abbrev pub period_key : List ℕ
period_key = 1 ∷ 2 ∷ 3 ∷ 4 ∷ 5 ∷ 6 ∷ []

-- the number of a column in its table
abbrev pub schema_version : ℕ
schema_version = 1

abbrev pub event_nmi : ℕ
event_nmi = 1

abbrev pub period_body : ℕ
period_body = 7

abbrev pub holiday_day : ℕ
holiday_day = 1

abbrev pub job_body : ℕ
job_body = 2

abbrev pub job_total : ℕ
job_total = 3

-- the columns that name a stream, if a row begins with them
abbrev pub stream_columns : List ℕ
stream_columns = 1 ∷ 2 ∷ []

-- all columns of a table
abbrev pub head_columns : List ℕ
head_columns = 1 ∷ 2 ∷ 3 ∷ 4 ∷ 5 ∷ []

abbrev pub version_columns : List ℕ
version_columns = 1 ∷ 2 ∷ 3 ∷ 4 ∷ 5 ∷ 6 ∷ 7 ∷ 8 ∷ 9 ∷ []

abbrev pub event_columns : List ℕ
event_columns = event_key

abbrev pub period_columns : List ℕ
period_columns = 1 ∷ 2 ∷ 3 ∷ 4 ∷ 5 ∷ 6 ∷ 7 ∷ []

abbrev pub schema_table : Table
schema_table = single_table (codes "mds_schema") schema_tree (number (codes "version"))

abbrev pub head_table : Table
head_table =
    table_of (codes "mds_head") head_tree
    (text (codes "nmi") ∷ text (codes "suffix") ∷ number (codes "day") ∷ number (codes "length") ∷ text (codes "unit")
    ∷ [])
    day_key

-- the day of a version, or of details, has a head
abbrev pub to_head : Reference
to_head = record {
  columns = day_key;
  parent = codes "mds_head";
  parent_columns = codes "nmi" ∷ codes "suffix" ∷ codes "day" ∷ [];
  on_delete = NoAction;
  on_update = NoAction;
  is_deferred = false;
}

abbrev pub version_table : Table
version_table = record (table_of (codes "mds_version") version_tree
    (text (codes "nmi") ∷ text (codes "suffix") ∷ number (codes "day") ∷ number (codes "slot")
    ∷ number (codes "moment") ∷ text (codes "quality") ∷ number (codes "code") ∷ text (codes "note")
    ∷ number (codes "amount") ∷ [])
    version_key) { references = to_head ∷ [] }

abbrev pub detail_table : Table
detail_table =
    table_of (codes "mds_detail") detail_tree
    (text (codes "nmi") ∷ text (codes "suffix") ∷ number (codes "moment") ∷ text (codes "configuration")
    ∷ text (codes "register") ∷ text (codes "datastream") ∷ text (codes "meter") ∷ number (codes "next") ∷ [])
    detail_key

abbrev pub event_table : Table
event_table =
    table_of (codes "mds_event") event_tree
    (text (codes "nmi") ∷ text (codes "suffix") ∷ number (codes "day") ∷ text (codes "trans") ∷ text (codes "ticket")
    ∷ number (codes "moment") ∷ text (codes "reading") ∷ [])
    event_key

abbrev pub period_table : Table
period_table =
    table_of (codes "mds_period") period_tree
    (text (codes "nmi") ∷ text (codes "suffix") ∷ text (codes "register") ∷ number (codes "start")
    ∷ number (codes "finish") ∷ number (codes "moment") ∷ text (codes "body") ∷ [])
    period_key

abbrev pub holiday_table : Table
holiday_table = single_table (codes "mds_holiday") holiday_tree (number (codes "day"))

abbrev pub job_table : Table
job_table =
    table_of (codes "mds_job") job_tree
    (text (codes "id") ∷ text (codes "body") ∷ number (codes "total") ∷ [])
    (1 ∷ [])

-- what follows the tables that every schema has
pub record More : Type 0 where
  pub tables : List Table
  pub indexes : List Index

abbrev pub tables_with : More → List Table
tables_with more =
    schema_table ∷ head_table ∷ version_table ∷ detail_table ∷ event_table ∷ period_table ∷ holiday_table ∷ job_table
    ∷ more.tables

abbrev pub indexes_with : More → List Index
indexes_with more =
    key_index (codes "sqlite_autoindex_mds_schema_1") schema_tree (1 ∷ [])
    ∷ key_index (codes "sqlite_autoindex_mds_head_1") head_tree day_key
    ∷ key_index (codes "sqlite_autoindex_mds_version_1") version_tree version_key
    ∷ key_index (codes "sqlite_autoindex_mds_detail_1") detail_tree detail_key
    ∷ key_index (codes "sqlite_autoindex_mds_event_1") event_tree event_key
    ∷ key_index (codes "sqlite_autoindex_mds_period_1") period_tree period_key
    ∷ key_index (codes "sqlite_autoindex_mds_holiday_1") holiday_tree (1 ∷ [])
    ∷ key_index (codes "sqlite_autoindex_mds_job_1") job_tree (1 ∷ [])
    ∷ more.indexes

abbrev pub schema_with : More → Schema
schema_with more = record { tables = tables_with more; indexes = indexes_with more; views = [] }

abbrev pub no_schema : Schema
no_schema = record { tables = []; indexes = []; views = [] }

-- in schema 1, nothing follows them
abbrev pub no_more : More
no_more = record { tables = []; indexes = [] }

abbrev pub tables_1 : List Table
tables_1 = tables_with no_more

abbrev pub indexes_1 : List Index
indexes_1 = indexes_with no_more

abbrev pub schema_1 : Schema
schema_1 = schema_with no_more
