-- What a text means that makes a table.
use Rattle.std.proofs.Common.{◌≡◌, ◌<◌, ◌+◌, ◌*◌, ◌^◌, ◌++◌, ℕ, List, [], ◌∷◌, codes, false, true, length, None, Ok, IsUtf8}
use Rattle.std.specs.List.{AllByRecursion}
use Rattle.sqlite.specs.Change.{automatics, created, is_reserved, is_used, next_tree}
use Rattle.sqlite.specs.Command.TheVariants.{CreateTable}
use Rattle.sqlite.specs.Compile.{table_defined_by}
use Rattle.sqlite.specs.Does.{lacks_sequence}
use Rattle.sqlite.specs.Listing.{understood}
use Rattle.sqlite.specs.Schema.{Schema}
use Rattle.sqlite.specs.Table.{Table}
use Rattle.sqlite.specs.declared.types.Value.TheVariants.{Text}
use Rattle.sqlite_catalog.specs.Listing.{is_fit, is_formed}
use Rattle.sqlite_resolve.specs.declared.compiled.Compiled.{Compiled}
use Rattle.sqlite_schema.specs.Rules.{index_reals, table_reals}
use Rattle.sqlite_schema.specs.declared.schema.Index.{Index}

-- no rule of the library is against a table with this text under this schema
pub record IsMakeable (schema : Schema) (text : List ℕ) (table : Table) : Type 0 where
  pub utf8 : IsUtf8 text
  pub named : IsUtf8 table.name
  pub defined : table_defined_by text ≡ Ok table
  pub free : is_used schema table.name ≡ false
  pub apart : AllByRecursion (λ (i : Index). is_used schema i.name ≡ false) (automatics table 0 0 table.uniques)
  pub own : is_reserved table.name ≡ false
  pub few : next_tree schema + length table.uniques < 65536
  pub reals : table_reals table < 2 ^ 64
  pub keys : AllByRecursion (λ key. index_reals (table_reals table) key < 2 ^ 64) table.uniques
  pub formed : is_formed table ≡ true
  pub fit : is_fit (Text (codes "table")) (Text table.name) (Text table.name) (Text text) ≡ true
  pub short : 2 * length table.name + length text + 200 < 10 ^ 9

-- what a text is read as that makes a table, from its first character to its last
abbrev pub read_whole : List ℕ → Compiled
read_whole text =
    record { command = CreateTable; returning = None; names = []; formats = []; start = 0; end = length text; tail = length text }

-- the text makes this table, and of a schema one with it behind its tables
pub record IsText (before after : Schema) (text : List ℕ) (table : Table) : Type 0 where
  pub is_read : understood before text ≡ Ok (read_whole text)
  pub makeable : IsMakeable before text (record table { tree = 0 })
  pub makes : created before (record table { tree = 0 }) ≡ after
  pub uncounted : lacks_sequence after ≡ false
  pub placed : next_tree before ≡ table.tree
  pub last : before.tables ++ table ∷ [] ≡ after.tables
