-- A table as data (profile): what the code that puts its rows has to know of it.
use Rattle.std.specs.Prelude.{◌≡◌, ◌≤◌, ℕ, ℤ, false, zero, suc, ◌+◌, ◌*◌, List, ◌∷◌, [], ◌++◌, length, map, slice_get, Ok, Err, Result, Some}
use Rattle.std.specs.List.{range_with_len}
use Rattle.sqlite.specs.Command.TheVariants.{Insert}
use Rattle.sqlite.specs.Kind.TheVariants.{Integer}
use Rattle.sqlite.specs.Listing.{understood}
use Rattle.sqlite.specs.Source.TheVariants.{Values}
use Rattle.sqlite.specs.Table.{Table}
use Rattle.sqlite.specs.Term.{Term, col, lit}
use Rattle.sqlite.specs.declared.types.Value.{Value}
use Rattle.sqlite.specs.declared.types.Value.TheVariants.{Null, Int}
use Rattle.sqlite.proofs.Callers.{IsPlain, command_of}
use Rattle.sqlite_resolve.specs.declared.compiled.Compiled.{Compiled}
use Rattle.sqlite_resolve.specs.declared.error.CompileError.{CompileError}
use Rattle.sqlite_rules.specs.Cast.{cast, cast_all}
use Rattle.sqlite_sql.specs.Ops.{unary}
use Rattle.sqlite_value.specs.Order.{Row}
use Rattle.mds_world.specs.Facts.{Fact}
use Rattle.mds_tables.specs.Layouts.{either}
use Rattle.mds_tables.specs.Tables.{More, schema_with}
use Rattle.mds_tables.specs.Parts.{Part, together}

-- How things of one kind are kept in a table. It has a place in the schema, and other tables may follow it (`behind`). Each thing
-- has a row of so many columns, without a rowid, and a fact. One text puts one row, and another puts several.
pub record Tabling (A : Type 0) : Type 0 where
  pub place : ℕ
  pub table : Table
  pub behind : More → More
  pub cells : A → Row
  pub fact : A → Fact
  pub read : Row → Fact
  pub width : ℕ
  pub one : List ℕ
  pub many : List ℕ

abbrev pub part_in : {A : Type 0} → Tabling A → Part A
part_in t = record { place = t.place; tree = t.table.tree; cells = t.cells; fact = t.fact; read = t.read }

-- the terms of so many rows of a width; their cells are the parameters, counted from this one on
abbrev pub terms_of : ℕ → ℕ → ℕ → List Term
terms_of from width zero = []
terms_of from width (suc n) = (lit Null ∷ map (col 0) (range_with_len from width)) ++ terms_of (from + width) width n

-- a table that counts no rowids and reads no time
abbrev pub simple : Table → Table
simple t = record t { is_counted = false; stamps = record { places = []; terms = []; formats = [] } }

-- an integer stays as it is in a column of integers
pub cast_int : (n : ℤ) → cast Integer (Int n) ≡ Int n
unfolding unary
cast_int n = either _ (Int n)

-- a text that is one statement, with so many parameters, which doesn't read the time
abbrev pub IsWhole : List ℕ → ℕ → Result Compiled CompileError → Type 0
IsWhole sql count (Ok c) = (length sql ≤ c.tail) × (length c.names ≡ count) × (c.formats ≡ [])
IsWhole sql count (Err e) = ⊥

-- a text that puts so many rows of a width into a table
pub record IsInsert (more : More) (place width count : ℕ) (text : List ℕ) : Type 0 where
  pub is : command_of (understood (schema_with more) text) ≡ Insert place (Values (terms_of 0 width count) (suc width))
  pub plain : IsPlain (understood (schema_with more) text)
  pub whole : IsWhole text (count * width) (understood (schema_with more) text)

-- What is said of a table is so, whatever tables follow.
pub record IsTabled {A : Type 0} (t : Tabling A) (rest : More) : Type 0 where
  pub placed : slice_get (schema_with (t.behind rest)).tables t.place ≡ Some (simple t.table)
  pub wide : (x : A) → length (t.cells x) ≡ t.width
  pub fits : (x : A) → cast_all t.table.columns (t.cells x) ≡ t.cells x
  pub says : (x : A) (id : Value) → t.read (id ∷ t.cells x) ≡ t.fact x
  pub one : IsInsert (t.behind rest) t.place t.width 1 t.one
  pub many : IsInsert (t.behind rest) t.place t.width together t.many
