-- What one row of VALUES makes of a table.
use Rattle.std.proofs.Common.{◌≡◌, ◌≢◌, ◌⊎◌, inl, inr, ℕ, ℤ, ◌/◌, List, [], ◌∷◌, ◌++◌, length, slice_get, Bool, true, false, not, ◌&&◌, Some, None, Option, Ok, Err, Result, refl, ap, subst, ◌∙◌}
use Rattle.std.specs.List.{AllByRecursion}
use Rattle.sqlite.specs.declared.types.Value.TheVariants.{Null, Int}
use Rattle.sqlite_value.specs.Order.{Row}
use Rattle.sqlite_trees.specs.Tree.{Trees, put_row}
use Rattle.sqlite_sql.specs.Term.{Term}
use Rattle.sqlite_sql.specs.Ops.{unary}
use Rattle.sqlite_schema.specs.declared.schema.Table.{Table}
use Rattle.sqlite_schema.specs.declared.schema.Schema.{Schema}
use Rattle.sqlite.specs.Source.TheVariants.{Values}
use Rattle.sqlite.specs.Command.TheVariants.{Insert}
use Rattle.sqlite.specs.Kind.TheVariants.{Integer}
use Rattle.sqlite_rules.specs.Cast.{cast, cast_all, cast_row}
use Rattle.sqlite_rules.specs.Edit.{edit_of, numbered, is_taken, next_rowid, Applies}
use Rattle.sqlite_rules.specs.declared.error.Rowids.TheVariants.{Chosen}
use Rattle.sqlite_rules.specs.Action.{works}
use Rattle.sqlite_schema.specs.declared.schema.Keys.{Keys}
use Rattle.sqlite_schema.specs.Rules.{Fits}
use Rattle.sqlite.specs.Effect.{Database, value_rows}
use Rattle.sqlite.specs.Rows.{Written, Task, Inserts}
use Rattle.sqlite.specs.Does.{Tally, Does}
use Rattle.sqlite.specs.declared.run.Mode.{Mode}
use Rattle.sqlite.proofs.Callers.{one_step}
pub use Rattle.mds_tables.specs.Layouts.{either}
pub use Rattle.mds_tables.specs.Tabling.{cast_int, simple}

pub cast_null : cast Integer Null ≡ Null
unfolding unary
cast_null = either _ Null

-- a part that gave a value did not stop on the way
pub went : {B E R : Type 0} {b : B} {Stops : E → Type 0} → ((stop : E) × Stops stop × (Ok b ≡ Err stop)) ⊎ R → R
went (inl stopped) = absurd (let e = stopped.2 in cc)
went (inr on) = on

pub same_value : {B E : Type 0} {a b : B} → ◌≡◌ {A = Result B E} (Ok a) (Ok b) → a ≡ b
same_value e = cc

-- the row as it is stored: under the next rowid
abbrev pub stored : List Row → Row → Row
stored rows values = Int (next_rowid rows) ∷ values

-- the row is put into the table, and the other tables are as they were
pub record Adds (schema : Schema) (old new : Trees) (table : Table) (values : Row) : Type 0 where
  pub fresh : is_taken (old table.tree) (stored (old table.tree) values) ≡ false
  pub rows : new table.tree ≡ put_row (stored (old table.tree) values) (old table.tree)
  pub others : AllByRecursion (λ t. t.tree ≢ table.tree → new t.tree ≡ old t.tree) schema.tables
  pub fits : Fits schema new

not_taken : (b : Bool) → (not b && true) ≡ true → b ≡ false
not_taken true h = cc
not_taken false h = refl

module _ (limit : Option ℕ) (keys : Keys) (schema : Schema) (t : Table) (params : Row) (db : Trees) (values : Row) where
  abbrev pub task : Task
  task = record { limit = limit; keys = keys; schema = schema; table = simple t; params = params }

  applied : (news : List Row) (next : Trees) → news ≡ (Null ∷ values) ∷ [] → cast_all t.columns values ≡ values
      → Applies schema keys db (edit_of db (simple t) [] Chosen 0 news) next → Adds schema db next t values
  applied news next are kept it =
      let row : cast_row (simple t) (Null ∷ values) ≡ Null ∷ values = rw (cast_null, kept) in
      let edit : edit_of db (simple t) [] Chosen 0 news ≡ record { table = simple t; gone = []; news = stored (db t.tree) values ∷ [] } =
      ap (edit_of db (simple t) [] Chosen 0) are ∙ ap (λ r. record { table = simple t; gone = []; news = numbered Chosen (db t.tree) (r ∷ []) }) row in
      let same = subst (λ e. Applies schema keys db e next) edit it in
      record { fresh = not_taken _ same.fresh; rows = same.rows; others = same.tables; fits = same.fits }

  module _ (terms : List Term) (width : ℕ) (one : value_rows (params ++ []) width (length terms / width) terms ≡ (Null ∷ values) ∷ []) (kept : cast_all t.columns values ≡ values)
      (quiet : (news : List Row) → works schema keys 0 t.tree [] news ≡ []) where
    pub written : (w : Written) → Inserts task (Values terms width) db (Ok w) → Adds schema db w.trees t values
    written w h =
        let given = went h in
        let edited = went (went given.2).2 in
        let counted = went edited.2 in
        let trees : w.trees ≡ edited.0 = ap (λ (it : Written). it.trees) (same_value counted.2) ∙ same_value counted.1 in
        let it = one_step schema keys db edited.0 (edit_of db (simple t) [] Chosen 0 given.0) (quiet _) edited.1 in
        rw trees (applied given.0 edited.0 (given.1.1 ∙ one) kept it)

    pub adds : (mode : Mode) (text : List ℕ) (at : ℕ) (tally : Tally) (after : Database) → mode.keys ≡ keys → slice_get schema.tables at ≡ Some (simple t)
        → Does limit mode params (record { schema = schema; trees = db }) text None (Insert at (Values terms width)) (Ok (tally, after))
        → (after.schema ≡ schema) × Adds schema db after.trees t values
    adds mode text at tally after by placed does =
        let done = went (rw (placed, by) at does) in
        let now = ap (λ (p : Tally × Database). p.1) (same_value (went (went done.2).2).2) in
        (ap (λ (d : Database). d.schema) now, rw now (written done.0 done.1))
