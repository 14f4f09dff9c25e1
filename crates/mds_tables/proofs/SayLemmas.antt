-- What adding the row of mds_schema to tables without rows leaves.
use Rattle.std.proofs.Common.{◌≡◌, ◌≢◌, ◌≤◌, ◌++◌, ℕ, pos, List, [], ◌∷◌, drop, map, None, Ok, refl, ap, subst, ◌∙◌, arith}
use Rattle.std.specs.FinSet as set
use Rattle.std.specs.List.{AllByRecursion}
use Rattle.sqlite.specs.Command.TheVariants.{Insert}
use Rattle.sqlite.specs.Does.{Does}
use Rattle.sqlite.specs.Effect.{Database}
use Rattle.sqlite.specs.Listing.{understood}
use Rattle.sqlite.specs.Order.{Row}
use Rattle.sqlite.specs.Schema.{Schema}
use Rattle.sqlite.specs.Source.TheVariants.{Values}
use Rattle.sqlite.specs.State.{Executes, ExecutesInside, HasCleanDisk, State, mode_of}
use Rattle.sqlite.specs.Table.{Table}
use Rattle.sqlite.specs.Tree.{Trees, put_row}
use Rattle.sqlite.specs.declared.types.Value.TheVariants.{Int}
use Rattle.sqlite.proofs.Callers.{runs_as, statement_of}
use Rattle.sqlite_catalog.specs.Listing.{IsSound}
use Rattle.sqlite_schema.specs.declared.schema.Keys.TheVariants.{Enforced}
use Rattle.mds_tables.specs.Making.{KeepsNothingOf, SaysVersionOf}
use Rattle.mds_tables.specs.Layouts.{Layout, world_with}
use Rattle.mds_tables.specs.RowFacts.{event_fact, holiday_fact, int_at, job_fact, period_fact}
use Rattle.mds_tables.specs.Tables.{schema_table, schema_with, tables_with, trees_taken}
use Rattle.mds_tables.proofs.InsertLemmas.{Adds, adds, cast_int, stored}
use Rattle.mds_tables.proofs.OpenTexts.{insert_schema, insert_schema_is, insert_schema_plain, schema_terms}

-- tables without rows, whose trees are others than that of mds_schema, still have none
none_yet : (old new : Trees) (tables : List Table) → AllByRecursion (λ (t : Table). t.tree ≢ 0) tables
    → AllByRecursion (λ (t : Table). t.tree ≢ 0 → new t.tree ≡ old t.tree) tables → AllByRecursion (λ (t : Table). old t.tree ≡ []) tables
    → AllByRecursion (λ (t : Table). new t.tree ≡ []) tables
none_yet old new [] apart same none = tt
none_yet old new (t ∷ tables) apart same none = (same.0 apart.0 ∙ none.0, none_yet old new tables apart.1 same.1 none.1)

tables_apart : (tables : List Table) → AllByRecursion (λ (t : Table). trees_taken ≤ t.tree) tables
    → AllByRecursion (λ (t : Table). t.tree ≢ 0) tables
tables_apart [] behind = tt
tables_apart (t ∷ tables) behind = ((λ e. omega (arith, behind.0, e)), tables_apart tables behind.1)

module _ (layout : Layout) where
  abbrev schema : Schema
  schema = schema_with layout.more

  abbrev others : List Table
  others = drop 1 (tables_with layout.more)

  -- the number of the layout
  abbrev pub cells : Row
  cells = Int (pos layout.number) ∷ []

  pub all_apart : AllByRecursion (λ (t : Table). t.tree ≢ 0) others
  all_apart = (
    λ e. omega arith,
    (
      λ e. omega arith,
      (
        λ e. omega arith,
        (λ e. omega arith, (λ e. omega arith, (λ e. omega arith, (λ e. omega arith, tables_apart layout.more.tables layout.behind)))),
      ),
    ),
  )

  -- tables without rows name no fact
  names_none : (trees : Trees) → AllByRecursion (λ (t : Table). trees t.tree ≡ []) others → world_with layout trees ≡ set.empty
  names_none trees none =
      let heads = layout.no_heads trees none.0 none.1.1.1.1.1.1.1 in
      let own = layout.silent trees none.1.0 none.1.1.1.1.1.1.1 in
      λ i. set.from_list
      (heads i ++ own i ++ map event_fact (none.1.1.1.0 i) ++ map period_fact (none.1.1.1.1.0 i)
      ++ map holiday_fact (none.1.1.1.1.1.0 i) ++ map job_fact (none.1.1.1.1.1.1.0 i))

  -- the rows that it puts, and that the database is sound
  added : (old new : State) (count : ℕ) → old.now.schema ≡ schema → Executes insert_schema cells old new (Ok count)
      → (new.now.schema ≡ schema) × Adds schema old.now.trees new.now.trees schema_table cells × IsSound schema new.now.trees
  added old new count has ran =
      let db = old.now.trees in
      let w = runs_as insert_schema cells old new schema has _ (insert_schema_is layout.more) (insert_schema_plain layout.more) count ran in
      let text = statement_of insert_schema (understood schema insert_schema) in
      let does = subst (λ s. Does old.step_limit (mode_of old) cells (record old.now { schema = s }) text None (Insert 0 (Values schema_terms 2)) (Ok (w.tally, new.now))) has w.changed in
      let it = adds old.step_limit Enforced schema schema_table cells db cells schema_terms 2 refl (rw (cast_int (pos layout.number))) (layout.idle 0 []) (mode_of old) text 0 w.tally new.now refl refl does in
      (it.0, it.1, subst (λ s. IsSound s new.now.trees) it.0 w.sound)

  -- no other table has a row
  pub bare : (old new : Trees) → Adds schema old new schema_table cells → AllByRecursion (λ (t : Table). old t.tree ≡ []) (tables_with layout.more)
      → AllByRecursion (λ (t : Table). new t.tree ≡ []) others
  bare old new a none = none_yet old new others all_apart a.others.1 none.1

  says_it : (old : Trees) (new : Database) → new.schema ≡ schema → Adds schema old new.trees schema_table cells
      → AllByRecursion (λ (t : Table). old t.tree ≡ []) (tables_with layout.more) → KeepsNothingOf layout new
  says_it old new has a none =
      let left = bare old new.trees a none in
      record {
        store = record {
          schema = has;
          version = ap (map (λ row. int_at row 1)) (a.rows ∙ ap (λ rows. put_row (stored rows cells) rows) none.0);
        };
        bare = left;
        world = names_none new.trees left;
      }

  pub says_version : (old new : State) (count : ℕ) → (HasCleanDisk new → ExecutesInside 0 insert_schema cells old new (Ok count))
      → SaysVersionOf layout old new
  says_version old new count runs = record {
    was_open = λ clean _. (runs clean).1.was_open;
    is_open = λ clean _. (runs clean).1.is_open;
    inside = λ clean _. (runs clean).1.mode;
    said = λ clean _ has none.
        let it = added old new count has (runs clean).0 in
        says_it old.now.trees new.now it.0 it.1 none;
    sound = λ clean _ has. (added old new count has (runs clean).0).2;
  }
