-- That nothing but the limit of steps is against the row of mds_schema, where no table has a row, in any layout.
use Rattle.std.proofs.Common.{◌≡◌, ◌≢◌, ◌≤◌, ◌==◌, ◌&&◌, ◌||◌, if◌then◌else◌, inl, inr, ℕ, zero, suc, pos, List, [], ◌∷◌, drop, length, cond, Bool, not, true, false, None, Some, Option, Ok, Err, IsSome, All, refl, sym, ap, subst, ◌∙◌, arith}
use Rattle.std.proofs.lemmas.Nat.Bits.{bit_at-zero}
use Rattle.std.specs.Float.{NotNan}
use Rattle.std.proofs.lemmas.Bool.{ne_eqb}
use Rattle.std.specs.List.{AllByRecursion, list_all}
use Rattle.sqlite.specs.Command.TheVariants.{Insert}
use Rattle.sqlite.specs.Does.{Does}
use Rattle.sqlite.specs.Listing.{understood}
use Rattle.sqlite.specs.Order.{Row}
use Rattle.sqlite.specs.Schema.{Schema}
use Rattle.sqlite.specs.Rows.{Edited, Inserts, Outcome, Sourced, Task, Written, stamped}
use Rattle.sqlite.specs.Source.{Source}
use Rattle.sqlite.specs.declared.run.Mode.{Mode}
use Rattle.sqlite.specs.Source.TheVariants.{Values}
use Rattle.sqlite.specs.State.{ExecutesInside, State}
use Rattle.sqlite.specs.Table.{Table}
use Rattle.sqlite.specs.Tree.{Trees, put_row, with_tree}
use Rattle.sqlite.specs.declared.error.Error.{Error}
use Rattle.sqlite.specs.declared.error.Error.TheVariants.{SqliteFailure}
use Rattle.sqlite.specs.declared.error.ErrorCode.TheVariants.{OperationInterrupted}
use Rattle.sqlite.specs.declared.types.Value.TheVariants.{Int, Null}
use Rattle.sqlite.proofs.Callers.{statement_of}
use Rattle.sqlite_rules.specs.Action.{Leads, Writes}
use Rattle.sqlite_rules.specs.Edit.{Edit, IsOversized, IsRefused, edit_of, numbered}
use Rattle.sqlite_rules.specs.Cast.{cast_row}
use Rattle.sqlite_rules.specs.declared.error.Refusal.{Refusal}
use Rattle.sqlite_rules.specs.declared.error.Refusal.TheVariants.{BadReference, Mismatch, NoRowid, TooDeep, Violates}
use Rattle.sqlite_rules.specs.declared.error.Rowids.TheVariants.{Chosen}
use Rattle.sqlite_rules.specs.Lists.{Has}
use Rattle.sqlite_schema.specs.Rules.{Keeps, Refers, clashes, guards, passes}
use Rattle.sqlite_schema.specs.declared.schema.Among.TheVariants.{All as Whatever}
use Rattle.sqlite_schema.specs.declared.schema.Constraint.TheVariants.{Check, Datatype, ForeignKey, NotNull, PrimaryKey, Unique}
use Rattle.sqlite_schema.specs.declared.schema.Index.{Index}
use Rattle.sqlite_schema.specs.declared.schema.Keys.TheVariants.{Enforced}
use Rattle.sqlite_sql.specs.Ops.{binary}
use Rattle.sqlite_trees.specs.View.{IsStorable}
use Rattle.sqlite_value.specs.Keys.{first_key}
use Rattle.sqlite_value.specs.Order.{number, value_cmp}
use Rattle.mds_tables.specs.Causes.{HasFailed}
use Rattle.mds_tables.specs.Making.{AreEmpty}
use Rattle.mds_tables.specs.Layouts.{Layout}
use Rattle.mds_tables.specs.Tables.{indexes_with, schema_table, schema_with, tables_with, trees_taken}
use Rattle.mds_tables.proofs.CauseLemmas.{IsWhole, fails_until, stopped_as}
use Rattle.mds_tables.proofs.CreateLemmas.{all_of}
use Rattle.mds_tables.proofs.InsertLemmas.{cast_int, cast_null, written}
use Rattle.mds_tables.proofs.SayLemmas.{all_apart, bare, cells}
use Rattle.std.proofs.lemmas.List.{length-append}
use Rattle.std.proofs.lemmas.Option.{same_Some}
use Rattle.sqlite_tied.specs.Compute.{everything}
use Rattle.mds_tables.proofs.OpenTexts.{insert_schema, insert_schema_is, insert_schema_plain, schema_terms}

-- what is said of all rows of a table without rows
of_none : (P : Row → Type 0) (rows : List Row) → rows ≡ [] → AllByRecursion P rows
of_none P rows is = subst (AllByRecursion P) (sym is) tt

-- and of all tables without rows
all_of_none : (P : Table → Row → Type 0) (db : Trees) (tables : List Table) → AllByRecursion (λ (t : Table). db t.tree ≡ []) tables
    → AllByRecursion (λ (t : Table). AllByRecursion (P t) (db t.tree)) tables
all_of_none P db [] none = tt
all_of_none P db (t ∷ tables) none = (of_none (P t) (db t.tree) none.0, all_of_none P db tables none.1)

-- other trees than that of mds_schema have the rows that they had
set_apart : (tree : ℕ) (es rows : List Row) → tree ≢ 0 → (if tree == 0 then es else rows) ≡ rows
set_apart tree es rows other = ap (λ b. cond b es rows) (ne_eqb tree 0 other)

none_set : (db : Trees) (rows : List Row) (tables : List Table) → AllByRecursion (λ (t : Table). t.tree ≢ 0) tables
    → AllByRecursion (λ (t : Table). db t.tree ≡ []) tables → AllByRecursion (λ (t : Table). with_tree db 0 rows t.tree ≡ []) tables
none_set db rows [] apart none = tt
none_set db rows (t ∷ tables) apart none =
    (set_apart t.tree rows (db t.tree) apart.0 ∙ none.0, none_set db rows tables apart.1 none.1)

no_guard : (unique same clash : Bool) → same ≡ false → not ((unique && same) && clash) ≡ true
no_guard true true clash is = absurd cc
no_guard true false clash is = refl
no_guard false same clash is = refl

-- a row that is alone clashes with none
no_clash : (agree : Bool) → not ((agree && false) || false) ≡ true
no_clash true = refl
no_clash false = refl

indexes_apart_from : (indexes : List Index) → AllByRecursion (λ (i : Index). trees_taken ≤ i.table) indexes
    → AllByRecursion (λ (i : Index). i.table ≢ 0) indexes
indexes_apart_from [] behind = tt
indexes_apart_from (i ∷ indexes) behind = ((λ e. omega (arith, behind.0, e)), indexes_apart_from indexes behind.1)

-- no index of another table guards mds_schema
guards_no_other : (test : Index → Bool) (indexes : List Index) → AllByRecursion (λ (i : Index). i.table ≢ 0) indexes
    → list_all (λ i. not (guards i schema_table && test i)) indexes ≡ true
guards_no_other test [] apart = refl
guards_no_other test (i ∷ indexes) apart =
    let here = no_guard i.is_unique (i.table == 0) (test i) (ne_eqb i.table 0 apart.0) in
    let later = guards_no_other test indexes apart.1 in
    λ j. here j && later j

-- no row of a table that refers to nothing lacks its parent
at_home : (rows : List Row) → AllByRecursion (λ (row : Row). true ≡ true) rows
at_home [] = tt
at_home (row ∷ rows) = (refl, at_home rows)

same_stop : {A : Type 0} (s t : Option Error) → ◌≡◌ {A = Outcome A} (Err s) (Err t) → s ≡ t
same_stop s t is = cc

abbrev the_mode : Mode
the_mode = record { keys = Enforced; in_doubt = false; may_wait = false }

numbers : (a b : ℕ) → All (λ v. NotNan (number v)) (Int (pos a) ∷ Int (pos b) ∷ [])
unfolding lib.Ieee.is_nan
numbers a b zero d low = tt
numbers a b (suc zero) d low = tt
numbers a b (suc (suc k)) d low = absurd (omega arith)

storable : (a b : ℕ) → IsStorable 0 (Int (pos a) ∷ Int (pos b) ∷ [])
storable a b = record {
  typed = λ c bit. absurd (omega (arith, bit_at-zero c, bit));
  columns = (omega arith, omega arith);
  numbers = numbers a b;
  short = omega arith;
}

module _ (layout : Layout) where
  abbrev schema : Schema
  schema = schema_with layout.more

  abbrev the_row : Row
  the_row = Int (pos 1) ∷ cells layout

  abbrev edit : Edit
  edit = record { table = schema_table; gone = []; news = the_row ∷ [] }

  module _ (db : Trees) (none : AllByRecursion (λ (t : Table). db t.tree ≡ []) (tables_with layout.more)) where
    abbrev after : List Row → Trees
    after rows = with_tree db 0 rows

    abbrev Apart : List Row → Table → Row → Type 0
    Apart rows t row = passes Unique schema (after rows) t row ≡ true

    alone : AllByRecursion (Apart (the_row ∷ []) schema_table) (the_row ∷ [])
    unfolding binary value_cmp first_key lib.Ieee.is_nan lib.Ieee.lt
    alone =
        let here = no_clash _ in
        let later = guards_no_other (λ i. clashes i.order i.columns (the_row ∷ []) the_row) layout.more.indexes (indexes_apart_from layout.more.indexes layout.indexes_behind) in
        ((λ j. here j && later j), tt)

    apart : (rows : List Row) → rows ≡ the_row ∷ [] → Keeps Unique schema (after rows)
    apart rows is = (
      subst (λ rs. AllByRecursion (Apart rs schema_table) rs) (sym is) alone,
      all_of_none (Apart rows) (after rows) (drop 1 (tables_with layout.more))
          (none_set db rows (drop 1 (tables_with layout.more)) (all_apart layout) none.1),
    )

    not_refused : (why : Refusal) → ¬ IsRefused schema Enforced db edit why
    not_refused (Violates Datatype) h = absurd cc
    not_refused (Violates NotNull) h = absurd cc
    not_refused (Violates Check) h = absurd cc
    not_refused (Violates PrimaryKey) h = absurd (let no = rw none.0 at h in cc)
    not_refused (Violates Unique) h = h (apart _ (ap (put_row the_row) none.0))
    not_refused (Violates ForeignKey) h = h
    not_refused Mismatch h = absurd cc
    not_refused NoRowid h = absurd cc
    not_refused BadReference h = absurd cc
    not_refused TooDeep h = h

  indexes_apart : AllByRecursion (λ (i : Index). i.table ≢ 0) (drop 1 (indexes_with layout.more))
  indexes_apart = (
    λ e. omega arith,
    (
      λ e. omega arith,
      (λ e. omega arith, (λ e. omega arith, (λ e. omega arith, (λ e. omega arith, (λ e. omega arith, indexes_apart_from layout.more.indexes layout.indexes_behind))))),
    ),
  )

  not_oversized : (row : Row) → Has (the_row ∷ []) row → ¬ IsOversized schema schema_table row
  not_oversized row (inl is) big =
      elim (subst (IsOversized schema schema_table) is big) [
        | inl wide ↦ wide (storable 1 layout.number, omega arith)
        | inr index ↦ elim (index.1) [
          | inl first ↦ (rw first at (index.3)) (storable layout.number 1)
          | inr later ↦ all_of (λ (i : Index). i.table ≢ 0) (drop 1 (indexes_with layout.more)) index.0 indexes_apart later index.2
        ]
      ]
  not_oversized row (inr none) big = none

  -- ---- the statement

  module _ (limit : Option ℕ) (db : Trees) (none : AllByRecursion (λ (t : Table). db t.tree ≡ []) (tables_with layout.more)) where
    abbrev IsCut : Option Error → Type 0
    IsCut stop = (stop ≡ Some (SqliteFailure OperationInterrupted)) × IsSome limit

    abbrev the_task : Task
    the_task = record { limit = limit; keys = Enforced; schema = schema; table = schema_table; params = cells layout }

    abbrev from : Source
    from = Values schema_terms 2

    sourced : (stop : Option Error) → Sourced limit (record { schema = schema; trees = db }) (stamped schema_table (cells layout)) from (Err stop)
        → IsCut stop
    sourced None h = absurd h
    sourced (Some e) (inl wrong) = absurd (let no = wrong.1 in cc)
    sourced (Some e) (inr cut) = (ap Some cut.0, cut.1)

    led : (why : Option Refusal) (next : Trees) (n : ℕ) → ¬ Leads schema Enforced n next [] (Err why)
    led why next zero h = absurd (let no = h.1 in cc)
    led why next (suc n) h = absurd (omega (arith, ap length h.2, length-append h.0 (h.1 ∷ [])))

    refuted : (why : Option Refusal) → ¬ Writes schema Enforced db edit (Err why)
    refuted why (inl (because, refused, is)) = not_refused db none because refused
    refuted why (inr (inl (row, has, big, is))) = not_oversized row has big
    refuted why (inr (inr (next, applies, (n, leads)))) = led why next n (rw (layout.idle 0 [] (edit.news)) at leads)

    edit_is : (rows : List Row) → rows ≡ (Null ∷ cells layout) ∷ [] → edit_of db schema_table [] Chosen 0 rows ≡ edit
    edit_is rows are =
        let cast : cast_row schema_table (Null ∷ cells layout) ≡ Null ∷ cells layout = rw (cast_null, cast_int (pos layout.number)) in
        ap (edit_of db schema_table [] Chosen 0) are
        ∙ ap (λ r. record { table = schema_table; gone = []; news = numbered Chosen (db 0) (r ∷ []) }) cast
        ∙ ap (λ rs. record { table = schema_table; gone = []; news = numbered Chosen rs ((Null ∷ cells layout) ∷ []) }) none.0

    not_edited : (rows : List Row) → rows ≡ (Null ∷ cells layout) ∷ [] → (stop : Option Error)
        → ¬ Edited schema Enforced db (edit_of db schema_table [] Chosen 0 rows) (Err stop)
    not_edited rows are stop h = refuted h.0 (subst (λ e. Writes schema Enforced db e (Err h.0)) (edit_is rows are) h.1)

    inserted : (stop : Option Error) → Inserts the_task from db (Err stop) → IsCut stop
    inserted stop (inl (s, h, is)) = subst IsCut (sym (same_stop stop s is)) (sourced s h)
    inserted stop (inr (rows, source, inl (s, h, is))) = absurd cc
    inserted stop (inr (rows, source, inr (counter, counted, inl (s, h, is)))) = absurd (not_edited rows source.1 s h)
    inserted stop (inr (rows, source, inr (counter, counted, inr (mid, made, inl (s, h, is))))) = absurd cc
    inserted stop (inr (rows, source, inr (counter, counted, inr (mid, made, inr (next, counts, given))))) = absurd cc

    refers : (w : Written) → Inserts the_task from db (Ok w) → Refers Whatever schema w.trees
    refers w h =
        let it = written limit Enforced schema schema_table (cells layout) db (cells layout) schema_terms 2 refl (rw (cast_int (pos layout.number))) (layout.idle 0 []) w h in (
          at_home (w.trees 0),
          all_of_none _ w.trees (drop 1 (tables_with layout.more)) (bare layout db w.trees it none),
        )

    stopped : (text : List ℕ) (stop : Option Error)
        → Does limit the_mode (cells layout) (record { schema = schema; trees = db }) text None (Insert 0 from) (Err stop) → IsCut stop
    stopped text stop (inl (s, h, is)) = subst IsCut (sym (same_stop stop s is)) (inserted s h)
    stopped text stop (inr (w, h, inl (s, tested, is))) = absurd (tested.0 (refers w h))
    stopped text stop (inr (w, h, inr (in_doubt, tested, inl (s, shown, is)))) = absurd cc
    stopped text stop (inr (w, h, inr (in_doubt, tested, inr (rows, shown, given)))) = absurd cc

  insert_schema_whole : IsWhole insert_schema 1 (understood schema insert_schema)
  unfolding understood everything
  insert_schema_whole = (omega arith, refl, refl)

  pub says_fails : (old new : State) (e : Error) → old.now.schema ≡ schema → AreEmpty (tables_with layout.more) old.now
      → ExecutesInside 0 insert_schema (cells layout) old new (Err e) → HasFailed old new e
  says_fails old new e has none h =
      let text = statement_of insert_schema (understood schema insert_schema) in
      let because = λ (stop : Option Error) (refused : Does old.step_limit the_mode (cells layout) old.now text None (Insert 0 (Values schema_terms 2)) (Err stop)).
      stopped old.step_limit old.now.trees none text stop
      (subst (λ s. Does old.step_limit the_mode (cells layout) (record old.now { schema = s }) text None (Insert 0 (Values schema_terms 2)) (Err stop)) has refused) in
      elim (stopped_as insert_schema (cells layout) old new schema has (Insert 0 (Values schema_terms 2)) (insert_schema_is layout.more) (insert_schema_plain layout.more) insert_schema_whole tt e h) [
        | inl refused ↦ let it = because (Some e) refused in inr (same_Some _ _ it.0, it.1)
        | inr failed ↦ inl (fails_until old new new _ ⊥ (λ big. absurd (let no = (because None big).0 in cc)) (omega arith) e failed)
      ]
