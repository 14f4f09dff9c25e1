-- What the statements that leave a schema behind do in a transaction.
use Rattle.std.proofs.Common.{◌≡◌, ◌≤◌, false, inl, ℕ, ℤ, List, [], ◌∷◌, drop, length, map, slice_get, IsTrue, Some, None, Ok, Option, refl, sym, ap, subst, ◌∙◌, arith}
use Rattle.std.proofs.lemmas.List.{length-map}
use Rattle.std.proofs.lemmas.List.Sorted.{length_permutation}
use Rattle.std.specs.List.Sorted.{IsPermutation}
use Rattle.sqlite.specs.Command.TheVariants.{Delete, Update}
use Rattle.sqlite.specs.Does.{Does, Tally}
use Rattle.sqlite.specs.Effect.{Database, IsDatabase}
use Rattle.sqlite.specs.Listing.{understood}
use Rattle.sqlite.specs.Rows.{Deletes, Task, Written}
use Rattle.sqlite.specs.State.{ExecutesInside, HasCleanDisk, IsUnchanged, KeepsCommit, State, mode_of}
use Rattle.sqlite.specs.Table.{Table}
use Rattle.sqlite.specs.declared.run.Mode.{Mode}
use Rattle.sqlite.specs.declared.types.Value.TheVariants.{Int}
use Rattle.sqlite.proofs.Callers.{IsPlain, command_of, one_permutation, one_step, runs_as, statement_of}
use Rattle.sqlite.proofs.InsideLemmas.{inside_keeps, keeps_then}
use Rattle.sqlite_catalog.specs.Listing.{IsSound}
use Rattle.sqlite_rules.specs.Action.{works}
use Rattle.sqlite_rules.specs.Calls.{ids_of}
use Rattle.sqlite_rules.specs.Cast.{cast_row}
use Rattle.sqlite_rules.specs.Edit.{Edit, edit_of, id_in, taken_by}
use Rattle.sqlite_rules.specs.declared.error.Rowids.TheVariants.{Given}
use Rattle.sqlite_schema.specs.declared.program.Program.{Program}
use Rattle.sqlite_schema.specs.declared.schema.Keys.{Keys}
use Rattle.sqlite_schema.specs.declared.schema.Keys.TheVariants.{Enforced}
use Rattle.sqlite_schema.specs.declared.schema.Schema.{Schema}
use Rattle.sqlite_sql.specs.Term.{eval_all}
use Rattle.sqlite_trees.specs.Tree.{Trees}
use Rattle.sqlite_trees.specs.View.{doubt}
use Rattle.sqlite_value.specs.Order.{Row, column}
use Rattle.mds_world.specs.Lists.{Member}
use Rattle.mds_tables.specs.RowFacts.{int_at}
use Rattle.mds_tables.specs.Stores.{SelectsAll, versions_said}
use Rattle.mds_tables.specs.Tables.{More, detail_table, schema_table, schema_tree, schema_version, schema_with, version_table}
use Rattle.mds_tables.proofs.InsertLemmas.{cast_int, same_value, simple, went}
use Rattle.mds_tables.specs.Writing.{KeepsOthers}
use Rattle.mds_tables.proofs.SelectLemmas.{picks}
use Rattle.mds_tables.proofs.SelectTexts.{equals}
use Rattle.mds_pack_rows.specs.PackTables.{Behind, packs_then}
use Rattle.mds_pack_rows.specs.Putting.{FindsThere, IsThere}
use Rattle.mds_pack_rows.specs.Swaps.{Swaps}
use Rattle.mds_pack_rows.proofs.PutLemmas.{is_database, others_in}
use Rattle.mds_pack_rows.proofs.UpdateLemmas.{Changes, swaps, updates}
use Rattle.mds_migrate.specs.Migrating.{Clears, Raises, RaisesRow}
use Rattle.mds_migrate.proofs.StatementTexts.{changed_terms, delete_details, delete_details_is, delete_details_plain, delete_query, delete_versions, delete_versions_is, delete_versions_plain, detail_place, rowid_columns, schema_place, update_query, update_version, update_version_is, update_version_plain, version_place}

-- every table but that of a tree is as it was, and nothing is committed
pub record Edits (tree : ℕ) (old new : State) : Type 0 where
  pub is_open : IsTrue new.is_open
  pub schema : new.now.schema ≡ old.now.schema
  pub others : KeepsOthers tree old.now.trees new.now.trees old.now.schema.tables
  pub committed : new.committed ≡ old.committed
  pub sound : IsSound new.now.schema new.now.trees

-- the schema over which a connection is there
abbrev under : Behind → Schema
under rest = schema_with (packs_then rest.more)

-- ---- rows that are taken away

module _ (limit : Option ℕ) (keys : Keys) (schema : Schema) (t : Table) (params : Row) (db : Trees) (q : Program)
    (quiet : (olds news : List Row) → works schema keys 0 t.tree olds news ≡ []) where
  abbrev task : Task
  task = record { limit = limit; keys = keys; schema = schema; table = simple t; params = params }

  abbrev edit_for : List Row → Edit
  edit_for rows = edit_of db (simple t) (ids_of rows) Given 0 []

  taken : (w : Written) → Deletes task q db (Ok w) → KeepsOthers t.tree db w.trees schema.tables
  taken w h =
      let given = went h in
      let edited = went given.2 in
      let edit = edit_for given.0 in
      let is : record { trees = edited.0; rows = taken_by db edit; last = None } ≡ w = same_value (sym edited.2) in
      let it = one_step schema keys db edited.0 edit (quiet (taken_by db edit) edit.news) edited.1 in
      subst (λ (w : Written). KeepsOthers t.tree db w.trees schema.tables) is it.tables

  deletes : (mode : Mode) (text : List ℕ) (at : ℕ) (tally : Tally) (after : Database) → mode.keys ≡ keys → slice_get schema.tables at ≡ Some (simple t)
      → Does limit mode params (record { schema = schema; trees = db }) text None (Delete at q) (Ok (tally, after))
      → (after.schema ≡ schema) × KeepsOthers t.tree db after.trees schema.tables
  deletes mode text at tally after by placed does =
      let done = went (rw (placed, by) at does) in
      let end = same_value (went (went done.2).2).2 in
      let now = ap (λ (p : Tally × Database). p.1) end in
      (ap (λ (d : Database). d.schema) now, rw now (taken done.0 done.1))

-- the text of a statement that takes away all rows of a table, which stands at this place
pub record TakesAll (t : Table) (text : List ℕ) (place : ℕ) : Type 0 where
  pub is : (rest : More) → command_of (understood (schema_with (packs_then rest)) text)
      ≡ Delete place (record { lets = []; body = delete_query t.tree })
  pub plain : (rest : More) → IsPlain (understood (schema_with (packs_then rest)) text)
  pub placed : (rest : More) → slice_get (schema_with (packs_then rest)).tables place ≡ Some (simple t)

pub takes_versions : TakesAll version_table delete_versions version_place
takes_versions = record { is = delete_versions_is; plain = delete_versions_plain; placed = λ rest. refl }

pub takes_details : TakesAll detail_table delete_details detail_place
takes_details = record { is = delete_details_is; plain = delete_details_plain; placed = λ rest. refl }

module _ (t : Table) (text : List ℕ) (place : ℕ) (all : TakesAll t text place) where
  deleted : (rest : Behind) (count : ℕ) (old new : State) → old.now.schema ≡ under rest → ExecutesInside 0 text [] old new (Ok count)
      → Edits t.tree old new
  deleted rest count old new has ran =
      let program : Program = record { lets = []; body = delete_query t.tree } in
      let w = runs_as text [] old new (under rest) has _ (all.is rest.more) (all.plain rest.more) count ran.0 in
      let stated = statement_of text (understood (under rest) text) in
      let does = subst (λ s. Does old.step_limit (mode_of old) [] (record old.now { schema = s }) stated None
      (Delete place program) (Ok (w.tally, new.now))) has w.changed in
      let it = deletes old.step_limit Enforced (under rest) t [] old.now.trees program (rest.idle t.tree)
      (mode_of old) stated place w.tally new.now refl (all.placed rest.more) does in
      record {
        is_open = ran.1.is_open;
        schema = it.0 ∙ sym has;
        others = others_in t.tree (under rest) old new has it.1;
        committed = ran.1.committed_is;
        sound = w.sound;
      }

-- a table of which no row is shown has none
none_shown : (places : List ℕ) (rows : List Row) → IsPermutation (map (λ row. map (column row) places) rows) [] → rows ≡ []
none_shown places [] same = refl
none_shown places (r ∷ rs) same = absurd (let n = length_permutation _ _ same in omega (arith, n))

module _ (t : Table) (text : List ℕ) (place : ℕ) (all : TakesAll t text place) (a b c : State) (later : doubt b.is_clean ≤ doubt c.is_clean)
    (count : ℕ) (runs : HasCleanDisk b → ExecutesInside 0 text [] a b (Ok count)) where
  -- the rows were deleted, and then asked for
  edits : IsThere a c → Edits t.tree a b
  edits there = deleted t text place all there.rest count a b there.schema (runs (omega (arith, there.clean, later)))

  pub clears : (places : List ℕ) (rows : List Row) → length rows ≡ 0 → (HasCleanDisk c → FindsThere b c (λ trees. SelectsAll t.tree places trees rows))
      → IsThere a c → Clears t.tree a c
  clears places rows none finds there =
      let it = edits there in
      let found = finds there.clean in
      let has : b.now.schema ≡ under there.rest = it.schema ∙ there.schema in
      let same = found.same there.rest.more has in
      let now : c.now ≡ b.now = same.0.now_is in
      let empty : b.now.trees t.tree ≡ [] =
      none_shown places (b.now.trees t.tree) (subst (IsPermutation _) (no_rows rows none) (found.shows there.rest.more has it.sound)) in
      record {
        is_open = same.0.is_open;
        schema = ap (λ (d : Database). d.schema) now ∙ it.schema;
        none = ap (λ (d : Database). d.trees t.tree) now ∙ empty;
        others = subst (λ (d : Database). KeepsOthers t.tree a.now.trees d.trees a.now.schema.tables) (sym now) it.others;
        committed = same.0.committed_is ∙ it.committed;
        sound = subst IsDatabase (sym now) it.sound;
      }
    where
      no_rows : (rows : List Row) → length rows ≡ 0 → rows ≡ []
      no_rows [] none = refl
      no_rows (r ∷ rs) none = absurd (omega (arith, none))

  -- a query behind them keeps the commit
  pub cleared_kept : (HasCleanDisk c → (rest : More) → b.now.schema ≡ schema_with (packs_then rest) → KeepsCommit b c) → IsThere a c → KeepsCommit a c
  cleared_kept next there =
      let first = inside_keeps a b 0 false text [] (Ok count) (runs (omega (arith, there.clean, later))) in
      keeps_then a b c first (next there.clean there.rest.more ((edits there).schema ∙ there.schema))

-- ---- the number of the schema

-- the row that came, where none else is left
says : (number : ℤ) (rest rows : List Row) → length rest ≡ 0 → IsPermutation ((Int number ∷ []) ∷ rest) (map (drop 1) rows)
    → map (λ row. int_at row schema_version) rows ≡ number ∷ []
says number [] rows none same = said rows (one_permutation (Int number ∷ []) (map (drop 1) rows) same)
  where
    said : (rows : List Row) → map (drop 1) rows ≡ (Int number ∷ []) ∷ [] → map (λ row. int_at row schema_version) rows ≡ number ∷ []
    said [] e = absurd cc
    said ([] ∷ []) e = absurd cc
    said ((x ∷ xs) ∷ []) e =
        let is : xs ≡ Int number ∷ [] = cc in ap (λ cells. int_at (x ∷ cells) schema_version ∷ []) is
    said (r ∷ s ∷ more) e = absurd cc
says number (r ∷ rs) rows none same = absurd (omega (arith, none))

module _ (id number : ℤ) (old new : State) where
  abbrev params : Row
  params = Int id ∷ Int number ∷ []

  abbrev program : Program
  program = record { lets = []; body = update_query }

  abbrev Counts : Behind → ℕ → Type 0
  Counts rest count = Changes old.step_limit Enforced (under rest) schema_table params old.now.trees program (rest.idle schema_tree) new.now.trees count

  changed : (rest : Behind) → old.now.schema ≡ under rest → ExecutesInside 0 update_version params old new (Ok 1) → Edits schema_tree old new × Counts rest 1
  changed rest has ran =
      let w = runs_as update_version params old new (under rest) has _ (update_version_is rest.more) (update_version_plain rest.more) 1 ran.0 in
      let stated = statement_of update_version (understood (under rest) update_version) in
      let does = subst (λ s. Does old.step_limit (mode_of old) params (record old.now { schema = s }) stated None
      (Update schema_place program) (Ok (w.tally, new.now))) has w.changed in
      let it = updates old.step_limit Enforced (under rest) schema_table params old.now.trees program (rest.idle schema_tree)
      (mode_of old) stated schema_place w.tally new.now refl refl does in (
        record {
          is_open = ran.1.is_open;
          schema = it.0 ∙ sym has;
          others = others_in schema_tree (under rest) old new has it.1.applies.tables;
          committed = ran.1.committed_is;
          sound = w.sound;
        },
        subst (Counts rest) (sym w.counted) it.1,
      )

  swapped : (rest : Behind) (row : Row) → Counts rest 1 → Member row (old.now.trees schema_tree) → column row 0 ≡ Int id
      → Swaps schema_tree (drop 1 row) (Int number ∷ []) old.now.trees new.now.trees
  swapped rest row c there has =
      let kept : cast_row (simple schema_table) (drop 1 (eval_all changed_terms (params ∷ row ∷ []))) ≡ Int id ∷ Int number ∷ [] =
      (λ i. cast_row (simple schema_table) (has i ∷ Int number ∷ [])) ∙ (λ i. cast_int id i ∷ cast_int number i ∷ []) in
      swaps Enforced (under rest) schema_table id (Int number ∷ []) old.now.trees new.now.trees changed_terms (Int number ∷ [])
      c.rows row there has (sym c.counted)
      (picks schema_tree (equals 0 0 ∷ []) changed_terms [] old.now.trees params c.rows refl c.shown.answer)
      (ap id_in has) kept c.applies

  raised : (rest : Behind) (row : Row) → old.now.trees schema_tree ≡ row ∷ [] → column row 0 ≡ Int id → Counts rest 1
      → versions_said new.now.trees ≡ number ∷ []
  raised rest row alone has c =
      let swap = swapped rest row c (subst (Member row) (sym alone) (inl refl)) has in
      let many : length (drop 1 row ∷ swap.rest) ≡ 1 =
      sym (length_permutation _ _ swap.was) ∙ length-map (old.now.trees schema_tree) (drop 1) ∙ ap length alone in
      says number swap.rest (new.now.trees schema_tree) (omega (arith, many)) swap.is

  pub raises_row : (shown : Row) → column shown 0 ≡ Int id → (HasCleanDisk new → ExecutesInside 0 update_version params old new (Ok 1))
      → IsThere old new → RaisesRow number old new shown
  raises_row shown has runs there row alone same =
      let it = changed there.rest there.schema (runs there.clean) in
      record {
        is_open = it.0.is_open;
        schema = it.0.schema;
        version = raised there.rest row alone (sym same ∙ has) it.1;
        others = it.0.others;
        committed = it.0.committed;
        sound = it.0.sound;
      }

-- the one row of a table whose rowids are shown
one_shown : (shown : Row) (rows : List Row) → IsPermutation (map (λ row. map (column row) rowid_columns) rows) (shown ∷ [])
    → (row : Row) × (rows ≡ row ∷ []) × (column shown 0 ≡ column row 0)
one_shown shown [] same = absurd (let n = length_permutation _ _ same in omega (arith, n))
one_shown shown (r ∷ []) same =
    let is : shown ∷ [] ≡ (column r 0 ∷ []) ∷ [] = one_permutation _ _ same in
    let it : shown ≡ column r 0 ∷ [] = cc in
    (r, refl, ap (λ s. column s 0) it)
one_shown shown (r ∷ s ∷ more) same = absurd (let n = length_permutation _ _ same in omega (arith, n))

-- the rowids are asked for, and then the number is replaced
module _ (number : ℤ) (a b c : State) (later : doubt b.is_clean ≤ doubt c.is_clean)
    (same : HasCleanDisk b → (rest : More) → a.now.schema ≡ schema_with (packs_then rest) → IsUnchanged a b) where
  same_there : IsThere a c → IsUnchanged a b
  same_there there = same (omega (arith, there.clean, later)) there.rest.more there.schema

  there_now : IsThere a c → IsThere b c
  there_now there =
      let it = same_there there in
      let now : b.now ≡ a.now = it.0.now_is in
      record {
        clean = there.clean;
        is_open = it.0.is_open;
        rest = there.rest;
        schema = ap (λ (d : Database). d.schema) now ∙ there.schema;
        sound = subst (λ (d : Database). IsSound (under there.rest) d.trees) (sym now) there.sound;
      }

  pub raises : (rows : List Row) (shown : Row) → rows ≡ shown ∷ []
      → (HasCleanDisk b → FindsThere a b (λ trees. SelectsAll schema_tree rowid_columns trees rows))
      → (IsThere b c → RaisesRow number b c shown) → IsThere a c → Raises number a c
  raises rows shown alone finds raise there =
      let unchanged = same_there there in
      let now : b.now ≡ a.now = unchanged.0.now_is in
      let sel = (finds (omega (arith, there.clean, later))).shows there.rest.more there.schema (is_database a c there) in
      let one = one_shown shown (a.now.trees schema_tree) (subst (IsPermutation _) alone sel) in
      let it = raise (there_now there) one.0 (ap (λ (d : Database). d.trees schema_tree) now ∙ one.1) one.2 in
      record {
        is_open = it.is_open;
        schema = it.schema ∙ ap (λ (d : Database). d.schema) now;
        version = it.version;
        others = subst (λ (d : Database). KeepsOthers schema_tree d.trees c.now.trees d.schema.tables) now it.others;
        committed = it.committed ∙ unchanged.0.committed_is;
        sound = it.sound;
      }
