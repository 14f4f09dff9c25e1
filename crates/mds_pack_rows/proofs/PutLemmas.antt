-- Rows of mds_pack that are put and replaced in a transaction.
use Rattle.std.proofs.Common.{◌≡◌, ◌≢◌, ◌≤◌, ◌<◌, ◌+◌, inl, ℕ, ℤ, List, [], ◌∷◌, ◌++◌, drop, length, map, slice_index_or, take, true, Some, None, Ok, Err, OnOk, Result, Option, append_assoc, refl, sym, ap, subst, ◌∙◌, arith, unwrap_or}
use Rattle.std.specs.List.Sorted.{IsPermutation}
use Rattle.sqlite.specs.Command.TheVariants.{Insert, Update}
use Rattle.sqlite.specs.Does.{Does}
use Rattle.sqlite.specs.Effect.{Database, IsDatabase}
use Rattle.sqlite.specs.Listing.{understood}
use Rattle.sqlite.specs.Schema.{Schema}
use Rattle.sqlite.specs.Source.TheVariants.{Values}
use Rattle.sqlite.specs.State.{ExecutesInside, HasCleanDisk, IsUnchanged, KeepsCommit, State, mode_of}
use Rattle.sqlite.proofs.InsideLemmas.{keeps_then}
use Rattle.sqlite.specs.Table.{Table}
use Rattle.sqlite_trees.specs.View.{doubt}
use Rattle.sqlite.specs.declared.types.Value.TheVariants.{Blob, Int, Null, Text}
use Rattle.sqlite.proofs.Callers.{runs_as, statement_of}
use Rattle.sqlite_catalog.specs.Listing.{IsSound}
use Rattle.sqlite_rules.proofs.ActionLemmas.{no_works}
use Rattle.sqlite_rules.specs.Cast.{cast_all, cast_row}
use Rattle.sqlite_rules.specs.Edit.{id_in, next_rowid}
use Rattle.sqlite_schema.specs.declared.program.Program.{Program}
use Rattle.sqlite_schema.specs.declared.schema.Keys.TheVariants.{Enforced}
use Rattle.sqlite_sql.specs.Term.{eval_all}
use Rattle.sqlite_trees.specs.Tree.{Trees}
use Rattle.sqlite_value.specs.Order.{Row, bytes, column}
use Rattle.mds_names.specs.declared.stream.Stream.{Stream}
use Rattle.mds_world.specs.Lists.{Member}
use Rattle.mds_marks.specs.Reading.{ReadingValue}
use Rattle.mds_world.specs.Facts.{Fact, key_at}
use Rattle.mds_world.specs.Facts.Fact.{VersionIs}
use Rattle.mds_world.specs.World.{union}
use Rattle.std.proofs.lemmas.Grind.{flat_map-append}
use Rattle.std.proofs.lemmas.List.{append-nil, length-map, map-append, take_more}
use Rattle.mds_packs.proofs.Whole.{any_held}
use Rattle.mds_keeper.specs.Books.{row_fact}
use Rattle.mds_keeper.specs.Content.{day_versions, rows_of, version_at, version_fact, versions_of, whole_rows}
use Rattle.mds_keeper.specs.declared.additions.DayVersions.{DayVersions}
use Rattle.mds_keeper.specs.declared.day_book.Version.{Version}
use Rattle.mds_tables.specs.Cells.{number_cell}
use Rattle.mds_tables.specs.RowFacts.{natural, natural_at, text_at}
use Rattle.mds_tables.specs.Stores.{Begins, Gains, Selects}
use Rattle.mds_tables.specs.Tables.{More, schema_with}
use Rattle.mds_tables.proofs.InsertLemmas.{Adds as OneMore, adds, cast_int, simple}
use Rattle.mds_tables.specs.Writing.{KeepsOthers}
use Rattle.mds_tables.proofs.RowLemmas.{IsMore, gains_one, of}
use Rattle.mds_tables.proofs.SelectLemmas.{picks}
use Rattle.mds_tables.proofs.SelectTexts.{equals}
use Rattle.mds_tables.proofs.TypedRows.{begins_at}
use Rattle.mds_pack_rows.specs.Laying.{laid}
use Rattle.mds_pack_rows.specs.PackCells.{key_cells, pack_cells}
use Rattle.mds_pack_rows.specs.PackFacts.{body_facts, facts_from, minutes_of, pack_facts, readings_facts, readings_in}
use Rattle.mds_pack_rows.specs.PackTables.{Behind, body_columns, pack_table, pack_tree, packs_then}
use Rattle.mds_pack_rows.specs.Putting.{ChangesPacks, GoesOn, IsThere, NamesMore, PutsBeside, PutsBody, PutsFacts}
use Rattle.mds_pack_rows.specs.Swaps.{Swaps}
use Rattle.mds_pack_rows.proofs.PackTexts.{changed_terms, insert_pack, insert_pack_is, insert_pack_plain, pack_place, pack_terms, update_body, update_body_is, update_body_plain, update_query}
use Rattle.mds_pack_rows.proofs.SwapLemmas.{pack_bare}
use Rattle.mds_pack_rows.proofs.LaidLemmas.{laid_said}
use Rattle.mds_pack_rows.proofs.NameLemmas.{came_one, came_over, named_as, named_none, named_then}
use Rattle.mds_pack_rows.proofs.SpreadLemmas.{some_said}
use Rattle.mds_pack_rows.proofs.UpdateLemmas.{Changes, swaps, updates}

-- the cells are of their types
pub fits : (s : Stream) (day update : ℕ) (body : List ℕ) → cast_all pack_table.columns (pack_cells s day update body) ≡ pack_cells s day update body
fits s day update body = rw (cast_int, cast_int)

-- ---- that the transaction goes on

pub ran_on : (sql : List ℕ) (params : Row) (count : ℕ) (old new : State) → (HasCleanDisk new → ExecutesInside 0 sql params old new (Ok count)) → GoesOn old new
ran_on sql params count old new runs = record {
  was_open = λ clean _. (runs clean).1.was_open;
  is_open = λ clean _. (runs clean).1.is_open;
  inside = λ clean _. (runs clean).1.mode;
}

on_same : (s : State) → GoesOn s s
on_same s = record { was_open = λ _ o. o; is_open = λ _ o. o; inside = λ _ o. o }

pub on_then : (a b c : State) → doubt b.is_clean ≤ doubt c.is_clean → GoesOn a b → GoesOn b c → GoesOn a c
on_then a b c later p q =
    let early : HasCleanDisk c → HasCleanDisk b = λ clean. omega (arith, clean, later) in
    record {
      was_open = λ clean o. p.was_open (early clean) (q.was_open clean o);
      is_open = λ clean o. q.is_open clean (p.is_open (early clean) o);
      inside = λ clean o. q.inside clean (p.inside (early clean) o);
    }

-- ---- what a statement keeps

-- what is kept of the tables of a schema is kept of those that there were, and the other way round
module _ (tree : ℕ) (schema : Schema) (old new : State) (has : old.now.schema ≡ schema) where
  pub others_in : KeepsOthers tree old.now.trees new.now.trees schema.tables → KeepsOthers tree old.now.trees new.now.trees old.now.schema.tables
  others_in = subst (λ (s : Schema). KeepsOthers tree old.now.trees new.now.trees s.tables) (sym has)

  pub others_of : KeepsOthers tree old.now.trees new.now.trees old.now.schema.tables → KeepsOthers tree old.now.trees new.now.trees schema.tables
  others_of = subst (λ (s : Schema). KeepsOthers tree old.now.trees new.now.trees s.tables) has

-- ---- a row that is put

module _ (s : Stream) (day update : ℕ) (body : List ℕ) (count : ℕ) (old new : State) where
  abbrev cells : Row
  cells = pack_cells s day update body

  abbrev Puts : Type 0
  Puts = ChangesPacks old new × Gains pack_tree (cells ∷ []) old.now.trees new.now.trees

  puts : (rest : More) → old.now.schema ≡ schema_with (packs_then rest) → ExecutesInside 0 insert_pack cells old new (Ok count) → Puts
  puts rest has ran =
      let db = old.now.trees in
      let schema = schema_with (packs_then rest) in
      let w = runs_as insert_pack cells old new schema has _ (insert_pack_is rest) (insert_pack_plain rest) count ran.0 in
      let stated = statement_of insert_pack (understood schema insert_pack) in
      let does = subst (λ s. Does old.step_limit (mode_of old) cells (record old.now { schema = s }) stated None
      (Insert pack_place (Values pack_terms 6)) (Ok (w.tally, new.now))) has w.changed in
      let it = adds old.step_limit Enforced schema pack_table cells db cells pack_terms 6 refl (fits s day update body) (no_works schema Enforced 0 pack_tree)
      (mode_of old) stated pack_place w.tally new.now refl refl does in
      let put : OneMore schema db new.now.trees pack_table cells = it.1 in (
        record {
          is_open = ran.1.is_open;
          schema = it.0 ∙ sym has;
          others = others_in pack_tree schema old new has put.others;
          committed = ran.1.committed_is;
          sound = w.sound;
        },
        subst (λ rows. IsPermutation (map (drop 1) (db pack_tree) ++ cells ∷ []) (map (drop 1) rows)) (sym put.rows)
            (gains_one (Int (next_rowid (db pack_tree))) cells (db pack_tree) put.fresh),
      )

  pub puts_there : body_facts s day update body ≢ [] → (HasCleanDisk new → ExecutesInside 0 insert_pack cells old new (Ok count))
      → PutsFacts old new (body_facts s day update body)
  puts_there some runs = (
    ran_on insert_pack cells count old new runs,
    λ there.
        let it = puts there.rest.more there.schema (runs there.clean) in
        (it.0, came_one cells old.now.trees new.now.trees some it.1),
  )

-- ---- a body that is replaced

module _ (id : ℤ) (body : List ℕ) (old new : State) where
  abbrev params : Row
  params = Int id ∷ Blob body ∷ []

  abbrev program : Program
  program = record { lets = []; body = update_query }

  abbrev under : Behind → Schema
  under rest = schema_with (packs_then rest.more)

  abbrev Counts : Behind → ℕ → Type 0
  Counts rest count = Changes old.step_limit Enforced (under rest) pack_table params old.now.trees program (rest.idle pack_tree) new.now.trees count

  changed : (rest : Behind) → old.now.schema ≡ under rest → ExecutesInside 0 update_body params old new (Ok 1) → ChangesPacks old new × Counts rest 1
  changed rest has ran =
      let w = runs_as update_body params old new (under rest) has _ (update_body_is rest.more) (update_body_plain rest.more) 1 ran.0 in
      let stated = statement_of update_body (understood (under rest) update_body) in
      let does = subst (λ s. Does old.step_limit (mode_of old) params (record old.now { schema = s }) stated None
      (Update pack_place program) (Ok (w.tally, new.now))) has w.changed in
      let it = updates old.step_limit Enforced (under rest) pack_table params old.now.trees program (rest.idle pack_tree)
      (mode_of old) stated pack_place w.tally new.now refl refl does in (
        record {
          is_open = ran.1.is_open;
          schema = it.0 ∙ sym has;
          others = others_in pack_tree (under rest) old new has it.1.applies.tables;
          committed = ran.1.committed_is;
          sound = w.sound;
        },
        subst (Counts rest) (sym w.counted) it.1,
      )

  swapped : (rest : Behind) (s : Stream) (day update : ℕ) (row : Row) → Counts rest 1 → Member row (old.now.trees pack_tree) → column row 0 ≡ Int id
      → Begins (key_cells s day update) row → Swaps pack_tree (drop 1 row) (pack_cells s day update body) old.now.trees new.now.trees
  swapped rest s day update row c there has begins =
      let key = key_cells s day update in
      let nmi : column row 1 ≡ Text s.nmi = begins_at key row begins 0 (omega arith) in
      let suffix : column row 2 ≡ Text s.suffix = begins_at key row begins 1 (omega arith) in
      let on : column row 3 ≡ number_cell day = begins_at key row begins 2 (omega arith) in
      let at : column row 4 ≡ number_cell update = begins_at key row begins 3 (omega arith) in
      let kept : cast_row (simple pack_table) (drop 1 (eval_all changed_terms (params ∷ row ∷ []))) ≡ Int id ∷ pack_cells s day update body =
      (λ i. cast_row (simple pack_table) (has i ∷ nmi i ∷ suffix i ∷ on i ∷ at i ∷ Blob body ∷ []))
      ∙ (λ i. cast_int id i ∷ fits s day update body i) in
      swaps Enforced (under rest) pack_table id (Blob body ∷ []) old.now.trees new.now.trees changed_terms (pack_cells s day update body)
      c.rows row there has (sym c.counted)
      (picks pack_tree (equals 0 0 ∷ []) changed_terms [] old.now.trees params c.rows refl c.shown.answer)
      (ap id_in has) kept c.applies

  pub replaces_there : (HasCleanDisk new → ExecutesInside 0 update_body params old new (Ok 1)) → PutsBody old new id body
  replaces_there runs = (
    ran_on update_body params 1 old new runs,
    λ there.
        let it = changed there.rest there.schema (runs there.clean) in
        (it.0, λ s day update row m has begins. swapped there.rest s day update row it.1 m has begins),
  )

-- ---- bodies and what they say

-- what a body says that is read
pub says_day : (s : Stream) (day update : ℕ) (body : List ℕ) (readings : List (Option ReadingValue)) → readings_in body ≡ Some readings
    → body_facts s day update body ≡ readings_facts s day update readings
says_day s day update body readings is = ap (λ o. readings_facts s day update (unwrap_or o [])) is

-- a body of readings that aren't none says a version
pub says_some : (s : Stream) (day update : ℕ) (body : List ℕ) (readings : List (Option ReadingValue)) → readings_in body ≡ Some readings
    → any_held readings ≡ true → body_facts s day update body ≢ []
says_some s day update body readings is some =
    subst (λ facts. facts ≢ []) (sym (says_day s day update body readings is)) (some_said s day (minutes_of (length readings)) update 1 readings some)

-- what a row says that begins with the key and has a body
row_says : (s : Stream) (day update : ℕ) (row : Row) (body : List ℕ) → Begins (key_cells s day update) row → column row 5 ≡ Blob body
    → pack_facts row ≡ body_facts s day update body
row_says s day update row body begins has =
    let key = key_cells s day update in
    let nmi : text_at row 1 ≡ s.nmi = ap bytes (begins_at key row begins 0 (omega arith)) in
    let suffix : text_at row 2 ≡ s.suffix = ap bytes (begins_at key row begins 1 (omega arith)) in
    let on : natural_at row 3 ≡ day = ap (λ v. natural (id_in v)) (begins_at key row begins 2 (omega arith)) in
    let at : natural_at row 4 ≡ update = ap (λ v. natural (id_in v)) (begins_at key row begins 3 (omega arith)) in
    let it : text_at row 5 ≡ body = ap bytes has in
    (λ i. body_facts (record { nmi = nmi i; suffix = suffix i }) (on i) (at i) (it i))

-- a row whose body was replaced by one that says more readings
pub lays_there : (old new : State) (id : ℤ) (shown : Row) (old_body new_body : List ℕ) (olds news all : List (Option ReadingValue))
    → column shown 0 ≡ Int id → column shown 1 ≡ Blob old_body → readings_in old_body ≡ Some olds → readings_in new_body ≡ Some all
    → laid olds news ≡ Some all → any_held news ≡ true → PutsBody old new id new_body → PutsBeside old new shown news
lays_there old new id shown old_body new_body olds news all has_id has_body was is made some replaces = (
  replaces.0,
  λ there. let it = replaces.1 there in (
    it.0,
    λ s day update row m shown_is begins.
        let at_id : column row 0 ≡ Int id = sym (ap (λ r. column r 0) shown_is) ∙ has_id in
        let at_body : column row 5 ≡ Blob old_body = sym (ap (λ r. column r 1) shown_is) ∙ has_body in
        let says : IsMore (pack_facts (Null ∷ pack_cells s day update new_body)) (pack_facts (Null ∷ drop 1 row)) (readings_facts s day update news) =
        ap of (says_day s day update new_body all is) ∙ laid_said s day update olds news all made
        ∙ ap (λ facts. union (of facts) (of (readings_facts s day update news)))
        (sym (row_says s day update row old_body begins at_body ∙ says_day s day update old_body olds was) ∙ pack_bare row) in
        came_over row (pack_cells s day update new_body) (readings_facts s day update news) olds old.now.trees new.now.trees
        (ap (λ v. readings_in (bytes v)) at_body ∙ was) (some_said s day (minutes_of (length news)) update 1 news some) says
        (it.1 s day update row m at_id begins),
  ),
)

-- ---- a query, and then a write

-- the database is sound under the schema that it has
pub is_database : (old new : State) → IsThere old new → IsDatabase old.now
is_database old new there = subst (λ schema. IsSound schema old.now.trees) (sym there.schema) there.sound

module _ (a b c : State) (later : doubt b.is_clean ≤ doubt c.is_clean)
    (same : HasCleanDisk b → (rest : More) → a.now.schema ≡ schema_with (packs_then rest) → IsUnchanged a b) where
  same_there : IsThere a c → IsUnchanged a b
  same_there there = same (omega (arith, there.clean, later)) there.rest.more there.schema

  there_now : IsThere a c → IsThere b c
  there_now there =
      let it = same_there there in
      let now : b.now ≡ a.now = it.0.now_is in
      record {
        clean = there.clean;
        is_open = it.0.is_open;
        rest = there.rest;
        schema = ap (λ (d : Database). d.schema) now ∙ there.schema;
        sound = subst (λ (d : Database). IsSound (schema_with (packs_then there.rest.more)) d.trees) (sym now) there.sound;
      }

  changes_since : IsThere a c → ChangesPacks b c → ChangesPacks a c
  changes_since there it =
      let was = same_there there in
      let now : b.now ≡ a.now = was.0.now_is in
      record {
        is_open = it.is_open;
        schema = it.schema ∙ ap (λ (d : Database). d.schema) now;
        others = subst (λ (d : Database). KeepsOthers pack_tree d.trees c.now.trees d.schema.tables) now it.others;
        committed = it.committed ∙ was.0.committed_is;
        sound = it.sound;
      }

  -- after a query that changed nothing a row is put
  pub puts_since : GoesOn a b → (facts : List Fact) → PutsFacts b c facts → PutsFacts a c facts
  puts_since first facts puts = (
    on_then a b c later first puts.0,
    λ there.
        let it = puts.1 (there_now there) in
        let now : b.now ≡ a.now = (same_there there).0.now_is in
        (changes_since there it.0, subst (λ (d : Database). NamesMore d.trees c.now.trees facts) now it.1),
  )

  -- and the commit is kept
  pub kept_since : KeepsCommit a b → (IsThere b c → KeepsCommit b c) → IsThere a c → KeepsCommit a c
  kept_since first next there = keeps_then a b c first (next (there_now there))

  -- or the body of the one that it showed is replaced
  pub lays_since : GoesOn a b → (s : Stream) (day update : ℕ) (shown : Row) (readings : List (Option ReadingValue))
      → (HasCleanDisk b → (rest : More) → a.now.schema ≡ schema_with (packs_then rest) → IsDatabase a.now → Selects pack_tree (key_cells s day update) body_columns a.now.trees (shown ∷ []))
      → PutsBeside b c shown readings → PutsFacts a c (readings_facts s day update readings)
  lays_since first s day update shown readings shows lays = (
    on_then a b c later first lays.0,
    λ there.
        let it = lays.1 (there_now there) in
        let now : b.now ≡ a.now = (same_there there).0.now_is in
        let whole = is_database a c there in
        let row = (shows (omega (arith, there.clean, later)) there.rest.more there.schema whole shown).0 (inl refl) in
        let more = it.1 s day update row.0 (subst (λ (d : Database). Member row.0 (d.trees pack_tree)) (sym now) row.1) row.3 row.2 in
        (changes_since there it.0, subst (λ (d : Database). NamesMore d.trees c.now.trees (readings_facts s day update readings)) now more),
  )

pub if_ok : {X E : Type 0} (r : Result X E) (A B : Type 0) → (A → B) → OnOk r A → OnOk r B
if_ok (Ok x) A B f h = f h
if_ok (Err e) A B f h = tt

-- a slice of one element
pub one_row : (rows : List Row) (row : Row) → length rows ≡ 1 → row ≡ slice_index_or rows 0 row → rows ≡ row ∷ []
one_row [] row one is = absurd (omega (arith, one))
one_row (r ∷ []) row one is = ap (λ x. x ∷ []) (sym is)
one_row (r ∷ s ∷ more) row one is = absurd (omega (arith, one))

-- ---- one after another

others_then : (a b c : Trees) (tables : List Table) → KeepsOthers pack_tree a b tables → KeepsOthers pack_tree b c tables
    → KeepsOthers pack_tree a c tables
others_then a b c [] p q = tt
others_then a b c (t ∷ ts) p q = (λ other. q.0 other ∙ p.0 other, others_then a b c ts p.1 q.1)

pub same_others : (a : Trees) (tables : List Table) → KeepsOthers pack_tree a a tables
same_others a [] = tt
same_others a (t ∷ ts) = (λ _. refl, same_others a ts)

-- nothing is put
pub puts_none : (s : State) → PutsFacts s s []
puts_none s = (
  on_same s,
  λ there. (
    record {
      is_open = there.is_open;
      schema = refl;
      others = same_others s.now.trees s.now.schema.tables;
      committed = refl;
      sound = is_database s s there;
    },
    named_none s.now.trees,
  ),
)

-- versions are put, and then others
pub changes_then : (a b c : State) (xs ys : List Fact) → ChangesPacks a b × NamesMore a.now.trees b.now.trees xs
    → ChangesPacks b c × NamesMore b.now.trees c.now.trees ys → ChangesPacks a c × NamesMore a.now.trees c.now.trees (xs ++ ys)
changes_then a b c xs ys one two = (
  record {
    is_open = two.0.is_open;
    schema = two.0.schema ∙ one.0.schema;
    others = others_then a.now.trees b.now.trees c.now.trees a.now.schema.tables one.0.others
        (subst (λ (s : Schema). KeepsOthers pack_tree b.now.trees c.now.trees s.tables) one.0.schema two.0.others);
    committed = two.0.committed ∙ one.0.committed;
    sound = two.0.sound;
  },
  named_then a.now.trees b.now.trees c.now.trees xs ys one.1 two.1,
)

module _ (a b c : State) (later : doubt b.is_clean ≤ doubt c.is_clean) where
  pub there_before : IsThere a c → IsThere a b
  there_before there = record {
    clean = omega (arith, there.clean, later);
    is_open = there.is_open;
    rest = there.rest;
    schema = there.schema;
    sound = there.sound;
  }

  pub there_after : IsThere a c → ChangesPacks a b → IsThere b c
  there_after there it =
      let has : b.now.schema ≡ schema_with (packs_then there.rest.more) = it.schema ∙ there.schema in
      record {
        clean = there.clean;
        is_open = it.is_open;
        rest = there.rest;
        schema = has;
        sound = subst (λ schema. IsSound schema b.now.trees) has it.sound;
      }

  pub puts_then : (xs ys : List Fact) → PutsFacts a b xs → PutsFacts b c ys → PutsFacts a c (xs ++ ys)
  puts_then xs ys p q = (
    on_then a b c later p.0 q.0,
    λ there.
        let one = p.1 (there_before there) in
        changes_then a b c xs ys one (q.1 (there_after there one.0)),
  )

  -- what keeps the commit in two steps
  pub kept_then : (xs : List Fact) → PutsFacts a b xs → (IsThere a b → KeepsCommit a b) → (IsThere b c → KeepsCommit b c)
      → IsThere a c → KeepsCommit a c
  kept_then xs p keeps more there =
      let before = there_before there in
      keeps_then a b c (keeps before) (more (there_after there (p.1 before).0))

  -- the versions at the front were put, and those of a run are
  pub puts_next : (s : Stream) (day : ℕ) (front run : List (ℕ × Version)) → PutsFacts a b (map (row_fact s day) front)
      → PutsFacts b c (map (row_fact s day) run) → PutsFacts a c (map (row_fact s day) (front ++ run))
  puts_next s day front run p q =
      subst (PutsFacts a c) (sym (map-append (row_fact s day) front run)) (puts_then (map (row_fact s day) front) (map (row_fact s day) run) p q)

-- the same facts in other words
pub puts_as : (a b : State) (xs ys : List Fact) → of xs ≡ of ys → PutsFacts a b xs → PutsFacts a b ys
puts_as a b xs ys same puts =
    (puts.0, λ there. let it = puts.1 there in (it.0, named_as a.now.trees b.now.trees xs ys same it.1))

-- the readings of all intervals say a version of each
each_said : (s : Stream) (day minutes update interval : ℕ) (readings : List ReadingValue)
    → facts_from s day minutes update interval (map (λ reading. Some reading) readings) ≡ map (row_fact s day) (whole_rows minutes update interval readings)
each_said s day minutes update interval [] = refl
each_said s day minutes update interval (r ∷ rs) =
    ap (λ facts. VersionIs (key_at s day minutes interval update) r ∷ facts) (each_said s day minutes update (interval + 1) rs)

-- where they are as many as a day of that length has
pub whole_said : (s : Stream) (day minutes update : ℕ) (readings : List ReadingValue) → minutes_of (length readings) ≡ minutes
    → readings_facts s day update (map (λ reading. Some reading) readings) ≡ map (row_fact s day) (whole_rows minutes update 1 readings)
whole_said s day minutes update readings many =
    ap (λ m. facts_from s day m update 1 (map (λ reading. Some reading) readings))
    (ap minutes_of (length-map readings (λ (reading : ReadingValue). Some reading)) ∙ many)
    ∙ each_said s day minutes update 1 readings

-- versions of a day, as rows of its book
pub as_rows : (s : Stream) (day : ℕ) (rows : List (ℕ × Version)) → map (row_fact s day) rows ≡ map version_fact (map (version_at s day) rows)
as_rows s day [] = refl
as_rows s day (r ∷ rs) = ap (λ xs. row_fact s day r ∷ xs) (as_rows s day rs)

pub rows_say : (added : DayVersions) (rows : List (ℕ × Version)) → rows_of added.rows ≡ rows
    → map (row_fact added.stream added.day) rows ≡ map version_fact (day_versions added)
rows_say added rows is =
    as_rows added.stream added.day rows ∙ ap (λ rows. map version_fact (map (version_at added.stream added.day) rows)) (sym is)

-- the versions of a day are put by its rows
pub puts_rows : {X E : Type 0} (r : Result X E) (old new : State) (added : DayVersions) (rows : List (ℕ × Version)) → rows_of added.rows ≡ rows
    → OnOk r (PutsFacts old new (map (row_fact added.stream added.day) rows)) → OnOk r (PutsFacts old new (map version_fact (day_versions added)))
puts_rows r old new added rows is = if_ok r _ _ (subst (PutsFacts old new) (rows_say added rows is))

-- the versions of the first days were put, and those of the next are
pub puts_day : (a b c : State) → doubt b.is_clean ≤ doubt c.is_clean → (days : List DayVersions) (k : ℕ) (day : DayVersions) → k < length days
    → day ≡ slice_index_or days k day → PutsFacts a b (map version_fact (versions_of (take k days))) → PutsFacts b c (map version_fact (day_versions day))
    → PutsFacts a c (map version_fact (versions_of (take (k + 1) days)))
puts_day a b c later days k day low is p q =
    let front : take (k + 1) days ≡ take k days ++ day ∷ [] =
    take_more days k day low ∙ ap (λ x. take k days ++ x ∷ []) (sym is) in
    let all : versions_of (take (k + 1) days) ≡ versions_of (take k days) ++ day_versions day =
    ap versions_of front ∙ flat_map-append day_versions (take k days) (day ∷ [])
    ∙ ap (λ xs. versions_of (take k days) ++ xs) (append-nil (day_versions day)) in
    subst (PutsFacts a c) (sym (ap (map version_fact) all ∙ map-append version_fact (versions_of (take k days)) (day_versions day)))
    (puts_then a b c later (map version_fact (versions_of (take k days))) (map version_fact (day_versions day)) p q)

-- what stands in front of what is left grows by a run
pub next_front : (front left run rest rows : List (ℕ × Version)) → front ++ left ≡ rows → run ++ rest ≡ left → (front ++ run) ++ rest ≡ rows
next_front front left run rest rows whole parts = append_assoc front run rest ∙ ap (λ xs. front ++ xs) parts ∙ whole
