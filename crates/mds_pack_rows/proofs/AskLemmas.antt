-- What a query does in a transaction, and finds, whatever tables stand behind mds_pack.
use Rattle.std.proofs.Common.{◌≡◌, ◌⊎◌, inl, inr, ℕ, List, [], None, Some, Ok, Err, IfErr, IfOk, IsTrue, Result, codes, false, refl, subst, ◌∙◌}
use Rattle.std.specs.declared.alloc.Global.{Global}
use Rattle.std.specs.declared.vec.Vec.{Vec}
use Rattle.sqlite_value.specs.Order.{Row}
use Rattle.sqlite_value.specs.declared.keys.Key.{Key}
use Rattle.sqlite_sql.specs.Term.{Term}
use Rattle.sqlite_trees.specs.Tree.{Trees}
use Rattle.sqlite.specs.Clock.{timed}
use Rattle.sqlite.specs.Listing.{reads_listing, understood}
use Rattle.sqlite.specs.Program.{overlay}
use Rattle.sqlite.specs.Schema.{Schema}
use Rattle.sqlite.specs.State.{FailsToQuery, HasCleanDisk, IsTooLate, KeepsCommit, Shown, ShowsRows, State}
use Rattle.sqlite.specs.declared.error.Error.{Error}
use Rattle.sqlite.proofs.Callers.{IsPlain, reads_as}
use Rattle.sqlite.proofs.InsideLemmas.{unchanged_keeps}
use Rattle.sqlite_catalog.specs.Listing.{IsSound}
use Rattle.sqlite_schema.specs.declared.schema.Column.{Column}
use Rattle.sqlite_schema.specs.declared.schema.Constraint.TheVariants.{Datatype, NotNull}
use Rattle.mds_names.specs.declared.stream.Stream.{Stream}
use Rattle.mds_world.specs.Lists.{Member}
use Rattle.mds_tables.specs.Cells.{day_cells}
use Rattle.mds_tables.specs.Stores.{Selects, SelectsAll}
use Rattle.mds_tables.specs.Tables.{More, schema_with}
use Rattle.mds_tables.proofs.KeyLemmas.{tests}
use Rattle.mds_tables.proofs.MemberLemmas.{selects, selects_all}
use Rattle.mds_tables.proofs.QueryLemmas.{AsksFor, fails_same, kept, shown_same}
use Rattle.mds_tables.proofs.SelectLemmas.{Picks, picks}
use Rattle.mds_tables.proofs.SelectTexts.{columns_at}
use Rattle.mds_tables.proofs.TypedLemmas.{AreFor, AreTyped, alike, both}
use Rattle.mds_tables.proofs.TypedRows.{HasKeyCells}
use Rattle.mds_pack_rows.specs.PackCells.{key_cells}
use Rattle.mds_pack_rows.specs.PackTables.{pack_table, pack_tree, packs_then}
use Rattle.mds_pack_rows.specs.Putting.{FindsThere, GoesOn}

-- ---- how a query leaves the connection

-- whatever the tables are, a query leaves the connection and the transaction as they were
module _ (sql : List ℕ) (params : Row) (old new : State) (rows : List Row) where
  leaves_open : Shown sql params old new rows → IsTrue old.is_open × IsTrue new.is_open × (new.in_transaction ≡ old.in_transaction)
  unfolding Shown
  leaves_open h =
      elim (h.0.returning) as (λ o. ShowsRows old new sql h.0 (timed params h.0.formats h.1.now) rows o
      → IsTrue old.is_open × IsTrue new.is_open × (new.in_transaction ≡ old.in_transaction)) [
        | None ↦ λ s. let it = s.3.0 in (it.was_open, it.is_open, it.mode)
        | Some what ↦ λ s. let it = s.1.shown in (it.was_open, it.is_open, it.mode)
      ] h.2

  pub shown_on : (HasCleanDisk new → Shown sql params old new rows) → GoesOn old new
  shown_on shown = record {
    was_open = λ clean _. (leaves_open (shown clean)).0;
    is_open = λ clean _. (leaves_open (shown clean)).1;
    inside = λ clean was. (leaves_open (shown clean)).2 ∙ was;
  }

module _ (schema : Schema) (sql : List ℕ) (plain : IsPlain (understood schema sql)) (old new : State) (params : Row) where
  -- in a transaction it commits nothing
  pub shown_kept : old.now.schema ≡ schema → (rows : List Row) → Shown sql params old new rows → KeepsCommit old new
  shown_kept has rows h = unchanged_keeps old new (inl (shown_same sql params old new schema has plain rows h))

  pub fails_kept : old.now.schema ≡ schema → (e : Error) → FailsToQuery sql params old new e ⊎ IsTooLate sql params old new e
      → KeepsCommit old new
  fails_kept has e (inl h) = unchanged_keeps old new (fails_same sql params old new schema has plain e h)
  fails_kept has e (inr h) = unchanged_keeps old new (inl h.5)

  -- whatever it answers
  pub asked_kept : old.now.schema ≡ schema → (r : Result (Vec Row Global) Error) → IfOk r (λ rows. Shown sql params old new rows.items)
      → IfErr r (λ e. FailsToQuery sql params old new e ⊎ IsTooLate sql params old new e) → KeepsCommit old new
  asked_kept has (Ok rows) ok err = shown_kept has rows.items ok
  asked_kept has (Err e) ok err = fails_kept has e err

-- ---- what is found

-- what is shown of a query's rows in any sound database
module _ (sql : List ℕ) (tree : ℕ) (test project : List Term) (order : List (Term × Key)) (names : List (List ℕ))
    (plain : (rest : More) → IsPlain (understood (schema_with (packs_then rest)) sql) × (reads_listing (schema_with (packs_then rest)) sql ≡ false))
    (is : (rest : More) → AsksFor (packs_then rest) sql tree test project order names) (low : (db : Trees) → overlay db [] tree ≡ db tree) where
  pub finds_picked : (params : Row) (Says : List Row → Trees → Type 0)
      → ((rest : More) (db : Trees) → IsSound (schema_with (packs_then rest)) db → (rows : List Row) → Picks tree test project order db params rows
      → Says rows db)
      → (old new : State) (rows : List Row) → Shown sql params old new rows → FindsThere old new (Says rows)
  finds_picked params Says says old new rows shown = record {
    same = λ rest has. shown_same sql params old new (schema_with (packs_then rest)) has (plain rest).0 rows shown;
    shows = λ rest has whole.
        let db = old.now.trees in
        let sound : IsSound (schema_with (packs_then rest)) db = subst (λ schema. IsSound schema db) has whole in
        let read = reads_as sql params old new (schema_with (packs_then rest)) has _ (is rest) (plain rest).0 (plain rest).1 rows shown in
        says rest db sound rows (picks tree test project order db params rows (low db) read.answer);
  }

module _ (sql : List ℕ) (tree : ℕ) (places : List ℕ) (names : List (List ℕ))
    (plain : (rest : More) → IsPlain (understood (schema_with (packs_then rest)) sql) × (reads_listing (schema_with (packs_then rest)) sql ≡ false))
    (low : (db : Trees) → overlay db [] tree ≡ db tree) where
  -- the rows that begin with a key
  pub finds_there : (order : List (Term × Key)) (key : Row)
      → ((rest : More) → AsksFor (packs_then rest) sql tree (tests 0 key) (columns_at places) order names)
      → (cs : List Column) → AreFor cs key
      → ((rest : More) (db : Trees) → IsSound (schema_with (packs_then rest)) db → (row : Row) → Member row (db tree) → AreTyped cs row)
      → (old new : State) (rows : List Row) → Shown sql key old new rows
      → FindsThere old new (λ trees. Selects tree key places trees rows)
  finds_there order key is cs of typed =
      finds_picked sql tree (tests 0 key) (columns_at places) order names plain is low key (λ rows trees. Selects tree key places trees rows)
      (λ rest db sound rows p. selects tree places order db key cs of (typed rest db sound) rows p)

  -- all rows
  pub finds_all : ((rest : More) → AsksFor (packs_then rest) sql tree [] (columns_at places) [] names)
      → (old new : State) (rows : List Row) → Shown sql [] old new rows
      → FindsThere old new (λ trees. SelectsAll tree places trees rows)
  finds_all is =
      finds_picked sql tree [] (columns_at places) [] names plain is low [] (λ rows trees. SelectsAll tree places trees rows)
      (λ rest db sound rows p. selects_all tree places db rows p)

-- ---- the types of the columns

pub pack_typed : (rest : More) (db : Trees) → IsSound (schema_with (packs_then rest)) db → (row : Row) → Member row (db pack_tree)
    → AreTyped pack_table.columns row
pack_typed rest db sound row m =
    let fits = (sound.obeys.rules Datatype).1.1.1.1.1.1.1.1.0 in
    let it = kept (packs_then rest) db sound row pack_table (db pack_tree) fits (sound.obeys.rules NotNull).1.1.1.1.1.1.1.1.0 m in
    record { typed = (both _ _ it.0).0; present = it.1 }

pub key_for : (s : Stream) (day update : ℕ) → AreFor pack_table.columns (key_cells s day update)
key_for s day update = ((codes "nmi", refl), ((codes "suffix", refl), ((codes "day", refl), ((codes "moment", refl), tt))))

pub day_for : (s : Stream) (day : ℕ) → AreFor pack_table.columns (day_cells s day)
day_for s day = ((codes "nmi", refl), ((codes "suffix", refl), ((codes "day", refl), tt)))

-- a row begins with a stream and a day
pub pack_row : (rest : More) (db : Trees) → IsSound (schema_with (packs_then rest)) db → (row : Row) → Member row (db pack_tree) → HasKeyCells row
pack_row rest db sound row m =
    let s : Stream = record { nmi = []; suffix = [] } in
    let it = alike pack_table.columns (day_cells s 0) row (day_for s 0) (pack_typed rest db sound row m) in
    record { nmi = it.0; suffix = it.1.0; number = it.1.1.0 }
