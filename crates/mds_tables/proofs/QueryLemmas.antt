-- What a query of one table does to a connection, and finds.
use Rattle.std.proofs.Common.{◌≡◌, ◌≢◌, inl, inr, ℕ, List, [], ◌∷◌, true, false, Option, Some, None, Ok, Err, Result, IfOk, IfErr, OnErr, codes, refl, sym, subst}
use Rattle.std.specs.List.{AllByRecursion}
use Rattle.std.specs.declared.alloc.Global.{Global}
use Rattle.std.specs.declared.vec.Vec.{Vec}
use Rattle.sqlite_value.specs.declared.keys.Key.{Key}
use Rattle.sqlite_value.specs.Order.{Row}
use Rattle.sqlite_trees.specs.Tree.{Trees}
use Rattle.sqlite_sql.specs.Term.{Term}
use Rattle.sqlite.specs.Clock.{timed}
use Rattle.sqlite.specs.Command.TheVariants.{Select}
use Rattle.sqlite.specs.Listing.{reads_listing, understood}
use Rattle.sqlite.specs.Program.{IsProgramAnswer, overlay}
use Rattle.sqlite.specs.Query.{Query}
use Rattle.sqlite.specs.Schema.{Schema}
use Rattle.sqlite.specs.State.{CommitsShowing, FailsToQuery, FailsToShow, HasCleanDisk, IsUnchanged, Shown, ShowsRows, State, Survives}
use Rattle.sqlite.specs.declared.error.Error.{Error}
use Rattle.sqlite.proofs.Callers.{IsPlain, command_of, never_commits, reads_as}
use Rattle.sqlite.proofs.StateLemmas.{survives_weaker}
use Rattle.sqlite.specs.Table.{Table}
use Rattle.sqlite_catalog.specs.Listing.{IsSound}
use Rattle.sqlite_schema.specs.Rules.{passes as keeps_rule}
use Rattle.sqlite_schema.specs.declared.schema.Column.{Column}
use Rattle.sqlite_schema.specs.declared.schema.Constraint.TheVariants.{Datatype, NotNull}
use Rattle.mds_names.specs.declared.stream.Stream.{Stream}
use Rattle.mds_terms.specs.Event.{EventValue}
use Rattle.mds_world.specs.Lists.{Member}
use Rattle.mds_tables.specs.Cells.{day_cells, event_cells, optional_cell, stream_cells}
use Rattle.mds_tables.specs.Layouts.{Layout}
use Rattle.mds_tables.specs.Queries.{QueriesOf}
use Rattle.mds_tables.specs.Stores.{ChangesNothing, FindsOf, Selects, SelectsAll}
use Rattle.mds_tables.specs.Tables.{More, event_table, head_table, holiday_table, job_table, number, period_table, schema_with, text, version_table}
use Rattle.mds_tables.proofs.CallLemmas.{not_run}
use Rattle.mds_tables.proofs.KeyLemmas.{tests}
use Rattle.mds_tables.proofs.MemberLemmas.{all_has, selects, selects_all}
use Rattle.mds_tables.proofs.SelectLemmas.{Picks, picks}
use Rattle.mds_tables.proofs.SelectTexts.{columns_at, from_one}
use Rattle.mds_tables.proofs.TypedLemmas.{AreFor, AreTyped, IsFor, both}

module _ (sql : List ℕ) (params : Row) (old new : State) (schema : Schema) (has : old.now.schema ≡ schema)
    (plain : IsPlain (understood schema sql)) where
  there : IsPlain (understood old.now.schema sql)
  there = subst (λ s. IsPlain (understood s sql)) (sym has) plain

  pub shown_same : (rows : List Row) → Shown sql params old new rows → IsUnchanged old new
  unfolding Shown
  shown_same rows h =
      let none = (subst IsPlain h.1.is there).0 in
      (subst (ShowsRows old new sql h.0 (timed params h.0.formats h.1.now) rows) none h.2).3

  pub fails_same : (e : Error) → FailsToQuery sql params old new e → ChangesNothing old new
  unfolding FailsToQuery
  fails_same e (inl h) = not_run old new sql params e h
  fails_same e (inr h) =
      let none = (subst IsPlain h.1.is there).0 in
      inl (subst (FailsToShow old new sql h.0 (timed params h.0.formats h.1.now) e) none h.2).3

-- the text is one query of a table
abbrev pub AsksFor : More → List ℕ → ℕ → List Term → List Term → List (Term × Key) → List (List ℕ) → Type 0
AsksFor more sql tree test project order names =
    command_of (understood (schema_with more) sql)
    ≡ Select (record { lets = []; body = from_one tree test project order }) names

module _ (layout : Layout) (sql : List ℕ) (plain : IsPlain (understood (schema_with layout.more) sql) × (reads_listing (schema_with layout.more) sql ≡ false)) where
  -- a query that fails changes nothing
  fails : {V : Type 0} (old new : State) (params : Row) → old.now.schema ≡ schema_with layout.more → (r : Result V Error)
      → IfErr r (FailsToQuery sql params old new) → OnErr r (ChangesNothing old new)
  fails old new params has (Ok v) h = tt
  fails old new params has (Err e) h = fails_same sql params old new (schema_with layout.more) has plain.0 e h

  -- nor does it commit anything
  quiet : (old new : State) (params : Row) → Survives old new (CommitsShowing sql params old)
      → Survives old new (λ _. old.now.schema ≢ schema_with layout.more)
  quiet old new params s =
      survives_weaker old new _ _ (λ _ db commits has.
      never_commits sql params old db (there sql params old new (schema_with layout.more) has plain.0) commits) s

  -- what the library says of a call, and what is found, in the words of a query
  pub queried : {old new : State} {r : Result (Vec Row Global) Error} {Shows : Trees → List Row → Type 0} (params : Row)
      → (HasCleanDisk new → IfOk r (λ rows. FindsOf layout old new (λ trees. Shows trees rows.items)))
      → (HasCleanDisk new → IfErr r (FailsToQuery sql params old new))
      → (old.in_transaction ≡ false → new.in_transaction ≡ false)
      → Survives old new (CommitsShowing sql params old) → QueriesOf layout old new r Shows
  queried {old} {new} {r} {Shows} params ok err mode survives = record {
    ok = ok;
    err = λ clean has. fails old new params has r (err clean);
    mode = mode;
    survives = quiet old new params survives;
  }

  -- What an answer to a query says in any sound database is found.
  pub finds_by : {V : Type 0} (body : Query) (names : List (List ℕ))
      → command_of (understood (schema_with layout.more) sql) ≡ Select (record { lets = []; body = body }) names
      → (old new : State) (params : Row) (items : V → List Row) (Says : List Row → Trees → Type 0)
      → ((db : Trees) → IsSound (schema_with layout.more) db → (rows : List Row) → IsProgramAnswer [] body db params rows
      → Says rows db)
      → (r : Result V Error) → IfOk r (λ v. Shown sql params old new (items v))
      → IfOk r (λ v. FindsOf layout old new (Says (items v)))
  finds_by body names is old new params items Says says (Err e) h = tt
  finds_by body names is old new params items Says says (Ok v) h = record {
    same = λ has. shown_same sql params old new (schema_with layout.more) has plain.0 (items v) h;
    shows = λ has sound.
        let read = reads_as sql params old new (schema_with layout.more) has _ is plain.0 plain.1 (items v) h in
        says old.now.trees (rw has at sound) (items v) read.answer;
  }

  module _ (tree : ℕ) (test project : List Term) (order : List (Term × Key)) (names : List (List ℕ))
      (is : AsksFor layout.more sql tree test project order names) (low : (db : Trees) → overlay db [] tree ≡ db tree) where
    -- What is shown of a query's rows in any sound database is found.
    pub finds : {V : Type 0} (old new : State) (params : Row) (items : V → List Row) (Says : List Row → Trees → Type 0)
        → ((db : Trees) → IsSound (schema_with layout.more) db → (rows : List Row) → Picks tree test project order db params rows
        → Says rows db)
        → (r : Result V Error) → IfOk r (λ v. Shown sql params old new (items v))
        → IfOk r (λ v. FindsOf layout old new (Says (items v)))
    finds old new params items Says says =
        finds_by (from_one tree test project order) names is old new params items Says
        (λ db sound rows answer. says db sound rows (picks tree test project order db params rows (low db) answer))

-- ---- the types of the tables

module _ (more : More) (db : Trees) (sound : IsSound (schema_with more) db) (row : Row) where
  pub kept : (table : Table) (rows : List Row) → AllByRecursion (λ r. keeps_rule Datatype (schema_with more) db table r ≡ true) rows
      → AllByRecursion (λ r. keeps_rule NotNull (schema_with more) db table r ≡ true) rows → Member row rows
      → (keeps_rule Datatype (schema_with more) db table row ≡ true) × (keeps_rule NotNull (schema_with more) db table row ≡ true)
  kept table rows fits there m = (
    all_has (λ r. keeps_rule Datatype (schema_with more) db table r ≡ true) rows row fits m,
    all_has (λ r. keeps_rule NotNull (schema_with more) db table r ≡ true) rows row there m,
  )

  pub head_typed : Member row (db 2) → AreTyped head_table.columns row
  head_typed m =
      let it = kept head_table (db 2) (sound.obeys.rules Datatype).1.0 (sound.obeys.rules NotNull).1.0 m in
      record { typed = (both _ _ it.0).0; present = it.1 }

  pub version_typed : Member row (db 4) → AreTyped version_table.columns row
  version_typed m =
      let it = kept version_table (db 4) (sound.obeys.rules Datatype).1.1.0 (sound.obeys.rules NotNull).1.1.0 m in
      record { typed = (both _ _ it.0).0; present = it.1 }

  pub event_typed : Member row (db 8) → AreTyped event_table.columns row
  event_typed m =
      let fits = (sound.obeys.rules Datatype).1.1.1.1.0 in
      let it = kept event_table (db 8) fits (sound.obeys.rules NotNull).1.1.1.1.0 m in
      record { typed = (both _ _ it.0).0; present = it.1 }

  pub period_typed : Member row (db 10) → AreTyped period_table.columns row
  period_typed m =
      let fits = (sound.obeys.rules Datatype).1.1.1.1.1.0 in
      let it = kept period_table (db 10) fits (sound.obeys.rules NotNull).1.1.1.1.1.0 m in
      record { typed = (both _ _ it.0).0; present = it.1 }

  pub holiday_typed : Member row (db 12) → AreTyped holiday_table.columns row
  holiday_typed m =
      let fits = (sound.obeys.rules Datatype).1.1.1.1.1.1.0 in
      let it = kept holiday_table (db 12) fits (sound.obeys.rules NotNull).1.1.1.1.1.1.0 m in
      record { typed = (both _ _ it.0).0; present = it.1 }

  pub job_typed : Member row (db 14) → AreTyped job_table.columns row
  job_typed m =
      let fits = (sound.obeys.rules Datatype).1.1.1.1.1.1.1.0 in
      let it = kept job_table (db 14) fits (sound.obeys.rules NotNull).1.1.1.1.1.1.1.0 m in
      record { typed = (both _ _ it.0).0; present = it.1 }

-- ---- the keys of the queries

pub optional_for : (name : List ℕ) (o : Option ℕ) → IsFor (number name) (optional_cell o)
optional_for name None = (name, refl)
optional_for name (Some n) = (name, refl)

pub head_for : (s : Stream) (day : ℕ) → AreFor head_table.columns (day_cells s day)
head_for s day = ((codes "nmi", refl), ((codes "suffix", refl), ((codes "day", refl), tt)))

pub version_for : (s : Stream) (day : ℕ) → AreFor version_table.columns (day_cells s day)
version_for s day = ((codes "nmi", refl), ((codes "suffix", refl), ((codes "day", refl), tt)))

pub stream_for : (s : Stream) (behind : List Column) → AreFor (text (codes "nmi") ∷ text (codes "suffix") ∷ behind) (stream_cells s)
stream_for s behind = ((codes "nmi", refl), ((codes "suffix", refl), tt))

pub events_for : (s : Stream) (day : ℕ) → AreFor event_table.columns (day_cells s day)
events_for s day = ((codes "nmi", refl), ((codes "suffix", refl), ((codes "day", refl), tt)))

pub event_for : (e : EventValue) → AreFor event_table.columns (event_cells e)
event_for e =
    ((codes "nmi", refl), ((codes "suffix", refl), ((codes "day", refl), ((codes "trans", refl), ((codes "ticket", refl), (optional_for (codes "moment") e.moment, ((codes "reading", refl), tt)))))))

-- ---- the queries by a key, and of all rows

module _ (layout : Layout) (sql : List ℕ) (plain : IsPlain (understood (schema_with layout.more) sql) × (reads_listing (schema_with layout.more) sql ≡ false)) (tree : ℕ)
    (places : List ℕ) (names : List (List ℕ)) (low : (db : Trees) → overlay db [] tree ≡ db tree) where
  pub finds_rows : {V : Type 0} (key : Row)
      → AsksFor layout.more sql tree (tests 0 key) (columns_at places) [] names
      → (cs : List Column) → AreFor cs key
      → ((db : Trees) → IsSound (schema_with layout.more) db → (row : Row) → Member row (db tree) → AreTyped cs row)
      → (old new : State) (items : V → List Row) (r : Result V Error)
      → IfOk r (λ v. Shown sql key old new (items v))
      → IfOk r (λ v. FindsOf layout old new (λ trees. Selects tree key places trees (items v)))
  finds_rows key is cs of typed old new items r h =
      finds layout sql plain tree (tests 0 key) (columns_at places) [] names is low old new key items
      (λ rows trees. Selects tree key places trees rows)
      (λ db sound rows p. selects tree places [] db key cs of (typed db sound) rows p) r h

  pub finds_every : {V : Type 0}
      → AsksFor layout.more sql tree [] (columns_at places) [] names
      → (old new : State) (items : V → List Row) (r : Result V Error)
      → IfOk r (λ v. Shown sql [] old new (items v))
      → IfOk r (λ v. FindsOf layout old new (λ trees. SelectsAll tree places trees (items v)))
  finds_every is old new items r h =
      finds layout sql plain tree [] (columns_at places) [] names is low old new [] items
      (λ rows trees. SelectsAll tree places trees rows) (λ db sound rows p. selects_all tree places db rows p) r h
