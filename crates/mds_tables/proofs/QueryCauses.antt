-- Why a query of one table fails: the store does, or the limit of steps is reached.
use Rattle.std.proofs.Common.{◌≡◌, inl, inr, ℕ, List, [], length, false, IfErr, Ok, Err, Result, append-nil, sym, ap, subst, ◌∙◌}
use Rattle.std.specs.Prelude.{IsSome, Option}
use Rattle.sqlite_value.specs.declared.keys.Key.{Key}
use Rattle.sqlite_value.specs.Order.{Row}
use Rattle.sqlite_trees.specs.Tree.{Trees}
use Rattle.sqlite_sql.specs.Term.{Term}
use Rattle.sqlite.specs.Effect.{Database, RefusesQuery, RefusesToRead}
use Rattle.sqlite.specs.Listing.{IsSourceOf, reads_listing, understood}
use Rattle.sqlite.specs.State.{FailsToQuery, IsNotRun, State}
use Rattle.sqlite.specs.declared.error.Error.{Error}
use Rattle.sqlite.specs.declared.error.Error.TheVariants.{SqliteFailure}
use Rattle.sqlite.specs.declared.error.ErrorCode.TheVariants.{OperationInterrupted}
use Rattle.sqlite.proofs.Callers.{IsPlain, command_of}
use Rattle.mds_tables.specs.Causes.{HasFailed}
use Rattle.mds_tables.specs.Tables.{More, schema_with}
use Rattle.mds_tables.proofs.CauseLemmas.{IsWhole, a_statement, store_fails}
use Rattle.mds_tables.proofs.QueryLemmas.{AsksFor}
use Rattle.mds_tables.proofs.SelectTexts.{from_one}

is_whole : (more : More) (s : State) → s.now.schema ≡ schema_with more → (db : Database) → db ≡ s.now
    → db ≡ record { schema = schema_with more; trees = s.now.trees }
is_whole more s has db is = is ∙ ap (λ schema. record { schema = schema; trees = s.now.trees }) has

module _ (more : More) (sql : List ℕ) (plain : IsPlain (understood (schema_with more) sql) × (reads_listing (schema_with more) sql ≡ false)) (params : Row)
    (whole : IsWhole sql (length params) (understood (schema_with more) sql)) (tree : ℕ) (test project : List Term)
    (order : List (Term × Key)) (names : List (List ℕ)) (is : AsksFor more sql tree test project order names)
    (cut : (limit : Option ℕ) (trees : Trees) (e : Error)
    → RefusesQuery limit (record { schema = schema_with more; trees = trees }) (record { lets = []; body = from_one tree test project order }) params e
    → (e ≡ SqliteFailure OperationInterrupted) × IsSome limit)
    (old new : State) (has : old.now.schema ≡ schema_with more) where
  pub failed : (e : Error) → FailsToQuery sql params old new e → HasFailed old new e
  unfolding FailsToQuery IsNotRun
  failed e (inl (inl none)) =
      absurd (a_statement old sql params e (subst (λ s. IsWhole sql (length params) (understood s sql)) (sym has) whole) none.0)
  failed e (inl (inr fails)) = inl (store_fails old new ⊥ e fails)
  failed e (inr h) =
      let known = sym h.1.is ∙ ap (λ s. understood s sql) has in
      let bare = subst IsPlain (sym known) (plain.0) in
      let it = rw (bare.0, bare.1, append-nil params) at h.2 in
      let db = is_whole more old has it.0 (subst (λ b. IsSourceOf b old.now it.0) (ap (λ s. reads_listing s sql) has ∙ plain.1) it.1) in
      let refused = subst (λ d. RefusesToRead old.step_limit h.0.command d params e) db it.2 in
      inr (cut old.step_limit old.now.trees e
      (subst (λ k. RefusesToRead old.step_limit k (record { schema = schema_with more; trees = old.now.trees }) params e)
      (ap command_of known ∙ is) refused))

  pub why : {V : Type 0} (r : Result V Error) → IfErr r (FailsToQuery sql params old new) → IfErr r (HasFailed old new)
  why (Ok v) h = tt
  why (Err e) h = failed e h
