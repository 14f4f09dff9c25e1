use Rattle.std.proofs.Common.{◌≡◌, ◌∙◌, refl, sym, true, false, Bool, IfErr, Ok, Err, Result}
use Rattle.sqlite.specs.Held.{state}
use Rattle.std.specs.Bool.{MatchBool}
use Rattle.std.proofs.lemmas.Bool.{not-true}
use Rattle.mds_tables.proofs.CallLemmas.{keeps_same, survives_same}
use Rattle.mds_store.proofs.CurrentAdopting.{is_so}
use Rattle.mds_migrate.proofs.Taking.{leaves_none}
use Rattle.mds_migrate.proofs.migrating.next_step.Goals as goal

isnt_so : {Q : Type 0} (P : Type 0) → (b : Bool) → b ≡ false → MatchBool b P Q → Q
isnt_so P true is told = absurd cc
isnt_so P false is told = told

-- what holds of each error
each_err : {T E : Type 0} (r : Result T E) (P : E → Type 0) → ((e : E) → P e) → IfErr r P
each_err (Ok x) P h = tt
each_err (Err e) P h = h e

pub returns-then-not-is_autocommit-clause-done : goal.returns-then-not-is_autocommit-clause-done
returns-then-not-is_autocommit-clause-done g c = tt

pub returns-then-not-is_autocommit-clause-err : goal.returns-then-not-is_autocommit-clause-err
returns-then-not-is_autocommit-clause-err g c = λ _. keeps_same (state g.S.Store c.args.conn.now)

pub returns-then-not-is_autocommit-clause-settled : goal.returns-then-not-is_autocommit-clause-settled
returns-then-not-is_autocommit-clause-settled g c = λ same. absurd cc

pub returns-then-not-is_autocommit-clause-mode : goal.returns-then-not-is_autocommit-clause-mode
returns-then-not-is_autocommit-clause-mode g c = refl

pub returns-then-not-is_autocommit-clause-survives : goal.returns-then-not-is_autocommit-clause-survives
returns-then-not-is_autocommit-clause-survives g c = leaves_none (state g.S.Store c.args.conn.now) (state g.S.Store c.args.conn.now) _ (survives_same (state g.S.Store c.args.conn.now))

pub if_current-requires-clause-mode : goal.if_current-requires-clause-mode
if_current-requires-clause-mode g c = not-true _ (sym c.is_autocommit.ensures.value ∙ c.if-not-is_autocommit.false)

pub if_current-requires-clause-settled : goal.if_current-requires-clause-settled
if_current-requires-clause-settled g c = c.is_autocommit.ensures.settled c.if-not-is_autocommit.false

pub if_current-requires-clause-schema : goal.if_current-requires-clause-schema
if_current-requires-clause-schema g c = sym c.schema.ensures.value ∙ is_so _ c.has_schema-is_current.result c.if-is_current.true c.has_schema-is_current.ensures

pub returns-then-is_current-clause-done : goal.returns-then-is_current-clause-done
returns-then-is_current-clause-done g c = c.if_current.ensures.done

pub returns-then-is_current-clause-err : goal.returns-then-is_current-clause-err
returns-then-is_current-clause-err g c = c.if_current.ensures.err

pub returns-then-is_current-clause-settled : goal.returns-then-is_current-clause-settled
returns-then-is_current-clause-settled g c = each_err c.if_current.result _ (λ _ _. c.is_autocommit.ensures.settled c.if-not-is_autocommit.false)

pub returns-then-is_current-clause-mode : goal.returns-then-is_current-clause-mode
returns-then-is_current-clause-mode g c = c.if_current.ensures.mode ∙ sym (not-true _ (sym c.is_autocommit.ensures.value ∙ c.if-not-is_autocommit.false))

pub returns-then-is_current-clause-survives : goal.returns-then-is_current-clause-survives
returns-then-is_current-clause-survives g c = leaves_none (state g.S.Store c.args.conn.now) (state g.S.Store c.if_current.new.conn) _ c.if_current.ensures.survives

pub if_daily-requires-clause-mode : goal.if_daily-requires-clause-mode
if_daily-requires-clause-mode g c = not-true _ (sym c.is_autocommit.ensures.value ∙ c.if-not-is_autocommit.false)

pub if_daily-requires-clause-settled : goal.if_daily-requires-clause-settled
if_daily-requires-clause-settled g c = c.is_autocommit.ensures.settled c.if-not-is_autocommit.false

pub if_daily-requires-clause-schema : goal.if_daily-requires-clause-schema
if_daily-requires-clause-schema g c = sym c.schema-2.ensures.value ∙ is_so _ c.has_schema-is_third.result c.if-is_third.true c.has_schema-is_third.ensures

pub returns-then-is_third-clause-done : goal.returns-then-is_third-clause-done
returns-then-is_third-clause-done g c = c.if_daily.ensures.done

pub returns-then-is_third-clause-err : goal.returns-then-is_third-clause-err
returns-then-is_third-clause-err g c = c.if_daily.ensures.err

pub returns-then-is_third-clause-settled : goal.returns-then-is_third-clause-settled
returns-then-is_third-clause-settled g c = each_err c.if_daily.result _ (λ _ _. c.is_autocommit.ensures.settled c.if-not-is_autocommit.false)

pub returns-then-is_third-clause-mode : goal.returns-then-is_third-clause-mode
returns-then-is_third-clause-mode g c = c.if_daily.ensures.mode ∙ sym (not-true _ (sym c.is_autocommit.ensures.value ∙ c.if-not-is_autocommit.false))

pub returns-then-is_third-clause-survives : goal.returns-then-is_third-clause-survives
returns-then-is_third-clause-survives g c = c.if_daily.ensures.survives

pub if_packed-requires-clause-mode : goal.if_packed-requires-clause-mode
if_packed-requires-clause-mode g c = not-true _ (sym c.is_autocommit.ensures.value ∙ c.if-not-is_autocommit.false)

pub if_packed-requires-clause-settled : goal.if_packed-requires-clause-settled
if_packed-requires-clause-settled g c = c.is_autocommit.ensures.settled c.if-not-is_autocommit.false

pub if_packed-requires-clause-schema : goal.if_packed-requires-clause-schema
if_packed-requires-clause-schema g c = sym c.schema-3.ensures.value ∙ is_so _ c.has_schema-is_second.result c.if-is_second.true c.has_schema-is_second.ensures

pub returns-then-is_second-clause-done : goal.returns-then-is_second-clause-done
returns-then-is_second-clause-done g c = c.if_packed.ensures.done

pub returns-then-is_second-clause-err : goal.returns-then-is_second-clause-err
returns-then-is_second-clause-err g c = c.if_packed.ensures.err

pub returns-then-is_second-clause-settled : goal.returns-then-is_second-clause-settled
returns-then-is_second-clause-settled g c = each_err c.if_packed.result _ (λ _ _. c.is_autocommit.ensures.settled c.if-not-is_autocommit.false)

pub returns-then-is_second-clause-mode : goal.returns-then-is_second-clause-mode
returns-then-is_second-clause-mode g c = c.if_packed.ensures.mode ∙ sym (not-true _ (sym c.is_autocommit.ensures.value ∙ c.if-not-is_autocommit.false))

pub returns-then-is_second-clause-survives : goal.returns-then-is_second-clause-survives
returns-then-is_second-clause-survives g c = c.if_packed.ensures.survives

pub if_first-requires-clause-mode : goal.if_first-requires-clause-mode
if_first-requires-clause-mode g c = not-true _ (sym c.is_autocommit.ensures.value ∙ c.if-not-is_autocommit.false)

pub if_first-requires-clause-settled : goal.if_first-requires-clause-settled
if_first-requires-clause-settled g c = c.is_autocommit.ensures.settled c.if-not-is_autocommit.false

pub if_first-requires-clause-schema : goal.if_first-requires-clause-schema
if_first-requires-clause-schema g c = sym c.schema-4.ensures.value ∙ is_so _ c.has_schema-is_first.result c.if-not-is_first.false c.has_schema-is_first.ensures

pub returns-clause-done : goal.returns-clause-done
returns-clause-done g c = c.if_first.ensures.done

pub returns-clause-err : goal.returns-clause-err
returns-clause-err g c = c.if_first.ensures.err

pub returns-clause-settled : goal.returns-clause-settled
returns-clause-settled g c = each_err c.if_first.result _ (λ _ _. c.is_autocommit.ensures.settled c.if-not-is_autocommit.false)

pub returns-clause-mode : goal.returns-clause-mode
returns-clause-mode g c = c.if_first.ensures.mode ∙ sym (not-true _ (sym c.is_autocommit.ensures.value ∙ c.if-not-is_autocommit.false))

pub returns-clause-survives : goal.returns-clause-survives
returns-clause-survives g c = c.if_first.ensures.survives

pub returns-then-not-is_first-clause-done : goal.returns-then-not-is_first-clause-done
returns-then-not-is_first-clause-done g c = tt

pub returns-then-not-is_first-clause-err : goal.returns-then-not-is_first-clause-err
returns-then-not-is_first-clause-err g c = λ _. (
  keeps_same (state g.S.Store c.args.conn.now),
  (λ is. isnt_so _ c.has_schema-is_first.result c.if-not-is_first.true c.has_schema-is_first.ensures (c.schema-4.ensures.value ∙ is.schema)),
  (λ is. isnt_so _ c.has_schema-is_second.result c.if-is_second.false c.has_schema-is_second.ensures (c.schema-3.ensures.value ∙ is.store.schema)),
  (λ is. isnt_so _ c.has_schema-is_third.result c.if-is_third.false c.has_schema-is_third.ensures (c.schema-2.ensures.value ∙ is.store.schema)),
  (λ is. isnt_so _ c.has_schema-is_current.result c.if-is_current.false c.has_schema-is_current.ensures (c.schema.ensures.value ∙ is.store.schema)),
)

pub returns-then-not-is_first-clause-settled : goal.returns-then-not-is_first-clause-settled
returns-then-not-is_first-clause-settled g c = λ _. c.is_autocommit.ensures.settled c.if-not-is_autocommit.false

pub returns-then-not-is_first-clause-mode : goal.returns-then-not-is_first-clause-mode
returns-then-not-is_first-clause-mode g c = refl

pub returns-then-not-is_first-clause-survives : goal.returns-then-not-is_first-clause-survives
returns-then-not-is_first-clause-survives g c = leaves_none (state g.S.Store c.args.conn.now) (state g.S.Store c.args.conn.now) _ (survives_same (state g.S.Store c.args.conn.now))
