use Rattle.std.specs.Prelude.{◌≡◌, IsTrue}
use Rattle.std.proofs.Common.{rules, inl, inr, ◌∙◌, refl, sym, true, false, Bool}
use Rattle.sqlite.specs.Held.{state}
use Rattle.sqlite.specs.State.{HasCleanDisk}
use Rattle.mds_tables.specs.Stores.{HoldsTablesOf}
use Rattle.mds_pack_rows.specs.Current.{current_layout, current_schema}
use Rattle.mds_store.specs.CurrentStore.{AreCurrent}
use Rattle.mds_store.proofs.CurrentAdopting.{is_current_adopted, isnt_seen, of_current, still_current, is_so}
use Rattle.mds_store.proofs.Earlier.{not_earlier}
use Rattle.std.specs.Bool.{MatchBool}
use Rattle.std.proofs.lemmas.Bool.{both_ways, not-false, not-true}
use Rattle.mds_tables.proofs.CallLemmas.{keeps_same, survives_same}
use Rattle.mds_store.proofs.starting.adopt.Goals as goal

isnt_so : {Q : Type 0} (P : Type 0) → (b : Bool) → b ≡ false → MatchBool b P Q → Q
isnt_so P true is told = absurd cc
isnt_so P false is told = told

pub returns-in-Ok-true-clause-survives : goal.returns-in-Ok-true-clause-survives
returns-in-Ok-true-clause-survives g c =
    let held : HoldsTablesOf current_layout (state g.S.Store c.args.conn) = search rules in
    rw c.over.ensures (c.are_current.ensures.answers.survives held)

pub returns-in-Ok-false-clause-survives : goal.returns-in-Ok-false-clause-survives
returns-in-Ok-false-clause-survives g c =
    let held : HoldsTablesOf current_layout (state g.S.Store c.args.conn) = search rules in
    c.are_current.ensures.answers.survives held

pub returns-in-Err-clause-survives : goal.returns-in-Err-clause-survives
returns-in-Err-clause-survives g c =
    let held : HoldsTablesOf current_layout (state g.S.Store c.args.conn) = search rules in
    c.are_current.ensures.answers.survives held

pub over-requires-clause-holds : goal.over-requires-clause-holds
over-requires-clause-holds g c =
    let old = state g.S.Store c.args.conn in
    let new = state g.S.Store c.are_current.new.conn in
    let held : HoldsTablesOf current_layout old = search rules in
    let current : HasCleanDisk new → AreCurrent old.committed.trees = λ clean. let it = c.in-Ok-true.ensures.answers.found clean held in search rules in
    λ clean.
    let is_open = (c.in-Ok-true.ensures.answers.open clean held).is_open in
    (is_open, still_current old new held (c.are_current.ensures.answers.survives held) (λ clean. c.are_current.ensures.answers.kept clean held) current clean is_open)

pub returns-in-Ok-true-clause-ok : goal.returns-in-Ok-true-clause-ok
returns-in-Ok-true-clause-ok g c =
    let old = state g.S.Store c.args.conn in
    let new = state g.S.Store c.are_current.new.conn in
    let held : HoldsTablesOf current_layout old = search rules in
    let current : HasCleanDisk new → AreCurrent old.committed.trees = λ clean. let it = c.in-Ok-true.ensures.answers.found clean held in search rules in
    rw c.over.ensures
    (λ (clean : HasCleanDisk new).
    is_current_adopted old new held (c.are_current.ensures.answers.survives held) (λ clean. c.are_current.ensures.answers.kept clean held) clean
    (c.in-Ok-true.ensures.answers.open clean held) (current clean))

pub returns-in-Ok-true-clause-limit : goal.returns-in-Ok-true-clause-limit
returns-in-Ok-true-clause-limit g c =
    let held : HoldsTablesOf current_layout (state g.S.Store c.args.conn) = search rules in
    rw c.over.ensures (c.are_current.ensures.answers.survives held).limit

pub returns-in-Ok-false-clause-err : goal.returns-in-Ok-false-clause-err
returns-in-Ok-false-clause-err g c clean =
    let old = state g.S.Store c.args.conn in
    let new = state g.S.Store c.are_current.new.conn in
    let held : HoldsTablesOf current_layout old = search rules in
    let settled : IsTrue old.is_open → old.now ≡ old.committed = search rules in
    let has : old.now.schema ≡ current_schema = search rules in
    let other : ¬ AreCurrent old.committed.trees = let it = c.in-Ok-false.ensures.answers.found clean held in search rules in (
      c.are_current.ensures.answers.kept clean held,
      (λ store.
          isnt_seen current_layout old new held (λ clean. c.are_current.ensures.answers.kept clean held) AreCurrent clean settled other
          (c.in-Ok-false.ensures.answers.open clean held).is_open (of_current old.now store)),
      not_earlier old.now has,
    )

pub returns-in-Ok-false-clause-limit : goal.returns-in-Ok-false-clause-limit
returns-in-Ok-false-clause-limit g c =
    let held : HoldsTablesOf current_layout (state g.S.Store c.args.conn) = search rules in
    (c.are_current.ensures.answers.survives held).limit

pub returns-in-Err-clause-err : goal.returns-in-Err-clause-err
returns-in-Err-clause-err g c clean =
    let held : HoldsTablesOf current_layout (state g.S.Store c.args.conn) = search rules in
    rw c.from.ensures (c.are_current.ensures.answers.kept clean held, c.in-Err.ensures.cause clean held)

pub returns-in-Err-clause-limit : goal.returns-in-Err-clause-limit
returns-in-Err-clause-limit g c =
    let held : HoldsTablesOf current_layout (state g.S.Store c.args.conn) = search rules in
    (c.are_current.ensures.answers.survives held).limit

pub returns-then-is_third-clause-err : goal.returns-then-is_third-clause-err
returns-then-is_third-clause-err g c = c.refusal_of_third.ensures.err

pub returns-then-not-is_autocommit-clause-ok : goal.returns-then-not-is_autocommit-clause-ok
returns-then-not-is_autocommit-clause-ok g c = tt

pub returns-then-not-is_autocommit-clause-err : goal.returns-then-not-is_autocommit-clause-err
returns-then-not-is_autocommit-clause-err g c clean =
    (keeps_same (state g.S.Store c.args.conn), not-false _ (sym c.is_autocommit.ensures.value ∙ c.if-not-is_autocommit.true))

pub returns-then-not-is_autocommit-clause-busy : goal.returns-then-not-is_autocommit-clause-busy
returns-then-not-is_autocommit-clause-busy g c = λ _. (refl, refl)

pub returns-then-not-is_autocommit-clause-limit : goal.returns-then-not-is_autocommit-clause-limit
returns-then-not-is_autocommit-clause-limit g c = refl

pub returns-then-not-is_autocommit-clause-mode : goal.returns-then-not-is_autocommit-clause-mode
returns-then-not-is_autocommit-clause-mode g c = refl

pub returns-then-not-is_autocommit-clause-survives : goal.returns-then-not-is_autocommit-clause-survives
returns-then-not-is_autocommit-clause-survives g c = survives_same (state g.S.Store c.args.conn)

pub refusal_of_first-requires-clause-mode : goal.refusal_of_first-requires-clause-mode
refusal_of_first-requires-clause-mode g c = not-true _ (sym c.is_autocommit.ensures.value ∙ c.if-not-is_autocommit.false)

pub refusal_of_first-requires-clause-settled : goal.refusal_of_first-requires-clause-settled
refusal_of_first-requires-clause-settled g c = c.is_autocommit.ensures.settled c.if-not-is_autocommit.false

pub refusal_of_first-requires-clause-schema : goal.refusal_of_first-requires-clause-schema
refusal_of_first-requires-clause-schema g c = sym c.schema.ensures.value ∙ is_so _ c.has_schema-is_first.result c.if-is_first.true c.has_schema-is_first.ensures

pub returns-then-is_first-clause-ok : goal.returns-then-is_first-clause-ok
returns-then-is_first-clause-ok g c = tt

pub returns-then-is_first-clause-err : goal.returns-then-is_first-clause-err
returns-then-is_first-clause-err g c = c.refusal_of_first.ensures.err

pub returns-then-is_first-clause-busy : goal.returns-then-is_first-clause-busy
returns-then-is_first-clause-busy g c = λ busy. absurd (both_ways _ (not-true _ (sym c.is_autocommit.ensures.value ∙ c.if-not-is_autocommit.false)) busy)

pub returns-then-is_first-clause-limit : goal.returns-then-is_first-clause-limit
returns-then-is_first-clause-limit g c = c.refusal_of_first.ensures.limit

pub returns-then-is_first-clause-mode : goal.returns-then-is_first-clause-mode
returns-then-is_first-clause-mode g c = c.refusal_of_first.ensures.mode ∙ sym (not-true _ (sym c.is_autocommit.ensures.value ∙ c.if-not-is_autocommit.false))

pub returns-then-is_first-clause-survives : goal.returns-then-is_first-clause-survives
returns-then-is_first-clause-survives g c = c.refusal_of_first.ensures.survives

pub refusal_of_second-requires-clause-mode : goal.refusal_of_second-requires-clause-mode
refusal_of_second-requires-clause-mode g c = not-true _ (sym c.is_autocommit.ensures.value ∙ c.if-not-is_autocommit.false)

pub refusal_of_second-requires-clause-settled : goal.refusal_of_second-requires-clause-settled
refusal_of_second-requires-clause-settled g c = c.is_autocommit.ensures.settled c.if-not-is_autocommit.false

pub refusal_of_second-requires-clause-schema : goal.refusal_of_second-requires-clause-schema
refusal_of_second-requires-clause-schema g c = sym c.schema-2.ensures.value ∙ is_so _ c.has_schema-is_second.result c.if-is_second.true c.has_schema-is_second.ensures

pub returns-then-is_second-clause-ok : goal.returns-then-is_second-clause-ok
returns-then-is_second-clause-ok g c = tt

pub returns-then-is_second-clause-err : goal.returns-then-is_second-clause-err
returns-then-is_second-clause-err g c = c.refusal_of_second.ensures.err

pub returns-then-is_second-clause-busy : goal.returns-then-is_second-clause-busy
returns-then-is_second-clause-busy g c = λ busy. absurd (both_ways _ (not-true _ (sym c.is_autocommit.ensures.value ∙ c.if-not-is_autocommit.false)) busy)

pub returns-then-is_second-clause-limit : goal.returns-then-is_second-clause-limit
returns-then-is_second-clause-limit g c = c.refusal_of_second.ensures.limit

pub returns-then-is_second-clause-mode : goal.returns-then-is_second-clause-mode
returns-then-is_second-clause-mode g c = c.refusal_of_second.ensures.mode ∙ sym (not-true _ (sym c.is_autocommit.ensures.value ∙ c.if-not-is_autocommit.false))

pub returns-then-is_second-clause-survives : goal.returns-then-is_second-clause-survives
returns-then-is_second-clause-survives g c = c.refusal_of_second.ensures.survives

pub refusal_of_third-requires-clause-mode : goal.refusal_of_third-requires-clause-mode
refusal_of_third-requires-clause-mode g c = not-true _ (sym c.is_autocommit.ensures.value ∙ c.if-not-is_autocommit.false)

pub refusal_of_third-requires-clause-settled : goal.refusal_of_third-requires-clause-settled
refusal_of_third-requires-clause-settled g c = c.is_autocommit.ensures.settled c.if-not-is_autocommit.false

pub refusal_of_third-requires-clause-schema : goal.refusal_of_third-requires-clause-schema
refusal_of_third-requires-clause-schema g c = sym c.schema-3.ensures.value ∙ is_so _ c.has_schema-is_third.result c.if-is_third.true c.has_schema-is_third.ensures

pub returns-then-is_third-clause-ok : goal.returns-then-is_third-clause-ok
returns-then-is_third-clause-ok g c = tt

pub returns-then-is_third-clause-busy : goal.returns-then-is_third-clause-busy
returns-then-is_third-clause-busy g c = λ busy. absurd (both_ways _ (not-true _ (sym c.is_autocommit.ensures.value ∙ c.if-not-is_autocommit.false)) busy)

pub returns-then-is_third-clause-limit : goal.returns-then-is_third-clause-limit
returns-then-is_third-clause-limit g c = c.refusal_of_third.ensures.limit

pub returns-then-is_third-clause-mode : goal.returns-then-is_third-clause-mode
returns-then-is_third-clause-mode g c = c.refusal_of_third.ensures.mode ∙ sym (not-true _ (sym c.is_autocommit.ensures.value ∙ c.if-not-is_autocommit.false))

pub returns-then-is_third-clause-survives : goal.returns-then-is_third-clause-survives
returns-then-is_third-clause-survives g c = c.refusal_of_third.ensures.survives

pub returns-then-not-is_current-clause-ok : goal.returns-then-not-is_current-clause-ok
returns-then-not-is_current-clause-ok g c = tt

pub returns-then-not-is_current-clause-err : goal.returns-then-not-is_current-clause-err
returns-then-not-is_current-clause-err g c clean = (
  keeps_same (state g.S.Store c.args.conn),
  (λ current. isnt_so _ c.has_schema-is_current.result c.if-not-is_current.true c.has_schema-is_current.ensures (c.schema-4.ensures.value ∙ current.store.schema)),
  (λ earlier. elim earlier [
    | inl first ↦ isnt_so _ c.has_schema-is_first.result c.if-is_first.false c.has_schema-is_first.ensures (c.schema.ensures.value ∙ first.schema)
    | inr later ↦ elim later [
      | inl second ↦ isnt_so _ c.has_schema-is_second.result c.if-is_second.false c.has_schema-is_second.ensures (c.schema-2.ensures.value ∙ second.store.schema)
      | inr third ↦ isnt_so _ c.has_schema-is_third.result c.if-is_third.false c.has_schema-is_third.ensures (c.schema-3.ensures.value ∙ third.store.schema)
    ]
  ]),
)

pub returns-then-not-is_current-clause-busy : goal.returns-then-not-is_current-clause-busy
returns-then-not-is_current-clause-busy g c = λ busy. absurd (both_ways _ (not-true _ (sym c.is_autocommit.ensures.value ∙ c.if-not-is_autocommit.false)) busy)

pub returns-then-not-is_current-clause-limit : goal.returns-then-not-is_current-clause-limit
returns-then-not-is_current-clause-limit g c = refl

pub returns-then-not-is_current-clause-mode : goal.returns-then-not-is_current-clause-mode
returns-then-not-is_current-clause-mode g c = refl

pub returns-then-not-is_current-clause-survives : goal.returns-then-not-is_current-clause-survives
returns-then-not-is_current-clause-survives g c = survives_same (state g.S.Store c.args.conn)

pub are_current-requires : goal.are_current-requires
are_current-requires g c = not-true _ (sym c.is_autocommit.ensures.value ∙ c.if-not-is_autocommit.false)

pub over-requires-clause-autocommit : goal.over-requires-clause-autocommit
over-requires-clause-autocommit g c = c.are_current.ensures.answers.mode

pub returns-in-Ok-true-clause-err : goal.returns-in-Ok-true-clause-err
returns-in-Ok-true-clause-err g c = tt

pub returns-in-Ok-true-clause-busy : goal.returns-in-Ok-true-clause-busy
returns-in-Ok-true-clause-busy g c = λ busy. absurd (both_ways _ (not-true _ (sym c.is_autocommit.ensures.value ∙ c.if-not-is_autocommit.false)) busy)

pub returns-in-Ok-true-clause-mode : goal.returns-in-Ok-true-clause-mode
returns-in-Ok-true-clause-mode g c = tt

pub returns-in-Ok-false-clause-ok : goal.returns-in-Ok-false-clause-ok
returns-in-Ok-false-clause-ok g c = tt

pub returns-in-Ok-false-clause-busy : goal.returns-in-Ok-false-clause-busy
returns-in-Ok-false-clause-busy g c = λ busy. absurd (both_ways _ (not-true _ (sym c.is_autocommit.ensures.value ∙ c.if-not-is_autocommit.false)) busy)

pub returns-in-Ok-false-clause-mode : goal.returns-in-Ok-false-clause-mode
returns-in-Ok-false-clause-mode g c = c.are_current.ensures.answers.mode ∙ sym (not-true _ (sym c.is_autocommit.ensures.value ∙ c.if-not-is_autocommit.false))

pub returns-in-Err-clause-ok : goal.returns-in-Err-clause-ok
returns-in-Err-clause-ok g c = tt

pub returns-in-Err-clause-busy : goal.returns-in-Err-clause-busy
returns-in-Err-clause-busy g c = λ busy. absurd (both_ways _ (not-true _ (sym c.is_autocommit.ensures.value ∙ c.if-not-is_autocommit.false)) busy)

pub returns-in-Err-clause-mode : goal.returns-in-Err-clause-mode
returns-in-Err-clause-mode g c = c.are_current.ensures.answers.mode ∙ sym (not-true _ (sym c.is_autocommit.ensures.value ∙ c.if-not-is_autocommit.false))
