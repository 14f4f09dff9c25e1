use Rattle.std.specs.Prelude.{◌≡◌, IsTrue}
use Rattle.std.proofs.Common.{rules, ◌∙◌, refl, sym, true, false, Bool, inl, arith}
use Rattle.sqlite.specs.Held.{state}
use Rattle.sqlite.specs.State.{HasCleanDisk, State, Survives}
use Rattle.sqlite_trees.specs.Tree.{Trees}
use Rattle.mds_tables.specs.Tables.{no_schema}
use Rattle.mds_store.proofs.CurrentKeeping.{of_nothing}
use Rattle.std.specs.Bool.{MatchBool}
use Rattle.std.proofs.lemmas.Bool.{both_ways, not-false, not-true}
use Rattle.mds_tables.proofs.CallLemmas.{keeps_same}
use Rattle.mds_store.proofs.starting.create.Goals as goal

-- where nothing was done, a crash leaves what was there
survives_still : (s : State) (May : Trees → Type 0) → Survives s s May
survives_still s May = record {
  clean = omega arith;
  shield = λ h. h;
  counts = omega arith;
  limit = refl;
  closes = λ _ o. inl o;
  crash = λ _ db may. inl may;
}

isnt_so : {Q : Type 0} (P : Type 0) → (b : Bool) → b ≡ false → MatchBool b P Q → Q
isnt_so P true is told = absurd cc
isnt_so P false is told = told

pub over-requires-clause-holds : goal.over-requires-clause-holds
over-requires-clause-holds g c =
    let old = state g.S.Store c.args.conn in
    let new = state g.S.Store c.make_tables.new.conn in
    let empty : IsTrue old.is_open → old.committed.schema ≡ no_schema = search rules in
    λ clean. let made = c.in-Ok.ensures.ok clean in (made.is_open, of_nothing new.committed (made.made (empty made.was_open)))

pub returns-in-Ok-clause-ok : goal.returns-in-Ok-clause-ok
returns-in-Ok-clause-ok g c =
    let old = state g.S.Store c.args.conn in
    let empty : IsTrue old.is_open → old.committed.schema ≡ no_schema = search rules in
    let none : old.now.schema ≡ no_schema = search rules in
    rw c.over.ensures
    (λ (clean : HasCleanDisk (state g.S.Store c.make_tables.new.conn)).
    let made = c.in-Ok.ensures.ok clean in
    record { was_open = made.was_open; was_empty = none; is_open = made.is_open; made = made.made (empty made.was_open) })

pub returns-in-Ok-clause-limit : goal.returns-in-Ok-clause-limit
returns-in-Ok-clause-limit g c = rw c.over.ensures c.make_tables.ensures.survives.limit

pub returns-in-Ok-clause-survives : goal.returns-in-Ok-clause-survives
returns-in-Ok-clause-survives g c = rw c.over.ensures c.make_tables.ensures.survives

pub returns-in-Err-clause-err : goal.returns-in-Err-clause-err
returns-in-Err-clause-err g c clean =
    let old = state g.S.Store c.args.conn in
    let empty : IsTrue old.is_open → old.committed.schema ≡ no_schema = search rules in
    rw c.from.ensures (c.in-Err.ensures.err clean, c.in-Err.ensures.cause clean empty)

pub returns-then-not-is_autocommit-clause-ok : goal.returns-then-not-is_autocommit-clause-ok
returns-then-not-is_autocommit-clause-ok g c = tt

pub returns-then-not-is_autocommit-clause-err : goal.returns-then-not-is_autocommit-clause-err
returns-then-not-is_autocommit-clause-err g c clean =
    (keeps_same (state g.S.Store c.args.conn), not-false _ (sym c.is_autocommit.ensures.value ∙ c.if-not-is_autocommit.true))

pub returns-then-not-is_autocommit-clause-busy : goal.returns-then-not-is_autocommit-clause-busy
returns-then-not-is_autocommit-clause-busy g c = λ _. (refl, refl)

pub returns-then-not-is_autocommit-clause-limit : goal.returns-then-not-is_autocommit-clause-limit
returns-then-not-is_autocommit-clause-limit g c = refl

pub returns-then-not-is_autocommit-clause-mode : goal.returns-then-not-is_autocommit-clause-mode
returns-then-not-is_autocommit-clause-mode g c = refl

pub returns-then-not-is_autocommit-clause-survives : goal.returns-then-not-is_autocommit-clause-survives
returns-then-not-is_autocommit-clause-survives g c = survives_still (state g.S.Store c.args.conn) _

pub returns-then-not-is_empty-clause-ok : goal.returns-then-not-is_empty-clause-ok
returns-then-not-is_empty-clause-ok g c = tt

pub returns-then-not-is_empty-clause-err : goal.returns-then-not-is_empty-clause-err
returns-then-not-is_empty-clause-err g c clean =
    (keeps_same (state g.S.Store c.args.conn), (λ none. isnt_so _ c.is_empty.result c.if-not-is_empty.true c.is_empty.ensures (c.schema.ensures.value ∙ none)), λ never. never)

pub returns-then-not-is_empty-clause-busy : goal.returns-then-not-is_empty-clause-busy
returns-then-not-is_empty-clause-busy g c = λ busy. absurd (both_ways _ (not-true _ (sym c.is_autocommit.ensures.value ∙ c.if-not-is_autocommit.false)) busy)

pub returns-then-not-is_empty-clause-limit : goal.returns-then-not-is_empty-clause-limit
returns-then-not-is_empty-clause-limit g c = refl

pub returns-then-not-is_empty-clause-mode : goal.returns-then-not-is_empty-clause-mode
returns-then-not-is_empty-clause-mode g c = refl

pub returns-then-not-is_empty-clause-survives : goal.returns-then-not-is_empty-clause-survives
returns-then-not-is_empty-clause-survives g c = survives_still (state g.S.Store c.args.conn) _

pub make_tables-requires : goal.make_tables-requires
make_tables-requires g c = not-true _ (sym c.is_autocommit.ensures.value ∙ c.if-not-is_autocommit.false)

pub over-requires-clause-autocommit : goal.over-requires-clause-autocommit
over-requires-clause-autocommit g c = c.make_tables.ensures.mode

pub returns-in-Ok-clause-err : goal.returns-in-Ok-clause-err
returns-in-Ok-clause-err g c = tt

pub returns-in-Ok-clause-busy : goal.returns-in-Ok-clause-busy
returns-in-Ok-clause-busy g c = λ busy. absurd (both_ways _ (not-true _ (sym c.is_autocommit.ensures.value ∙ c.if-not-is_autocommit.false)) busy)

pub returns-in-Ok-clause-mode : goal.returns-in-Ok-clause-mode
returns-in-Ok-clause-mode g c = tt

pub returns-in-Err-clause-ok : goal.returns-in-Err-clause-ok
returns-in-Err-clause-ok g c = tt

pub returns-in-Err-clause-busy : goal.returns-in-Err-clause-busy
returns-in-Err-clause-busy g c = λ busy. absurd (both_ways _ (not-true _ (sym c.is_autocommit.ensures.value ∙ c.if-not-is_autocommit.false)) busy)

pub returns-in-Err-clause-limit : goal.returns-in-Err-clause-limit
returns-in-Err-clause-limit g c = c.make_tables.ensures.survives.limit

pub returns-in-Err-clause-mode : goal.returns-in-Err-clause-mode
returns-in-Err-clause-mode g c = c.make_tables.ensures.mode ∙ sym (not-true _ (sym c.is_autocommit.ensures.value ∙ c.if-not-is_autocommit.false))

pub returns-in-Err-clause-survives : goal.returns-in-Err-clause-survives
returns-in-Err-clause-survives g c = c.make_tables.ensures.survives
