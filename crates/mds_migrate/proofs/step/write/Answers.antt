use Rattle.std.proofs.Common.{◌≡◌, ◌≤◌, ◌∙◌, inl, inr, ap, arith, subst, sym, refl, rules, false, true, IfErr, IsErr, IsTrue, Ok, Err, OnErr, Result}
use Rattle.std.proofs.lemmas.Result.{IfOk-at_ok, IfOk-from_err}
use Rattle.mds_quantity.proofs.Front.{on_err_from}
use Rattle.sqlite.specs.Held.{state}
use Rattle.sqlite.specs.Effect.{Database}
use Rattle.sqlite.specs.State.{HasCleanDisk, KeepsCommit, Shows, State, Survives}
use Rattle.sqlite.specs.Steps.{FailsToCommit}
use Rattle.sqlite.specs.declared.error.Error.{Error}
use Rattle.sqlite.proofs.InsideLemmas.{keeps_then, unchanged_keeps}
use Rattle.sqlite.proofs.StateLemmas.{survives_then}
use Rattle.sqlite_trees.specs.View.{doubt}
use Rattle.mds_tables.proofs.CallLemmas.{survives_more}
use Rattle.mds_tables.specs.Frames.{IsAt}
use Rattle.mds_migrate.specs.Migrated.{IsFor, LeavesWritten, Step, Writes}
use Rattle.mds_migrate.proofs.step.write.Goals as goal

-- a commit that failed committed nothing
failed_keeps : {X : Type 0} (old new : State) (r : Result X Error) → IsErr r → IfErr r (FailsToCommit old new) → KeepsCommit old new
failed_keeps old new (Ok x) is fails = absurd cc
failed_keeps old new (Err e) is (inl fails) = unchanged_keeps old new (inr fails.3)
failed_keeps old new (Err e) is (inr over) = unchanged_keeps old new (inl over.2)

module _ (step : Step) (start begins mid new : State) (is : begins ≡ record start { in_transaction = true }) where
  begun_keeps : KeepsCommit start begins
  begun_keeps = subst (KeepsCommit start) (sym is) (record { was_open = λ o. o; committed = λ _. refl })

  begun_for : IsFor step start.now → IsFor step begins.now
  begun_for = subst (λ (s : State). IsFor step s.now) (sym is)

  begun_at : IsTrue start.is_open → IsFor step start.now → IsAt step.under begins
  begun_at is_open first =
      let it = begun_for first in
      record { is_open = rw is is_open; schema = step.fits begins.now it.store; sound = it.sound }

  begun_survives : Survives start begins (λ _. ⊥)
  begun_survives = subst (λ (s : State). Survives start s (λ _. ⊥)) (sym is) (record {
    clean = omega arith;
    shield = λ h. h;
    counts = omega arith;
    limit = refl;
    closes = λ _ o. inl o;
    crash = λ _ db may. inl may;
  })

  -- all parts were done
  abbrev Done : Type 0
  Done = HasCleanDisk mid → IsAt step.under begins → IsAt step.to mid × (IsFor step begins.now → step.Has begins.now.trees mid.now.trees)

  -- nothing is committed
  nothing_kept : doubt mid.is_clean ≤ doubt new.is_clean
      → (HasCleanDisk mid → IsAt step.under begins → KeepsCommit begins mid) → (HasCleanDisk new → KeepsCommit mid new)
      → HasCleanDisk new → IsTrue start.is_open → IsFor step start.now → KeepsCommit start new
  nothing_kept later kept ended clean is_open first =
      let early : HasCleanDisk mid = omega (arith, clean, later) in
      keeps_then start mid new (keeps_then start begins mid begun_keeps (kept early (begun_at is_open first))) (ended clean)

  nothing_left : Survives begins mid (λ _. ⊥) → Survives mid new (λ _. ⊥) → Survives start new (LeavesWritten step start)
  nothing_left one two =
      survives_then start mid new (λ _. ⊥) (λ _. ⊥) (LeavesWritten step start) (λ _ db none. absurd none) (λ _ db none. absurd none)
      (survives_more start begins mid begun_survives one) two

  -- a crash leaves what was written, or nothing of it
  left : Survives begins mid (λ _. ⊥) → Survives mid new (λ db. db ≡ mid.now.trees) → Done → Survives start new (LeavesWritten step start)
  left one two takes =
      survives_then start mid new (λ _. ⊥) (λ db. db ≡ mid.now.trees) (LeavesWritten step start) (λ _ db none. absurd none)
      (λ clean db same is_open first.
      let early : HasCleanDisk mid = omega (arith, clean, two.clean) in
      let has = (takes early (begun_at is_open first)).1 (begun_for first) in
      subst (λ trees. step.Has start.now.trees trees) (sym same)
      (subst (λ (s : State). step.Has s.now.trees mid.now.trees) is has))
      (survives_more start begins mid begun_survives one) two

  written : doubt mid.is_clean ≤ doubt new.is_clean → Done → HasCleanDisk new → Shows mid new mid.now mid.now false
      → Writes step start new
  written later takes clean shows =
      let early : HasCleanDisk mid = omega (arith, clean, later) in
      record {
        is_open = λ _. shows.is_open;
        schema = λ is_open first. ap (λ (db : Database). db.schema) shows.committed_is ∙ (takes early (begun_at is_open first)).0.schema;
        taken = λ is_open first.
            let has = (takes early (begun_at is_open first)).1 (begun_for first) in
            subst (λ (db : Database). step.Has start.now.trees db.trees) (sym shows.committed_is)
            (subst (λ (s : State). step.Has s.now.trees mid.now.trees) is has);
      }

pub returns-in_err-take_on-clause-ok : goal.returns-in_err-take_on-clause-ok
returns-in_err-take_on-clause-ok g c clean = IfOk-from_err c.from_residual.result _ c.from_residual.ensures.0

pub returns-in_err-take_on-clause-err : goal.returns-in_err-take_on-clause-err
returns-in_err-take_on-clause-err g c =
    let old = state g.S.Store c.args.conn.now in
    let mid = state g.S.Store c.take_on.new.tx.conn.now in
    let new = state g.S.Store c.drop-tx.new.self.0 in
    let kept : HasCleanDisk new → IsTrue old.is_open → IsFor g.T.Stage.step old.now → OnErr c.from_residual.result (KeepsCommit old new) =
    λ clean is_open first. on_err_from c.from_residual.result _
    (nothing_kept g.T.Stage.step old (state g.S.Store c.transaction-tx.result.conn.now) mid new (ap (state g.S.Store) c.transaction-tx.ensures.begun)
    c.drop-tx.ensures.survives.clean c.take_on.ensures.moves.kept (λ clean. unchanged_keeps mid new (inr (c.drop-tx.ensures.undone clean))) clean is_open first) in
    search rules

pub returns-in_err-take_on-clause-mode : goal.returns-in_err-take_on-clause-mode
returns-in_err-take_on-clause-mode g c = let ended = c.drop-tx.ensures.ended in search rules

pub returns-in_err-take_on-clause-survives : goal.returns-in_err-take_on-clause-survives
returns-in_err-take_on-clause-survives g c =
    let old = state g.S.Store c.args.conn.now in
    let mid = state g.S.Store c.take_on.new.tx.conn.now in
    let new = state g.S.Store c.drop-tx.new.self.0 in
    let survives : Survives old new (LeavesWritten g.T.Stage.step old) =
    nothing_left g.T.Stage.step old (state g.S.Store c.transaction-tx.result.conn.now) mid new (ap (state g.S.Store) c.transaction-tx.ensures.begun) c.take_on.ensures.moves.survives c.drop-tx.ensures.survives in
    search rules

pub returns-in_err-or_unavailable-clause-ok : goal.returns-in_err-or_unavailable-clause-ok
returns-in_err-or_unavailable-clause-ok g c clean = IfOk-from_err c.from_residual-in_err-or_unavailable.result _ c.from_residual-in_err-or_unavailable.ensures.0

pub returns-in_err-or_unavailable-clause-err : goal.returns-in_err-or_unavailable-clause-err
returns-in_err-or_unavailable-clause-err g c =
    let old = state g.S.Store c.args.conn.now in
    let mid = state g.S.Store c.take_on.new.tx.conn.now in
    let new = state g.S.Store c.commit.new.self.0 in
    let kept : HasCleanDisk new → IsTrue old.is_open → IsFor g.T.Stage.step old.now
    → OnErr c.from_residual-in_err-or_unavailable.result (KeepsCommit old new) =
    λ clean is_open first. on_err_from c.from_residual-in_err-or_unavailable.result _
    (nothing_kept g.T.Stage.step old (state g.S.Store c.transaction-tx.result.conn.now) mid new (ap (state g.S.Store) c.transaction-tx.ensures.begun)
    c.commit.ensures.survives.clean c.take_on.ensures.moves.kept
    (λ clean. failed_keeps mid new c.commit.result c.in_err-or_unavailable.ensures (c.commit.ensures.err clean)) clean is_open first) in
    search rules

pub returns-in_err-or_unavailable-clause-mode : goal.returns-in_err-or_unavailable-clause-mode
returns-in_err-or_unavailable-clause-mode g c = let ended = c.commit.ensures.ended in search rules

pub returns-in_err-or_unavailable-clause-survives : goal.returns-in_err-or_unavailable-clause-survives
returns-in_err-or_unavailable-clause-survives g c =
    let old = state g.S.Store c.args.conn.now in
    let mid = state g.S.Store c.take_on.new.tx.conn.now in
    let new = state g.S.Store c.commit.new.self.0 in
    let survives : Survives old new (LeavesWritten g.T.Stage.step old) =
    left g.T.Stage.step old (state g.S.Store c.transaction-tx.result.conn.now) mid new (ap (state g.S.Store) c.transaction-tx.ensures.begun)
    c.take_on.ensures.moves.survives c.commit.ensures.survives c.in_ok-take_on.ensures.moves.done in
    search rules

pub returns-clause-ok : goal.returns-clause-ok
returns-clause-ok g c =
    let old = state g.S.Store c.args.conn.now in
    let mid = state g.S.Store c.take_on.new.tx.conn.now in
    let new = state g.S.Store c.commit.new.self.0 in
    let writes : HasCleanDisk new → Writes g.T.Stage.step old new =
    λ clean. written g.T.Stage.step old (state g.S.Store c.transaction-tx.result.conn.now) mid new (ap (state g.S.Store) c.transaction-tx.ensures.begun)
    c.commit.ensures.survives.clean c.in_ok-take_on.ensures.moves.done clean (IfOk-at_ok _ c.in_ok-or_unavailable.ensures (c.commit.ensures.ok clean)).1 in
    search rules

pub returns-clause-err : goal.returns-clause-err
returns-clause-err g c clean is_open first = tt

pub returns-clause-mode : goal.returns-clause-mode
returns-clause-mode g c = let ended = c.commit.ensures.ended in search rules

pub returns-clause-survives : goal.returns-clause-survives
returns-clause-survives g c =
    let old = state g.S.Store c.args.conn.now in
    let mid = state g.S.Store c.take_on.new.tx.conn.now in
    let new = state g.S.Store c.commit.new.self.0 in
    let survives : Survives old new (LeavesWritten g.T.Stage.step old) =
    left g.T.Stage.step old (state g.S.Store c.transaction-tx.result.conn.now) mid new (ap (state g.S.Store) c.transaction-tx.ensures.begun)
    c.take_on.ensures.moves.survives c.commit.ensures.survives c.in_ok-take_on.ensures.moves.done in
    search rules
