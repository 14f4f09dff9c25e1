use Rattle.std.proofs.Common.{◌≡◌, ◌∙◌, false, ap, inl, refl, subst, sym, true, arith, rules}
use Rattle.sqlite.specs.Effect.{Database}
use Rattle.sqlite.specs.Held.{state}
use Rattle.sqlite.specs.State.{HasCleanDisk, KeepsCommit, Shows, State, Survives}
use Rattle.sqlite.proofs.StateLemmas.{survives_then}
use Rattle.mds_keeper.specs.declared.additions.Additions.{Additions}
use Rattle.mds_tables.proofs.CallLemmas.{survives_more}
use Rattle.mds_tables.specs.Frames.{IsAt}
use Rattle.mds_tables.specs.Writing.{HasAddedOf, LeavesWrittenOf, WritesOf}
use Rattle.mds_pack_rows.specs.Current.{current_layout, current_schema}
use Rattle.mds_commit.specs.FormPutting.{GainsForms}
use Rattle.mds_commit.proofs.CommitLemmas.{at_begun}
use Rattle.mds_commit.proofs.committing.write.Goals as goal

-- a transaction that begins, writes and ends
module _ (a b d e : State) (additions : Additions) (begun : b ≡ record a { in_transaction = true }) (one : Survives b d (λ _. ⊥)) where
  begins : Survives a b (λ _. ⊥)
  begins = subst (λ s. Survives a s (λ _. ⊥)) (sym begun) (record {
    clean = omega arith;
    shield = λ h. h;
    counts = omega arith;
    limit = refl;
    closes = λ _ o. inl o;
    crash = λ _ db may. inl may;
  })

  -- an end that isn't the commit leaves nothing
  left : Survives d e (λ _. ⊥) → Survives a e (LeavesWrittenOf current_layout GainsForms a additions)
  left two =
      survives_then a d e (λ _. ⊥) (λ _. ⊥) (LeavesWrittenOf current_layout GainsForms a additions) (λ _ db none. absurd none) (λ _ db none. absurd none)
      (survives_more a b d begins one) two

  -- the commit leaves what was put
  module _ (put : HasCleanDisk d → IsAt current_schema b → IsAt current_schema d × HasAddedOf current_layout GainsForms additions b.now.trees d.now.trees)
      (two : Survives d e (λ db. db ≡ d.now.trees)) where
    module _ (clean : HasCleanDisk e) (at : IsAt current_schema a) where
      done : IsAt current_schema d × HasAddedOf current_layout GainsForms additions b.now.trees d.now.trees
      done = put (omega (arith, clean, two.clean)) (at_begun a b begun at)

      all_put : HasAddedOf current_layout GainsForms additions a.now.trees d.now.trees
      all_put = subst (λ (s : State). HasAddedOf current_layout GainsForms additions s.now.trees d.now.trees) begun done.1

    wrote : HasCleanDisk e → Shows d e d.now d.now false → WritesOf current_layout GainsForms a e additions
    wrote clean shown = record {
      is_open = λ o. shown.is_open;
      schema = λ o has sound.
          ap (λ (db : Database). db.schema) shown.committed_is ∙ (done clean (record { is_open = o; schema = has; sound = sound })).0.schema;
      added = λ o has sound.
          subst (λ (db : Database). HasAddedOf current_layout GainsForms additions a.now.trees db.trees) (sym shown.committed_is)
          (all_put clean (record { is_open = o; schema = has; sound = sound }));
    }

    leaves : Survives a e (LeavesWrittenOf current_layout GainsForms a additions)
    leaves =
        survives_then a d e (λ _. ⊥) (λ db. db ≡ d.now.trees) (LeavesWrittenOf current_layout GainsForms a additions) (λ _ db none. absurd none)
        (λ clean db same o has sound. subst (HasAddedOf current_layout GainsForms additions a.now.trees) (sym same)
        (all_put clean (record { is_open = o; schema = has; sound = sound })))
        (survives_more a b d begins one) two

pub returns-in_err-put_additions-clause-err : goal.returns-in_err-put_additions-clause-err
returns-in_err-put_additions-clause-err g c clean at =
    let begun = state g.S.Store c.transaction-tx.result.conn.now in
    let mid = state g.S.Store c.put_additions.new.tx.conn.now in
    let kept : HasCleanDisk mid → KeepsCommit begun mid =
    λ clean. c.put_additions.ensures.frames.kept clean (at_begun _ begun (ap (state g.S.Store) c.transaction-tx.ensures.begun) at) in
    search rules

pub returns-in_err-or_unavailable-clause-err : goal.returns-in_err-or_unavailable-clause-err
returns-in_err-or_unavailable-clause-err g c clean at =
    let begun = state g.S.Store c.transaction-tx.result.conn.now in
    let mid = state g.S.Store c.put_additions.new.tx.conn.now in
    let kept : HasCleanDisk mid → KeepsCommit begun mid =
    λ clean. c.put_additions.ensures.frames.kept clean (at_begun _ begun (ap (state g.S.Store) c.transaction-tx.ensures.begun) at) in
    search rules

pub returns-in_err-put_additions-clause-survives : goal.returns-in_err-put_additions-clause-survives
returns-in_err-put_additions-clause-survives g c =
    let start = state g.S.Store c.args.conn.now in
    let new = state g.S.Store c.drop-tx.new.self.0 in
    let made : Survives start new (LeavesWrittenOf current_layout GainsForms start c.args.additions.now) =
    left start (state g.S.Store c.transaction-tx.result.conn.now) (state g.S.Store c.put_additions.new.tx.conn.now) new c.args.additions.now
    (ap (state g.S.Store) c.transaction-tx.ensures.begun) c.put_additions.ensures.frames.survives c.drop-tx.ensures.survives in
    search rules

pub returns-in_err-or_unavailable-clause-survives : goal.returns-in_err-or_unavailable-clause-survives
returns-in_err-or_unavailable-clause-survives g c =
    let start = state g.S.Store c.args.conn.now in
    let new = state g.S.Store c.commit.new.self.0 in
    let made : Survives start new (LeavesWrittenOf current_layout GainsForms start c.args.additions.now) =
    leaves start (state g.S.Store c.transaction-tx.result.conn.now) (state g.S.Store c.put_additions.new.tx.conn.now) new c.args.additions.now
    (ap (state g.S.Store) c.transaction-tx.ensures.begun) c.put_additions.ensures.frames.survives c.in_ok-put_additions.ensures.frames.done c.commit.ensures.survives in
    search rules

pub returns-clause-ok : goal.returns-clause-ok
returns-clause-ok g c =
    let start = state g.S.Store c.args.conn.now in
    let new = state g.S.Store c.commit.new.self.0 in
    let done : HasCleanDisk new → WritesOf current_layout GainsForms start new c.args.additions.now =
    λ clean. wrote start (state g.S.Store c.transaction-tx.result.conn.now) (state g.S.Store c.put_additions.new.tx.conn.now) new c.args.additions.now
    (ap (state g.S.Store) c.transaction-tx.ensures.begun) c.put_additions.ensures.frames.survives c.in_ok-put_additions.ensures.frames.done c.commit.ensures.survives clean
    (rw c.in_ok-or_unavailable.ensures at (c.commit.ensures.ok clean)).1 in
    search rules

pub returns-clause-survives : goal.returns-clause-survives
returns-clause-survives g c =
    let start = state g.S.Store c.args.conn.now in
    let new = state g.S.Store c.commit.new.self.0 in
    let made : Survives start new (LeavesWrittenOf current_layout GainsForms start c.args.additions.now) =
    leaves start (state g.S.Store c.transaction-tx.result.conn.now) (state g.S.Store c.put_additions.new.tx.conn.now) new c.args.additions.now
    (ap (state g.S.Store) c.transaction-tx.ensures.begun) c.put_additions.ensures.frames.survives c.in_ok-put_additions.ensures.frames.done c.commit.ensures.survives in
    search rules
