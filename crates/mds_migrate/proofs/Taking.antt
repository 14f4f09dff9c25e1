-- A step that is taken with a store that is held.
use Rattle.std.proofs.Common.{◌≡◌, inl, inr, IsTrue, sym, subst, ◌∙◌, arith}
use Rattle.sqlite.specs.Effect.{Database, IsDatabase}
use Rattle.sqlite.specs.State.{HasCleanDisk, KeepsCommit, State, Survives}
use Rattle.sqlite.proofs.InsideLemmas.{keeps_then, unchanged_keeps}
use Rattle.sqlite.proofs.StateLemmas.{survives_then}
use Rattle.sqlite_catalog.specs.Listing.{IsSound}
use Rattle.sqlite_trees.specs.Tree.{Trees}
use Rattle.mds_tables.specs.Stores.{IsReady}
use Rattle.mds_migrate.specs.Migrated.{HoldsFrom, IsFor, IsTaken, LeavesTaken, LeavesWritten, Step, Writes}

module _ (step : Step) (old mid : State) (ready : HasCleanDisk mid → IsReady old mid) (one : Survives old mid (λ _. ⊥)) (holds : HoldsFrom step old) where
  module _ (clean : HasCleanDisk mid) where
    now_is : mid.now ≡ old.committed
    now_is = (ready clean).same.0.now_is ∙ (ready clean).settled

    kept : step.From old.committed
    kept = holds (omega (arith, one.clean)) (ready clean).same.0.was_open

    pub is_for : IsFor step mid.now
    is_for =
        let whole : IsDatabase old.committed = subst IsDatabase (ready clean).settled (ready clean).sound in
        subst (IsFor step) (sym now_is)
        (record { store = kept; sound = subst (λ schema. IsSound schema old.committed.trees) (step.fits old.committed kept) whole })

    -- what is made of what the transaction saw is made of what was kept
    from_kept : (left : Trees) → step.Has mid.now.trees left → step.Has old.committed.trees left
    from_kept left has = subst (λ (db : Database). step.Has db.trees left) now_is has

  -- what a crash may leave
  pub leaves : (new : State) → Survives mid new (LeavesWritten step mid) → Survives old new (LeavesTaken step old)
  leaves new two = survives_then old mid new (λ _. ⊥) (LeavesWritten step mid) (LeavesTaken step old) (λ _ db none. absurd none) (λ clean left has.
      let early : HasCleanDisk mid = omega (arith, two.clean) in
      record {
        was_open = (ready early).same.0.was_open;
        was = kept early;
        taken = from_kept early left (has (ready early).same.0.is_open (is_for early));
      }) one two

  -- an answer Ok says that the step is taken
  pub takes : (new : State) → HasCleanDisk mid → Writes step mid new → IsTaken step old new
  takes new early done =
      let o = (ready early).same.0.is_open in
      record {
        was_open = (ready early).same.0.was_open;
        was = kept early;
        is_open = done.is_open o;
        schema = done.schema o (is_for early);
        taken = from_kept early new.committed.trees (done.taken o (is_for early));
      }

  -- and one with an error that all is as it was
  pub keeps_one : (new : State) → HasCleanDisk mid → (IsTrue mid.is_open → IsFor step mid.now → KeepsCommit mid new) → KeepsCommit old new
  keeps_one new early stays =
      keeps_then old mid new (unchanged_keeps old mid (inl (ready early).same)) (stays (ready early).same.0.is_open (is_for early))

-- a crash that leaves nothing new leaves what it may
pub leaves_none : (old new : State) (May : Trees → Type 0) → Survives old new (λ _. ⊥) → Survives old new May
leaves_none old new May one = record {
  clean = one.clean;
  shield = one.shield;
  counts = one.counts;
  limit = one.limit;
  closes = one.closes;
  crash = λ clean db may. elim (one.crash clean db may) [ inl was ↦ inl was | inr none ↦ absurd none ];
}
