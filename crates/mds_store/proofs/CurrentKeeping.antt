-- What a question and a commit do to a connection that holds a store which `adopt` takes.
use Rattle.std.specs.Prelude.{◌≡◌, Ok, Err, IsTrue, OnErr, OnOk, Result}
use Rattle.std.proofs.Common.{◌∙◌, arith, inl, inr, subst, sym}
use Rattle.sqlite.specs.Effect.{Database}
use Rattle.sqlite.specs.State.{HasCleanDisk, IsLive, KeepsCommit, State, Survives}
use Rattle.sqlite_catalog.specs.Listing.{IsSound}
use Rattle.sqlite_trees.specs.Tree.{Trees}
use Rattle.mds_keeper.specs.declared.additions.Additions.{Additions}
use Rattle.mds_tables.specs.Making.{KeepsNothingOf}
use Rattle.mds_tables.specs.Queries.{Answers}
use Rattle.mds_tables.specs.Stores.{AddsOf, CommitsOf, HoldsOf, LeavesAddedOf}
use Rattle.mds_pack_rows.specs.Current.{current_layout, current_schema}
use Rattle.mds_commit.specs.FormPutting.{GainsForms}
use Rattle.mds_store.specs.Daily.{AreBare}
use Rattle.mds_store.specs.CurrentStore.{AreCurrent, HoldsCurrent, IsCurrentStore}
use Rattle.mds_store.proofs.CurrentAdopting.{of_current}

pub as_store : {s : State} → HoldsCurrent s → HoldsOf current_layout s
as_store holds clean is_open = (holds.committed clean is_open).store

-- one that keeps nothing has no row in any table but mds_schema
pub of_nothing : (db : Database) → KeepsNothingOf current_layout db → IsCurrentStore db
of_nothing db none = record { store = none.store; bare = (none.bare.1.0, none.bare.1.1.0) }

-- a crash leaves what is committed on an open connection
pub of_open : (s : State) → IsLive s → (IsTrue s.is_open → (trees : Trees) → s.may_leave trees → trees ≡ s.committed.trees)
    → (HasCleanDisk s → IsTrue s.is_open × IsCurrentStore s.committed) → HoldsCurrent s
of_open s live settled holds = record {
  committed = λ clean _. (holds clean).1;
  left = λ clean trees may.
      let it = holds clean in subst AreCurrent (sym (settled it.0 trees may)) (of_current s.committed it.1);
  sound = λ clean trees may.
      let it = holds clean in
      let obeys : IsSound current_schema s.committed.trees = subst (λ schema. IsSound schema s.committed.trees) it.1.store.schema (live it.0).1 in
      ∣ subst (IsSound current_schema) (sym (settled it.0 trees may)) obeys ∣₁;
}

was_clean : {old new : State} (Commits : Trees → Type 0) → Survives old new Commits → HasCleanDisk new → HasCleanDisk old
was_clean Commits survives clean = omega (arith, survives.clean, clean)

-- what was not changed is what it was
stays_current : (old new : State) → HoldsCurrent old → HasCleanDisk old → KeepsCommit old new → IsTrue new.is_open → IsCurrentStore new.committed
stays_current old new holds clean kept is_open =
    subst IsCurrentStore (sym (kept.committed is_open)) (holds.committed clean (kept.was_open is_open))

-- a question changes nothing
pub current_on : {A E : Type 0} {old new : State} {r : Result A E} {Tells : Trees → A → Type 0} → HoldsCurrent old
    → Answers (HoldsOf current_layout) old new r Tells → HoldsCurrent new
current_on {old = old} {new = new} holds answered =
    let store = as_store holds in
    let survives = answered.survives store in
    record {
      committed = λ clean. stays_current old new holds (was_clean _ survives clean) (answered.kept clean store);
      left = λ clean trees may. elim (survives.crash clean trees may) [
        | inl was ↦ holds.left (was_clean _ survives clean) trees was
        | inr none ↦ absurd none
      ];
      sound = λ clean trees may. elim (survives.crash clean trees may) [
        | inl was ↦ holds.sound (was_clean _ survives clean) trees was
        | inr none ↦ absurd none
      ];
    }

-- a commit puts no row into either table
still_bare : (old new : Trees) (additions : Additions) → AddsOf GainsForms old new additions → AreBare old → AreBare new
still_bare old new additions adds bare = (adds.unfilled ∙ bare.0, adds.undated ∙ bare.1)

module _ {A E : Type 0} {old new : State} {additions : Additions} (holds : HoldsCurrent old)
    (survives : Survives old new (LeavesAddedOf current_layout GainsForms old additions)) where
  committed : (r : Result A E) → HasCleanDisk old → OnOk r (CommitsOf current_layout GainsForms old new additions)
      → OnErr r (KeepsCommit old new) → IsTrue new.is_open → IsCurrentStore new.committed
  committed (Ok x) clean made kept is_open = record {
    store = made.store;
    bare = still_bare old.committed.trees new.committed.trees additions made.rows (holds.committed clean made.was_open).bare;
  }
  committed (Err e) clean made kept is_open = stays_current old new holds clean kept is_open

  -- it is made, or nothing is changed
  pub current_with : (r : Result A E) → (HasCleanDisk new → OnOk r (CommitsOf current_layout GainsForms old new additions))
      → (HasCleanDisk new → OnErr r (KeepsCommit old new)) → HoldsCurrent new
  current_with r ok err = record {
    committed = λ clean. committed r (was_clean _ survives clean) (ok clean) (err clean);
    left = λ clean trees may. elim (survives.crash clean trees may) [
      | inl was ↦ holds.left (was_clean _ survives clean) trees was
      | inr adds ↦ record {
        version = adds.store.version;
        bare = still_bare old.committed.trees trees additions adds.rows
            (holds.committed (was_clean _ survives clean) adds.was_open).bare;
      }
    ];
    sound = λ clean trees may. elim (survives.crash clean trees may) [
      | inl was ↦ holds.sound (was_clean _ survives clean) trees was
      | inr adds ↦ ∣ adds.sound ∣₁
    ];
  }
