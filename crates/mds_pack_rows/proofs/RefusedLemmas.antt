-- A statement that the tables refuse changes nothing.
use Rattle.std.proofs.Common.{◌≡◌, inl, inr, ℕ, List, true, false, IfErr, IsTrue, Ok, Err, Result, refl, ap, ◌∙◌}
use Rattle.std.proofs.lemmas.Bool.{both_ways, cases_Bool}
use Rattle.sqlite.specs.State.{ExecutesIn, ExecutesInside, Fails, HasCleanDisk, IsNotRun, IsUnchanged, RunsCommand, State, shows_rows, store_error}
use Rattle.sqlite.specs.declared.error.Error.{Error}
use Rattle.sqlite_resolve.specs.declared.compiled.Compiled.{Compiled}
use Rattle.sqlite_trees.specs.declared.error.StoreError.{StoreError}
use Rattle.sqlite_trees.specs.declared.error.StoreError.TheVariants.{Broken, Corrupt, Full, Io, OutOfMemory, Unstorable}
use Rattle.sqlite_value.specs.Order.{Row}
use Rattle.mds_pack_rows.specs.FailureSteps.{is_store_error}

-- nothing is put, and the transaction goes on
pub record StaysAs (old new : State) : Type 0 where
  pub was_open : IsTrue new.is_open → IsTrue old.is_open
  pub is_open : IsTrue old.is_open → IsTrue new.is_open
  pub inside : new.in_transaction ≡ old.in_transaction
  pub now_is : IsTrue old.is_open → new.now ≡ old.now
  pub committed_is : IsTrue old.is_open → new.committed ≡ old.committed

tells_store : (cause : StoreError) → is_store_error (store_error cause) ≡ true
tells_store OutOfMemory = refl
tells_store Io = refl
tells_store Corrupt = refl
tells_store Full = refl
tells_store Broken = refl
tells_store Unstorable = refl

no_failure : (old new : State) (T : Type 0) (e : Error) {X : Type 0} → is_store_error e ≡ false → Fails old new T e → X
no_failure old new T e none h = absurd (both_ways _ none (ap is_store_error h.1 ∙ tells_store h.0))

stays : (old new : State) → IsUnchanged old new → StaysAs old new
stays old new same = record {
  was_open = λ _. same.0.was_open;
  is_open = λ _. same.0.is_open;
  inside = same.0.mode;
  now_is = λ _. same.0.now_is;
  committed_is = λ _. same.0.committed_is;
}

refused_command : (old new : State) (sql : List ℕ) (c : Compiled) (params : Row) (e : Error) → is_store_error e ≡ false
    → RunsCommand old new sql c params (Err e) → IsUnchanged old new
refused_command old new sql c params e none (inl refused) = refused.1
refused_command old new sql c params e none (inr failed) = no_failure old new _ e none failed

refused_stays : (sql : List ℕ) (params : Row) (old new : State) (e : Error) → is_store_error e ≡ false
    → ExecutesInside 0 sql params old new (Err e) → StaysAs old new
unfolding ExecutesIn IsNotRun
refused_stays sql params old new e none (inl (inl (inl unrun), ended)) = stays old new unrun.1
refused_stays sql params old new e none (inl (inl (inr failed), ended)) = no_failure old new ⊥ e none failed
refused_stays sql params old new e none (inl (inr (c, it, ran), ended)) =
    stays old new (elim (cases_Bool (shows_rows false c)) [
      | inl shows ↦ (rw shows at ran).1
      | inr runs ↦ refused_command old new sql c _ e none (rw runs at ran)
    ])
refused_stays sql params old new e none (inr ends) = stays old new ends.2

-- nor does one in a transaction that is over
pub untouched : (sql : List ℕ) (params : Row) (old new : State) (r : Result ℕ Error) → HasCleanDisk new → (old.in_transaction ≡ false → StaysAs old new)
    → (HasCleanDisk new → IsTrue old.in_transaction → ExecutesInside 0 sql params old new r)
    → IfErr r (λ e. is_store_error e ≡ false → StaysAs old new)
untouched sql params old new (Ok count) clean over runs = tt
untouched sql params old new (Err e) clean over runs = λ none.
    elim (cases_Bool (old.in_transaction)) [
      | inl inside ↦ refused_stays sql params old new e none (runs clean inside)
      | inr outside ↦ over outside
    ]

pub itself : (s : State) → StaysAs s s
itself s = record { was_open = λ o. o; is_open = λ o. o; inside = refl; now_is = λ _. refl; committed_is = λ _. refl }
