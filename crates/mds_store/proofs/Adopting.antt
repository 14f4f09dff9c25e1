-- Whether a database that has the tables of a store is one, from what was asked of it.
use Rattle.std.specs.Prelude.{◌≡◌, ℤ, pos, List, [], ◌∷◌, IsTrue}
use Rattle.std.proofs.Common.{sym, ap, subst, ◌∙◌, arith}
use Rattle.sqlite.specs.Effect.{Database}
use Rattle.sqlite.specs.State.{HasCleanDisk, KeepsCommit, State, Survives}
use Rattle.mds_tables.specs.Layouts.{Layout}
use Rattle.mds_tables.specs.Stores.{AreOpen, HoldsOf, HoldsTablesOf, IsStoreOf, versions_said}
use Rattle.mds_store.specs.Starting.{IsAdopted}

-- what its mds_schema says
abbrev pub said : Database → List ℤ
said db = versions_said db.trees

module _ (layout : Layout) (old new : State) (held : HoldsTablesOf layout old) (survives : Survives old new (λ _. ⊥))
    (kept : HasCleanDisk new → KeepsCommit old new) where
  a_store : HasCleanDisk new → IsTrue old.is_open → said old.committed ≡ pos layout.number ∷ [] → IsStoreOf layout old.committed
  a_store clean was_open says = record { schema = held (omega (arith, survives.clean)) was_open; version = says }

  pub is_adopted : HasCleanDisk new → AreOpen old new → said old.committed ≡ pos layout.number ∷ [] → IsAdopted layout old new
  is_adopted clean are_open says = record {
    was_open = are_open.was_open;
    is_open = are_open.is_open;
    store = a_store clean are_open.was_open says;
    same = (kept clean).committed are_open.is_open;
  }

  pub still_holds : (HasCleanDisk new → said old.committed ≡ pos layout.number ∷ []) → HoldsOf layout new
  still_holds says clean is_open =
      subst (IsStoreOf layout) (sym ((kept clean).committed is_open)) (a_store clean ((kept clean).was_open is_open) (says clean))

  pub is_none : HasCleanDisk new → (IsTrue old.is_open → old.now ≡ old.committed) → ¬ (said old.committed ≡ pos layout.number ∷ [])
      → IsTrue new.is_open → ¬ IsStoreOf layout old.now
  is_none clean settled other is_open store =
      other (ap said (sym (settled ((kept clean).was_open is_open))) ∙ store.version)
