-- What a query does to a connection, and what it finds in the tables (profile).
use Rattle.std.specs.Prelude.{◌≡◌, ◌≢◌, List, Result, false, IfOk, OnErr, OnOk}
use Rattle.std.specs.declared.alloc.Global.{Global}
use Rattle.std.specs.declared.vec.Vec.{Vec}
use Rattle.sqlite.specs.declared.error.Error.{Error}
use Rattle.sqlite.specs.State.{HasCleanDisk, KeepsCommit, State, Survives}
use Rattle.sqlite_trees.specs.Tree.{Trees}
use Rattle.sqlite_value.specs.Order.{Row}
use Rattle.mds_tables.specs.Layouts.{Layout}
use Rattle.mds_tables.specs.Stores.{AreOpen, ChangesNothing, FindsOf}
use Rattle.mds_tables.specs.Tables.{schema_with}

-- One SQL statement over the tables of a layout, whose rows show this of the trees. It changes nothing.
pub record QueriesOf (layout : Layout) (old new : State) (result : Result (Vec Row Global) Error) (Shows : Trees → List Row → Type 0) : Type 0 where
  pub ok : HasCleanDisk new → IfOk result (λ rows. FindsOf layout old new (λ trees. Shows trees rows.items))
  pub err : HasCleanDisk new → old.now.schema ≡ schema_with layout.more → OnErr result (ChangesNothing old new)
  pub mode : old.in_transaction ≡ false → new.in_transaction ≡ false
  pub survives : Survives old new (λ _. old.now.schema ≢ schema_with layout.more)

-- A question to what is held, whose answer says this of the committed trees. It changes nothing. Only an open
-- connection answers it, and none is left in a transaction.
pub record Answers {A E : Type 0} (IsHeld : State → Type 0) (old new : State) (result : Result A E) (Tells : Trees → A → Type 0) : Type 0 where
  pub found : HasCleanDisk new → IsHeld old → IfOk result (Tells old.committed.trees)
  pub «open» : HasCleanDisk new → IsHeld old → OnOk result (AreOpen old new)
  pub kept : HasCleanDisk new → IsHeld old → KeepsCommit old new
  pub mode : new.in_transaction ≡ false
  pub survives : IsHeld old → Survives old new (λ _. ⊥)
