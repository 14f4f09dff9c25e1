-- What a call in a transaction does to a connection, whatever it is for (profile).
use Rattle.std.specs.Prelude.{◌≡◌, IfOk, IsTrue, OnOk, Result}
use Rattle.sqlite.specs.Schema.{Schema}
use Rattle.sqlite.specs.State.{HasCleanDisk, KeepsCommit, State, Survives}
use Rattle.sqlite_catalog.specs.Listing.{IsSound}

-- the connection is open over the tables of a schema
pub record IsAt (under : Schema) (state : State) : Type 0 where
  pub is_open : IsTrue state.is_open
  pub schema : state.now.schema ≡ under
  pub sound : IsSound under state.now.trees

-- A call in a transaction leads from the tables of one schema to those of another. The connection stays open, and the transaction under
-- way. It does this if it is Ok, and commits nothing, whatever it answers.
pub record Moves {X E : Type 0} (from to : Schema) (Done : X → Type 0) (old new : State) (result : Result X E) : Type 0 where
  pub was_open : HasCleanDisk new → IsTrue new.is_open → OnOk result (IsTrue old.is_open)
  pub is_open : HasCleanDisk new → IsTrue old.is_open → OnOk result (IsTrue new.is_open)
  pub inside : HasCleanDisk new → IsTrue old.in_transaction → OnOk result (IsTrue new.in_transaction)
  pub done : HasCleanDisk new → IsAt from old → IfOk result (λ x. IsAt to new × Done x)
  pub kept : HasCleanDisk new → IsAt from old → KeepsCommit old new
  pub survives : Survives old new (λ _. ⊥)

-- most calls change no table
abbrev pub Frames : {X E : Type 0} → Schema → (X → Type 0) → State → State → Result X E → Type 0
Frames under Done old new result = Moves under under Done old new result
