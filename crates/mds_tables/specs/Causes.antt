-- Why a call on a store fails (profile), in the library's words.
use Rattle.std.specs.Prelude.{◌≡◌, ◌⊎◌, ⊤, IsSome}
use Rattle.sqlite.specs.declared.error.Error.{Error}
use Rattle.sqlite.specs.declared.error.Error.TheVariants.{SqliteFailure}
use Rattle.sqlite.specs.declared.error.ErrorCode.TheVariants.{OperationInterrupted}
use Rattle.sqlite.specs.State.{HasCause, State, store_error}
use Rattle.sqlite_trees.specs.declared.error.StoreError.{StoreError}
use Rattle.sqlite_trees.specs.declared.error.StoreError.TheVariants.{OutOfMemory}

-- What may cause a failure of the store between two moments. The disk failed or refused, the store was shut before, or
-- something is too big to be kept. No state shows that memory ran out, so nothing is asked of that failure.
abbrev pub IsBehind : State → State → Type 0 → StoreError → Type 0
IsBehind old new too_big OutOfMemory = ⊤
IsBehind old new too_big cause = HasCause old new too_big cause

-- the store failed, with its error, and with a cause
abbrev pub StoreFails : State → State → Type 0 → Error → Type 0
StoreFails old new too_big e = (cause : StoreError) × (e ≡ store_error cause) × IsBehind old new too_big cause

-- a statement would have taken more steps than the connection allows
abbrev pub IsCutOff : State → Error → Type 0
IsCutOff s e = (e ≡ SqliteFailure OperationInterrupted) × IsSome s.step_limit

-- The store failed, and nothing was too big. Or there is a limit of steps, and it was reached.
abbrev pub HasFailed : State → State → Error → Type 0
HasFailed old new e = StoreFails old new ⊥ e ⊎ IsCutOff old e
