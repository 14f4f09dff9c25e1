-- What was made from the calls that read a source (profile).
use Rattle.std.specs.Prelude.{◌≡◌, ◌≢◌, ◌⊎◌, ℕ, Bool, false, ◌==◌, length, List, [], ◌∷◌, ◌++◌, Option, Some, None, Result, Ok, Err}
use Rattle.std.specs.List.{concat}
use Rattle.mds_records.specs.declared.file.FileFault.{FileFault}
use Rattle.mds_walk.specs.Faults.{Judge}
use Rattle.mds_walk.specs.Feeding.{MayLackFor, MayLackHere}
use Rattle.mds_walk.specs.SoFar.{open_piece}
use Rattle.mds_walk.specs.declared.fault.ReadFault.{ReadFault}
use Rattle.mds_walk.specs.declared.fault.ReadFault.TheVariants as read

-- the last of the calls brought nothing: it met the end
abbrev pub MeetsEnd : List (List ℕ) → Type 0
MeetsEnd given = (before : List (List ℕ)) × (given ≡ before ++ [] ∷ [])

-- Each of these calls was needed: what came before it has no fault, and the source had not ended. A call that brought nothing met
-- the end, or failed: none comes after it.
abbrev pub AreCallsNeeded : (List ℕ → Option FileFault) → List ℕ → Bool → List (List ℕ) → Type 0
AreCallsNeeded found came is_ended [] = Unit {0}
AreCallsNeeded found came is_ended (bytes ∷ more) =
    (found came ≡ None) × (is_ended ≡ false) × AreCallsNeeded found (came ++ bytes) (length bytes == 0) more

-- The fault is of all that the calls brought, up to the end. Or it is that of every text that begins with what they brought.
abbrev pub IsFaultOfGiven : (List ℕ → Option FileFault) → List (List ℕ) → FileFault → Type 0
IsFaultOfGiven found given fault =
    (MeetsEnd given × (found (concat given) ≡ Some fault)) ⊎ ((more : List ℕ) → found (concat given ++ more) ≡ Some fault)

-- Memory may run out for what the calls brought: for what the last of them brought, after the others. If that met the end, it is
-- for a last line without its line feed.
abbrev pub MayLackGiven : (List (List ℕ) → List ℕ → Option FileFault → Type 0) → Judge → List (List ℕ) → Type 0
MayLackGiven may_lack judge given =
    ((before : List (List ℕ)) × (piece : List ℕ) × (given ≡ before ++ piece ∷ []) × MayLackFor may_lack judge (concat before) piece)
    ⊎ (MeetsEnd given × (open_piece (concat given) ≢ []) × MayLackHere may_lack judge (concat given))

-- The output is made of all that the calls brought, up to the end, and that has no fault. Otherwise the fault is of what they
-- brought, or memory ran out for that. If the source failed, nothing is said.
abbrev pub IsOfGiven : {T : Type 0} → (T → List ℕ → Type 0) → (List ℕ → Option FileFault) → (List (List ℕ) → Type 0) → List (List ℕ)
    → Result T ReadFault → Type 0
IsOfGiven Makes found MayLack given (Ok out) = MeetsEnd given × (found (concat given) ≡ None) × Makes out (concat given)
IsOfGiven Makes found MayLack given (Err (read.File fault)) = IsFaultOfGiven found given fault
IsOfGiven Makes found MayLack given (Err read.Read) = Unit {0}
IsOfGiven Makes found MayLack given (Err read.Memory) = MayLack given
