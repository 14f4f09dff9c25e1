-- The results of reading a file (profile).
use Rattle.std.specs.Prelude.{◌≡◌, ℕ, Bool, true, false, List, [], ◌∷◌, ◌++◌, Option, Some, None, Result, Ok, Err, MatchResult}
use Rattle.mds_records.specs.declared.file.FileFault.{FileFault}
use Rattle.mds_walk.specs.declared.fault.ReadFault.{ReadFault}
use Rattle.mds_walk.specs.declared.fault.ReadFault.TheVariants as read
use Rattle.mds_walk.specs.declared.fault.TakeFault.{TakeFault}
use Rattle.mds_walk.specs.declared.fault.TakeFault.TheVariants.{File, Memory}
use Rattle.mds_walk.specs.declared.walk.Walk.{Walk}

-- the result is that the source failed
abbrev pub is_read_fault : {T : Type 0} → Result T ReadFault → Bool
is_read_fault (Ok done) = false
is_read_fault (Err read.Read) = true
is_read_fault (Err fault) = false

-- a line is refused for the fault that it has, or because memory ran out, and then `lack` holds
abbrev pub IsStop : Option FileFault → Type 0 → TakeFault → Type 0
IsStop found lack (File fault) = found ≡ Some fault
IsStop found lack Memory = lack

-- an end is refused only for the fault that it has
abbrev pub IsEndFault : Option FileFault → TakeFault → Type 0
IsEndFault found answer = IsStop found ⊥ answer

-- a text is refused for the fault that it has, or because memory ran out
abbrev pub IsRefusal : Option FileFault → TakeFault → Type 0
IsRefusal found answer = IsStop found (Unit {0}) answer

-- A line that has this fault, if it has one, is taken or refused with it. Memory may run out if `may_lack` holds.
abbrev pub Takes : {T : Type 0} {U : Type 0} → (T → List (List ℕ) → Type 0) → (List (List ℕ) → List ℕ → Option FileFault → Type 0)
    → List (List ℕ) → List ℕ → Option FileFault → Result U TakeFault → T → Type 0
Takes taken may_lack before line found result new = MatchResult result
    (λ _. (found ≡ None) × taken new (before ++ line ∷ [])) (IsStop found (may_lack before line found))

-- A walk has taken these lines, and met no fault.
pub record HasWalked {T : Type 0} (taken : T → List (List ℕ) → Type 0) (walk : Walk T) (before : List (List ℕ)) : Type 0 where
  pub faultless : walk.fault ≡ None
  pub taken_is : taken walk.sink before

-- the fault that a walk has returned, if any
abbrev pub fault_answered : {T : Type 0} → Walk T → Option TakeFault
fault_answered walk = walk.fault
