-- What is read of a connection, call by call (profile).
use Rattle.std.specs.Prelude.{◌≡◌, ℕ, ◌<◌, ◌≤◌, Bool, false, ◌==◌, List, [], ◌∷◌, ◌++◌, length, Option}
use Rattle.std.specs.List.{concat}
use Rattle.std.specs.Io.KnownBytes.{Consumes}
use Rattle.mds_lines.specs.Reads.{Reads}

-- A call is needed: after what came before, up to so many more bytes are, and it brings no more than these.
pub record IsWanted (Wants : List ℕ → ℕ → Type 0) (before : List ℕ) (is_ended : Bool) (bytes : List ℕ) : Type 0 where
  pub count : ℕ
  pub wants : Wants before count
  pub some : 0 < count
  pub few : length bytes ≤ count
  pub goes_on : is_ended ≡ false

-- Each of the calls is needed. One that brought no bytes found the end, or failed: none comes after it.
abbrev pub AreWanted : (List ℕ → ℕ → Type 0) → List ℕ → Bool → List (List ℕ) → Type 0
AreWanted Wants before is_ended [] = Unit {0}
AreWanted Wants before is_ended (bytes ∷ more) =
    IsWanted Wants before is_ended bytes × AreWanted Wants (before ++ bytes) (length bytes == 0) more

-- whether the last of the calls brought no bytes
abbrev pub ended_after : Bool → List (List ℕ) → Bool
ended_after is_ended [] = is_ended
ended_after is_ended (bytes ∷ more) = ended_after (length bytes == 0) more

-- Calls led from one state of a source to another, and brought these bytes in all. Each of them was needed.
pub record HasRead {S : Type 0} (Wants : List ℕ → ℕ → Type 0) (gives : S → List ℕ → S → Type 0) (old new : S)
    (old_left new_left : Option (List ℕ)) (bytes : List ℕ) (is_ended : Bool) : Type 0 where
  pub calls : List (List ℕ)
  pub made : Reads gives old calls new
  pub wanted : AreWanted Wants [] false calls
  pub brought : concat calls ≡ bytes
  pub consumed : Consumes old_left new_left bytes
  pub ended : ended_after false calls ≡ is_ended
