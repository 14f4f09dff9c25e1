-- What is read from a source (profile).
use Rattle.std.specs.Prelude.{◌≡◌, ◌≢◌, ℕ, ◌≤◌, Bool, false, ◌==◌, List, [], ◌∷◌, ◌++◌, length, take, All, Result, Ok, Err}
use Rattle.mds_lines.specs.Lines.{line_feed, longest_line}

-- the bytes that a call brought to the start of a buffer: none if it failed
abbrev pub bytes_read : {E : Type 0} → Result ℕ E → List ℕ → List ℕ
bytes_read (Ok n) buffer = take n buffer
bytes_read (Err error) buffer = []

-- calls led from one state of a source to another, and brought these bytes, one call after the other
abbrev pub Reads : {S : Type 0} → (S → List ℕ → S → Type 0) → S → List (List ℕ) → S → Type 0
Reads gives old [] new = new ≡ old
Reads {S = S} gives old (bytes ∷ more) new = (next : S) × gives old bytes next × Reads gives next more new

-- A read is needed: the bytes in hand have no whole line, and aren't too long for one, and the source has not
-- ended.
pub record IsNeeded (in_hand : List ℕ) (is_ended : Bool) : Type 0 where
  pub no_line : All (λ byte. byte ≢ line_feed) in_hand
  pub no_fault : length in_hand ≤ longest_line
  pub goes_on : is_ended ≡ false

-- Each of the reads was needed. One that brought no bytes found the end, or failed: none comes after it.
abbrev pub AreNeeded : List ℕ → Bool → List (List ℕ) → Type 0
AreNeeded in_hand is_ended [] = Unit {0}
AreNeeded in_hand is_ended (bytes ∷ more) =
    IsNeeded in_hand is_ended × AreNeeded (in_hand ++ bytes) (length bytes == 0) more

-- the most bytes that are in hand at a time, and that one read asks for
abbrev pub block : ℕ
block = 131_072
