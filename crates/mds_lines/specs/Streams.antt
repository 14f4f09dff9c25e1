-- A read after the bytes that a buffer already has (profile).
use Rattle.std.specs.Prelude.{◌≡◌, ℕ, ◌+◌, List, ◌++◌, length, take, Option}
use Rattle.std.specs.Io.KnownBytes.{Consumes}

-- One call brought `count` bytes, and they are in the buffer after those it had.
pub record ReadsBehind {S : Type 0} (gives : S → List ℕ → S → Type 0) (old new : S)
    (old_left new_left : Option (List ℕ)) (held buffer : List ℕ) (count : ℕ) : Type 0 where
  pub bytes : List ℕ
  pub many : length bytes ≡ count
  pub placed : take (length held + count) buffer ≡ held ++ bytes
  pub consumed : Consumes old_left new_left bytes
  pub gave : gives old bytes new
