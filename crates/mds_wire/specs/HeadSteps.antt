-- What a call that reads a head does.
use Rattle.std.specs.Prelude.{◌≡◌, ℕ, ◌+◌, ◌≤◌, Bool, true, false, List, length, take, Option, Result, Ok, Err, ⊤, ◌<◌}
use Rattle.std.specs.Io.KnownBytes.{IsAtEnd}
use Rattle.httparse.specs.declared.spans.HeaderSpan.{HeaderSpan}
use Rattle.mds_wire.specs.declared.head.HeadRead.{HeadRead}
use Rattle.mds_wire.specs.declared.head.HeadFault.{HeadFault}
use Rattle.mds_wire.specs.declared.head.HeadFault.TheVariants.{Read, Closed, Bad, TooLarge}
use Rattle.mds_wire.specs.Calls.{HasRead}
use Rattle.mds_wire.specs.Heads.{longest_head, IsOpenHead, IsNoHead, IsWhole}

-- after the beginning of a head, the rest of the room is needed
abbrev pub WantsHead : List ℕ → ℕ → Type 0
WantsHead bytes count = IsOpenHead bytes × (length bytes + count ≡ longest_head)

-- what the bytes are that were read, by the result
abbrev pub HeadAnswer : Option (List ℕ) → List ℕ → List HeaderSpan → Result HeadRead HeadFault → Type 0
HeadAnswer left bytes fields (Ok read) = (read.filled ≡ length bytes) × IsWhole bytes fields read.spans
HeadAnswer left bytes fields (Err Read) = ⊤
HeadAnswer left bytes fields (Err Closed) = IsAtEnd left × IsOpenHead bytes × (length bytes < longest_head)
HeadAnswer left bytes fields (Err Bad) = IsNoHead bytes
HeadAnswer left bytes fields (Err TooLarge) = (length bytes ≡ longest_head) × IsOpenHead bytes

-- whether the last call brought no bytes
abbrev pub is_head_cut : Result HeadRead HeadFault → Bool
is_head_cut (Ok read) = false
is_head_cut (Err Read) = true
is_head_cut (Err Closed) = true
is_head_cut (Err Bad) = false
is_head_cut (Err TooLarge) = false

-- these bytes were read to the front of the buffer, and the result is the one for them
pub record ReadsHead {S : Type 0} (gives : S → List ℕ → S → Type 0) (old new : S) (old_left new_left : Option (List ℕ))
    (buffer : List ℕ) (fields : List HeaderSpan) (answer : Result HeadRead HeadFault) : Type 0 where
  pub bytes : List ℕ
  pub few : length bytes ≤ longest_head
  pub kept : take (length bytes) buffer ≡ bytes
  pub read : HasRead WantsHead gives old new old_left new_left bytes (is_head_cut answer)
  pub is : HeadAnswer new_left bytes fields answer
