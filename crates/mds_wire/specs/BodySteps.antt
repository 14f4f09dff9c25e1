-- What calls do that feed a body. Its first bytes came with the head, and the others are read.
use Rattle.std.specs.Prelude.{◌≡◌, ℕ, ◌+◌, ◌<◌, ◌≤◌, Bool, true, false, List, [], ◌++◌, length, Result, Ok, Err, ⊤, Option}
use Rattle.std.specs.Io.KnownBytes.{Consumes, IsAtEnd}
use Rattle.mds_wire.specs.declared.body.BodyFault.{BodyFault}
use Rattle.mds_wire.specs.declared.body.BodyFault.TheVariants.{Read, Closed, Unavailable}
use Rattle.mds_wire.specs.declared.route.Route.{Route}
use Rattle.mds_wire.specs.Calls.{HasRead}
use Rattle.mds_wire.specs.Judging.{longest_body}
use Rattle.mds_wire.specs.Meaning.{TakesOf}

-- the rest of the body is needed
abbrev pub WantsBody : List ℕ → ℕ → List ℕ → ℕ → Type 0
WantsBody front size bytes count = length front + length bytes + count ≡ size

-- whether the last call brought no bytes
abbrev pub is_body_cut : {A : Type 0} → Result A BodyFault → Bool
is_body_cut (Ok done) = false
is_body_cut (Err Read) = true
is_body_cut (Err Closed) = true
is_body_cut (Err Unavailable) = false

-- what is said of a body: the route, target and size for which it was begun, and what it was fed
abbrev pub HoldsOf : Type 0 → Type 1
HoldsOf B = B → Route → (target : List ℕ) → (size : ℕ) → List ℕ → Type 0

module _ {B : Type 0} (Holds : HoldsOf B) where
  -- A body was fed these bytes, after any earlier ones. Together they are no more than it has.
  abbrev pub IsFed : B → B → List ℕ → Type 0
  IsFed old new bytes = (route : Route) (target : List ℕ) (size : ℕ) (before : List ℕ) → Holds old route target size before
      → length (before ++ bytes) ≤ size → size ≤ longest_body → Holds new route target size (before ++ bytes)

-- `Takes` says what takes memory.
module _ {B : Type 0} (Holds : HoldsOf B) (Takes : TakesOf) where
  -- A body wasn't fed this piece, which takes memory after what it had been fed.
  abbrev pub IsUnfedPiece : B → List ℕ → Type 0
  IsUnfedPiece old piece = (route : Route) (target : List ℕ) (size : ℕ) (before : List ℕ) → Holds old route target size before
      → length (before ++ piece) ≤ size → size ≤ longest_body → Takes route target size before piece

  -- It wasn't fed these bytes: their last piece takes memory after the earlier ones.
  abbrev pub IsUnfed : B → List ℕ → Type 0
  IsUnfed old bytes = (route : Route) (target : List ℕ) (size : ℕ) (before : List ℕ) → Holds old route target size before
      → length (before ++ bytes) ≤ size → size ≤ longest_body
      → (came : List ℕ) × (piece : List ℕ) × (came ++ piece ≡ bytes) × Takes route target size (before ++ came) piece

  -- what the bytes are that one call brought, by the result
  abbrev pub NextAnswer : B → B → Option (List ℕ) → List ℕ → Result ℕ BodyFault → Type 0
  NextAnswer old new left bytes (Ok count) = (length bytes ≡ count) × (0 < count) × IsFed Holds old new bytes
  NextAnswer old new left bytes (Err Read) = bytes ≡ []
  NextAnswer old new left bytes (Err Closed) = (bytes ≡ []) × IsAtEnd left
  NextAnswer old new left bytes (Err Unavailable) = (0 < length bytes) × IsUnfedPiece old bytes

  -- one call brought these bytes, no more than a block has, and the result is the one for them
  pub record FeedsNext {S : Type 0} (old_body new_body : B) (block : ℕ) (gives : S → List ℕ → S → Type 0) (old new : S)
      (old_left new_left : Option (List ℕ)) (answer : Result ℕ BodyFault) : Type 0 where
    pub bytes : List ℕ
    pub few : length bytes ≤ block
    pub gave : gives old bytes new
    pub consumed : Consumes old_left new_left bytes
    pub is : NextAnswer old_body new_body new_left bytes answer

  -- what the bytes are that were read, by the result
  abbrev pub BodyAnswer : {A : Type 0} → B → B → List ℕ → ℕ → Option (List ℕ) → List ℕ → Result A BodyFault → Type 0
  BodyAnswer old new front size left bytes (Ok done) = IsFed Holds old new (front ++ bytes) × (length front + length bytes ≡ size)
  BodyAnswer old new front size left bytes (Err Read) = ⊤
  BodyAnswer old new front size left bytes (Err Closed) = IsAtEnd left × (length front + length bytes < size)
  BodyAnswer old new front size left bytes (Err Unavailable) = IsUnfed old (front ++ bytes)

  -- these bytes were read, no more than the body needs, and the result is the one for them
  pub record FeedsBody {A : Type 0} {S : Type 0} (old_body new_body : B) (front : List ℕ) (size : ℕ)
      (gives : S → List ℕ → S → Type 0) (old new : S) (old_left new_left : Option (List ℕ)) (answer : Result A BodyFault) : Type 0 where
    pub bytes : List ℕ
    pub few : length front + length bytes ≤ size
    pub read : HasRead (WantsBody front size) gives old new old_left new_left bytes (is_body_cut answer)
    pub is : BodyAnswer old_body new_body front size new_left bytes answer
