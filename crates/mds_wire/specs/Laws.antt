-- What follows from the meaning of bytes.
use Rattle.std.specs.Prelude.{◌≡◌, ◌≢◌, ℕ, ◌≤◌, ◌⊎◌, List, length, take, false}
use Rattle.httparse.specs.Grammar.{RequestHead, ReadsRequest, HasNoRequest}
use Rattle.mds_wire.specs.Heads.{longest_head, most_fields, IsOpenHead, IsNoHead}
use Rattle.mds_wire.specs.Judging.{judge, parts_of}
use Rattle.mds_wire.specs.declared.answer.Status.{Status}
use Rattle.mds_wire.specs.declared.answer.Status.TheVariants.{Success, BadRequest, FieldsTooLarge, Unavailable}
use Rattle.mds_wire.specs.declared.judge.Judged.TheVariants.{Refused, Wanted}
use Rattle.mds_wire.specs.declared.route.Route.{Route}
use Rattle.mds_wire.specs.Meaning.{Answer, StepOf, TakesOf, MayLack, Means, AnswersJudged, refused}

-- a head that is in order, for a route and a body of this size
abbrev pub IsHeadOf : RequestHead → Route → ℕ → Type 0
IsHeadOf head route size = judge (parts_of head) ≡ Wanted route size

-- a head that is refused with this status
abbrev pub IsRefusedHead : RequestHead → Status → Type 0
IsRefusedHead head status = judge (parts_of head) ≡ Refused status

-- the bytes begin with no head that is in order
abbrev pub HaveNoOrder : List ℕ → Type 0
HaveNoOrder bytes =
    (head : RequestHead) (rest : List ℕ) (route : Route) (size : ℕ) → ReadsRequest bytes head rest
    → length head.fields ≤ most_fields → IsHeadOf head route size → ⊥

-- the bytes begin with a head that is in order, and memory may run out for its target or for what came of its body
abbrev pub TakeMemory : (Takes : TakesOf) → List ℕ → Type 0
TakeMemory Takes bytes =
    (head : RequestHead) × (rest : List ℕ) × (route : Route) × (size : ℕ) × ReadsRequest bytes head rest
    × (length head.fields ≤ most_fields) × IsHeadOf head route size × MayLack Takes route head.target size (take size rest)

module _ {S : Type 0} (Step : StepOf S) (Same : S → S → Type 0) (Takes : TakesOf) where
  -- Bytes that begin with a head of at most 64 fields mean what it says, and nothing else.
  abbrev pub HeadDecides : Type 0
  HeadDecides = (bytes rest : List ℕ) (head : RequestHead) (old new : S) (answer : Answer)
      → ReadsRequest bytes head rest → length head.fields ≤ most_fields → Means Step Same Takes bytes old answer new
      → AnswersJudged Step Same Takes (judge (parts_of head)) head rest old answer new

  -- Bytes without a head are answered 400 or 431, and change nothing. 431 is answered only if they may still become one.
  abbrev pub Headless : Type 0
  Headless = (bytes : List ℕ) (old new : S) (answer : Answer) → HasNoRequest bytes
      → Means Step Same Takes bytes old answer new
      → (((answer ≡ refused BadRequest false) × IsNoHead bytes)
      ⊎ ((answer ≡ refused FieldsTooLarge false) × (length bytes ≡ longest_head) × IsOpenHead bytes)) × (new ≡ old)

  -- Whatever bytes mean is one step, of a whole request with its target and its body. Else nothing is changed, and the answer
  -- isn't 200. Then the bytes begin with no head that is in order, or the answer is 503 and memory is taken.
  abbrev pub OnlySteps : Type 0
  OnlySteps = (bytes : List ℕ) (old new : S) (answer : Answer) → Means Step Same Takes bytes old answer new
      → ((head : RequestHead) × (rest : List ℕ) × (route : Route) × (size : ℕ) × ReadsRequest bytes head rest
      × (length head.fields ≤ most_fields) × IsHeadOf head route size × (size ≤ length rest)
      × (answer.is_head ≡ false)
      × Step old route head.target (take size rest) answer.status answer.kind answer.body new)
      ⊎ ((HaveNoOrder bytes ⊎ ((answer.status ≡ Unavailable) × TakeMemory Takes bytes)) × (answer.status ≢ Success)
      × ((new ≡ old) ⊎ Same old new))
