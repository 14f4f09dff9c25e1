-- What the bytes of a connection mean: an answer, and a step of the handler of requests. RFC 9112, section 2.2. The order of
-- checks is this project's profile.
use Rattle.std.specs.Prelude.{◌≡◌, ℕ, ◌+◌, ◌≤◌, ◌⊎◌, List, ◌++◌, length, take, bytes_eq, codes, false, Bool}
use Rattle.httparse.specs.Grammar.{RequestHead, ReadsRequest}
use Rattle.mds_wire.specs.Heads.{longest_head, most_fields, IsOpenHead, IsNoHead}
use Rattle.mds_wire.specs.Judging.{judge, parts_of}
use Rattle.mds_wire.specs.declared.judge.Judged.{Judged}
use Rattle.mds_wire.specs.declared.judge.Judged.TheVariants.{Refused, Wanted}
use Rattle.mds_wire.specs.declared.route.Route.{Route}
use Rattle.mds_wire.specs.Answers.{refusal_body}
use Rattle.mds_wire.specs.declared.answer.Status.{Status}
use Rattle.mds_wire.specs.declared.answer.Status.TheVariants.{BadRequest, FieldsTooLarge, Unavailable}
use Rattle.mds_wire.specs.declared.answer.Kind.{Kind}
use Rattle.mds_wire.specs.declared.answer.Kind.TheVariants.{Json}

-- an answer, and whether the request's method is HEAD, whose answer ends with its head
pub record Answer : Type 0 where
  pub status : Status
  pub kind : Kind
  pub body : List ℕ
  pub is_head : Bool

-- the answer to what isn't in order, or is unavailable
abbrev pub refused : Status → Bool → Answer
refused status is_head = record { status = status; kind = Json; body = refusal_body status; is_head = is_head }

-- how bytes begin: with no head, with a front of one that fills its room, or with a head followed by other bytes
pub data Beginning : Type 0 where
  no_head overlong : Beginning
  whole : RequestHead → List ℕ → Beginning

abbrev pub BeginsSo : List ℕ → Beginning → Type 0
BeginsSo bytes no_head = IsNoHead bytes
BeginsSo bytes overlong = (length bytes ≡ longest_head) × IsOpenHead bytes
BeginsSo bytes (whole head rest) = ReadsRequest bytes head rest × (length head.fields ≤ most_fields)

-- After these bytes up to `count` more are awaited. They are the rest of the room for an incomplete head, or what its body
-- lacks.
pub data Awaits (bytes : List ℕ) (count : ℕ) : Type 0 where
  in_head : IsOpenHead bytes → length bytes + count ≡ longest_head → Awaits bytes count
  in_body : (head : RequestHead) (rest : List ℕ) (route : Route) (size : ℕ) → BeginsSo bytes (whole head rest)
      → judge (parts_of head) ≡ Wanted route size → length rest + count ≡ size → Awaits bytes count

abbrev pub is_head_method : RequestHead → Bool
is_head_method head = bytes_eq head.method (codes "HEAD")

-- a step: the state before, the route, the target, the body; the answer's status, type and body, and the state after
abbrev pub StepOf : Type 0 → Type 1
StepOf S = S → Route → List ℕ → List ℕ → Status → Kind → List ℕ → S → Type 0

-- What takes memory before a step: for a route, a target and a body of this size, a piece after what came of the body.
abbrev pub TakesOf : Type 1
TakesOf = Route → (target : List ℕ) → (size : ℕ) → (came piece : List ℕ) → Type 0

-- There may be no memory for this body: before it comes, for one of its pieces, or once it is whole.
abbrev pub MayLack : TakesOf → Route → (target : List ℕ) → (size : ℕ) → (body : List ℕ) → Type 0
MayLack Takes route target size body = (came : List ℕ) × (piece : List ℕ) × (behind : List ℕ)
    × (came ++ piece ++ behind ≡ body) × Takes route target size came piece

-- `Same` says that what is kept is the same in two states, and `Takes` what takes memory.
module _ {S : Type 0} (Step : StepOf S) (Same : S → S → Type 0) (Takes : TakesOf) where
  -- The answer to a head that was judged in this way, and the state after it. If memory is taken, there may be none instead.
  abbrev pub AnswersJudged : Judged → RequestHead → List ℕ → S → Answer → S → Type 0
  AnswersJudged (Refused status) head rest old answer new =
      (answer ≡ refused status (is_head_method head)) × (new ≡ old)
  AnswersJudged (Wanted route size) head rest old answer new =
      ((size ≤ length rest) × (answer.is_head ≡ false)
      × Step old route head.target (take size rest) answer.status answer.kind answer.body new)
      ⊎ ((answer ≡ refused Unavailable false) × MayLack Takes route head.target size (take size rest)
      × ((new ≡ old) ⊎ Same old new))

  abbrev pub AnswersBeginning : Beginning → S → Answer → S → Type 0
  AnswersBeginning no_head old answer new = (answer ≡ refused BadRequest false) × (new ≡ old)
  AnswersBeginning overlong old answer new = (answer ≡ refused FieldsTooLarge false) × (new ≡ old)
  AnswersBeginning (whole head rest) old answer new = AnswersJudged (judge (parts_of head)) head rest old answer new

  -- the bytes mean this answer and this change
  pub record Means (bytes : List ℕ) (old : S) (answer : Answer) (new : S) : Type 0 where
    pub beginning : Beginning
    pub begins : BeginsSo bytes beginning
    pub answers : AnswersBeginning beginning old answer new
