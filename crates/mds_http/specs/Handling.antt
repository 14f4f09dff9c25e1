-- What a request over HTTP does to a store, and its answer (profile).
use Rattle.std.specs.Prelude.{◌≡◌, ◌⊎◌, ℕ, List, Option, Some, None, codes}
use Rattle.serde_json.specs.Written.{compact_text}
use Rattle.mds_keeper.specs.declared.refusal.RefusalCode.{RefusalCode}
use Rattle.mds_keeper.specs.declared.refusal.RefusalCode.TheVariants.{LengthConflict, UnitConflict, VersionConflict, JobReused, Protected, StaleUpdate, NoLikeDay, TooLong, NoAnchor, UnknownDay, BadJob, RangeTooWide}
use Rattle.mds_keeper.specs.Kept.{Kept}
use Rattle.mds_service.specs.Crashes.{Goes}
use Rattle.mds_messages.specs.declared.request.Request.{Request}
use Rattle.mds_messages.specs.declared.answer.Answer.{Answer}
use Rattle.mds_messages.specs.declared.answer.Answer.TheVariants as told
use Rattle.mds_messages.specs.Answers.{TextKind, text_of}
use Rattle.mds_answers.specs.Json.{IsJson, refused}
use Rattle.mds_requests.specs.Targets.{AsksAt, IsFaultAt}
use Rattle.mds_requests.specs.declared.targets.TargetFault.{TargetFault}
use Rattle.mds_requests.specs.declared.targets.TargetFault.TheVariants as fault
use Rattle.mds_wire.specs.Answers.{refusal_body}
use Rattle.mds_wire.specs.Meaning.{StepOf}
use Rattle.mds_wire.specs.declared.answer.Kind.{Kind}
use Rattle.mds_wire.specs.declared.answer.Kind.TheVariants.{Json, Csv}
use Rattle.mds_wire.specs.declared.answer.Status.{Status}
use Rattle.mds_wire.specs.declared.answer.Status.TheVariants.{Success, BadRequest, NotFound, Conflict, Unprocessable, Unavailable}
use Rattle.mds_wire.specs.declared.route.Route.{Route}
use Rattle.mds_http.specs.declared.handling.StoreHandler.{StoreHandler}

-- the status of a refusal: 404 for what doesn't exist, 409 for what another state of the store would accept
abbrev pub status_of_rule : RefusalCode → Status
status_of_rule LengthConflict = Conflict
status_of_rule UnitConflict = Conflict
status_of_rule VersionConflict = Conflict
status_of_rule JobReused = Conflict
status_of_rule Protected = Conflict
status_of_rule StaleUpdate = Conflict
status_of_rule NoLikeDay = Unprocessable
status_of_rule TooLong = Unprocessable
status_of_rule NoAnchor = Unprocessable
status_of_rule UnknownDay = NotFound
status_of_rule BadJob = Unprocessable
status_of_rule RangeTooWide = Unprocessable

-- the status of an answer
abbrev pub status_of : Answer → Status
status_of (told.File fault) = Unprocessable
status_of (told.Refused refusal) = status_of_rule refusal.code
status_of told.Unavailable = Unavailable
status_of answer = Success

-- the type of a body, and the body: a text of its own as it is, else JSON
abbrev pub TellsText : Option (TextKind × List ℕ) → Answer → Kind → List ℕ → Type 0
TellsText (Some text) answer kind body = (kind ≡ Csv) × (body ≡ text.1)
TellsText None answer kind body = (kind ≡ Json) × IsJson answer body

-- those of an answer
abbrev pub Tells : Answer → Kind → List ℕ → Type 0
Tells answer kind body = TellsText (text_of answer) answer kind body

-- the answer to a target and a body that ask for nothing
abbrev pub TellsFault : TargetFault → Status → Kind → List ℕ → Type 0
TellsFault fault.Bad status kind body = (status ≡ BadRequest) × (kind ≡ Json) × (body ≡ refusal_body BadRequest)
TellsFault (fault.BadHolidays row) status kind body =
    (status ≡ Unprocessable) × (kind ≡ Json) × (body ≡ compact_text (refused (codes "H1") 0 0 row))
TellsFault fault.Memory status kind body = ⊥

-- A request that a target and a body ask for was done in this way, and its answer is sent. Or they ask for none: that is
-- answered, and nothing is changed.
abbrev pub Handled : Route → (target body : List ℕ) → Status → Kind → (text : List ℕ) → (is_same : Type 0)
    → (goes : Request → Answer → Type 0) → Type 0
Handled route target body status kind text is_same goes =
    ((request : Request) × (answer : Answer) × AsksAt route target body request × goes request answer
    × (status ≡ status_of answer) × Tells answer kind text)
    ⊎ ((fault : TargetFault) × IsFaultAt route target body fault × TellsFault fault status kind text × is_same)

-- A step of a store over HTTP, between two states of its keeper: the request is done by a step of the machine.
module _ {K : Type 0} (kept : K → Kept) where
  abbrev pub HandlesBy : StepOf K
  HandlesBy old route target body status kind text new =
      Handled route target body status kind text (new ≡ old) (Goes (kept old) (kept new))

  abbrev pub Handles : StepOf (StoreHandler K)
  Handles old route target body status kind text new =
      Handled route target body status kind text (new ≡ old) (Goes (kept old.keeper) (kept new.keeper))
