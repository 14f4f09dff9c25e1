-- Which requests of a run were answered (profile). A request that the store can't answer now is answered
-- Unavailable.
use Rattle.std.specs.Prelude.{◌≡◌, ◌≢◌, Bool, true, false, if◌then◌else◌, List, [], ◌∷◌, filter}
use Rattle.std.specs.List.{All}
use Rattle.mds_world.specs.World.{World}
use Rattle.mds_messages.specs.declared.request.Request.{Request}
use Rattle.mds_messages.specs.declared.answer.Answer.{Answer}
use Rattle.mds_messages.specs.declared.answer.Answer.TheVariants as told
use Rattle.mds_service.specs.Machine.{Run}

-- the answer was given, and isn't Unavailable
abbrev pub IsGiven : Answer → Type 0
IsGiven answer = answer ≢ told.Unavailable

abbrev pub is_given : Answer → Bool
is_given told.Unavailable = false
is_given answer = true

-- the answers that were given
abbrev pub given : List Answer → List Answer
given answers = filter is_given answers

-- the requests that were answered
abbrev pub answered : List Request → List Answer → List Request
answered (request ∷ requests) (answer ∷ answers) =
    if is_given answer then request ∷ answered requests answers else answered requests answers
answered requests answers = []

-- What had no answer doesn't count: a run is that of the requests that were answered.
abbrev pub UnansweredStandAside : Type 0
UnansweredStandAside =
    (old new : World) (requests : List Request) (answers : List Answer)
    → Run old requests answers new → Run old (answered requests answers) (given answers) new

-- If each request was answered, those that were answered are all of them.
abbrev pub AnsweredAreAll : Type 0
AnsweredAreAll =
    (old new : World) (requests : List Request) (answers : List Answer) → Run old requests answers new
    → All IsGiven answers → (answered requests answers ≡ requests) × (given answers ≡ answers)
