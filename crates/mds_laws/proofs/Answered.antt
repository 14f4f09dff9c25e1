-- What had no answer stands aside in a run.
use Rattle.std.specs.Prelude.{◌≡◌, Bool, true, false, cond, List, [], ◌∷◌, get_or}
use Rattle.std.proofs.Common.{ap, ◌∙◌, subst, refl}
use Rattle.std.specs.List.{All}
use Rattle.std.proofs.lemmas.List.Elements.{All-head, All-tail, filter_passes}
use Rattle.mds_world.specs.World.{World}
use Rattle.mds_messages.specs.declared.request.Request.{Request}
use Rattle.mds_messages.specs.declared.request.Request.TheVariants as asked
use Rattle.mds_messages.specs.declared.answer.Answer.{Answer}
use Rattle.mds_messages.specs.declared.answer.Answer.TheVariants as told
use Rattle.mds_service.specs.Machine.{Run, Step}
use Rattle.mds_laws.specs.Answered.{AnsweredAreAll, IsGiven, UnansweredStandAside, answered, given, is_given}

-- a request that has no answer changes nothing
unanswered : (old : World) (request : Request) (new : World) → Step old request told.Unavailable new → new ≡ old
unanswered old (asked.Import kind bytes) new step = step
unanswered old (asked.Substitute job) new step = step.1
unanswered old (asked.Holidays days) new step = step
unanswered old (asked.Day stream day) new step = step.1
unanswered old (asked.Versions stream day interval) new step = step.1
unanswered old (asked.Period stream) new step = step.1
unanswered old asked.Streams new step = step.1
unanswered old (asked.Gaps stream first last) new step = step.1
unanswered old (asked.Finals stream first last) new step = step.1
unanswered old (asked.Missing first last since) new step = step.1
unanswered old (asked.Readings stream first last) new step = step.1
unanswered old (asked.Export nmi suffixes first last header) new step = step.1

not_given : (answer : Answer) → is_given answer ≡ false → answer ≡ told.Unavailable
not_given (told.Imported added known) e = cc
not_given (told.Substituted count) e = cc
not_given (told.Known count) e = cc
not_given (told.HolidaysAdded added known) e = cc
not_given (told.Day it) e = cc
not_given (told.Versions it) e = cc
not_given (told.Period it) e = cc
not_given (told.Streams answers) e = cc
not_given (told.Gaps text) e = cc
not_given (told.Finals text) e = cc
not_given (told.Missing text) e = cc
not_given (told.Readings text) e = cc
not_given (told.Exported text) e = cc
not_given (told.File fault) e = cc
not_given (told.Refused refusal) e = cc
not_given told.Unavailable e = refl

is_told : (answer : Answer) → is_given answer ≡ true → IsGiven answer
is_told answer e = λ f. let g : is_given answer ≡ false = ap is_given f in cc (e, g)

-- a request stands in front of those that were answered, or aside
beside : (old mid new : World) (request : Request) (requests : List Request) (answer : Answer) (answers : List Answer)
    (b : Bool) → is_given answer ≡ b → Step old request answer mid → Run mid requests answers new
    → Run old (cond b (request ∷ requests) requests) (cond b (answer ∷ answers) answers) new
beside old mid new request requests answer answers true e step later = (mid, step, later)
beside old mid new request requests answer answers false e step later =
    let same : mid ≡ old = unanswered old request mid (subst (λ a. Step old request a mid) (not_given answer e) step) in
    subst (λ w. Run w requests answers new) same later

pub unanswered_stand_aside : UnansweredStandAside
unanswered_stand_aside old new [] [] steps = steps
unanswered_stand_aside old new [] (answer ∷ answers) steps = absurd steps
unanswered_stand_aside old new (request ∷ requests) [] steps = absurd steps
unanswered_stand_aside old new (request ∷ requests) (answer ∷ answers) (mid, step, later) =
    beside old mid new request (answered requests answers) answer (given answers) (is_given answer) refl step
    (unanswered_stand_aside mid new requests answers later)

-- each of those that were given is given
pub all_given : (answers : List Answer) → All IsGiven (given answers)
all_given answers = λ k d within. is_told (get_or (given answers) k d) (filter_passes is_given answers k d within)

passes : (answer : Answer) → IsGiven answer → is_given answer ≡ true
passes answer is = by (is_given answer) refl
  where
    by : (b : Bool) → is_given answer ≡ b → is_given answer ≡ true
    by true e = e
    by false e = absurd (is (not_given answer e))

pub answered_are_all : AnsweredAreAll
answered_are_all old new [] [] steps each = (refl, refl)
answered_are_all old new [] (answer ∷ answers) steps each = absurd steps
answered_are_all old new (request ∷ requests) [] steps each = absurd steps
answered_are_all old new (request ∷ requests) (answer ∷ answers) (mid, step, later) each =
    let here = passes answer (All-head IsGiven answer answers each) in
    let rest = answered_are_all mid new requests answers later (All-tail IsGiven answer answers each) in (
      (λ i. cond (here i) (request ∷ answered requests answers) (answered requests answers))
          ∙ ap (λ those. request ∷ those) rest.0,
      (λ i. cond (here i) (answer ∷ given answers) (given answers)) ∙ ap (λ those. answer ∷ those) rest.1,
    )
