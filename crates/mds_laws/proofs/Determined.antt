-- What a request is answered, and what it leaves, is determined.
use Rattle.std.specs.Prelude.{◌≡◌, List, [], ◌∷◌}
use Rattle.std.proofs.Common.{sym, ◌∙◌, subst, refl}
use Rattle.std.specs.List.{All}
use Rattle.std.proofs.lemmas.List.Elements.{All-head, All-tail}
use Rattle.mds_statements.specs.Delivered.{header_value}
use Rattle.mds_world.specs.World.{IsLawful, World}
use Rattle.mds_messages.specs.declared.request.Request.{Request}
use Rattle.mds_messages.specs.declared.request.Request.TheVariants as asked
use Rattle.mds_messages.specs.declared.answer.Answer.{Answer}
use Rattle.mds_service.specs.Holidays.{HolidaysStep}
use Rattle.mds_service.specs.Machine.{ImportStep, Run, Step}
use Rattle.mds_service.specs.RangeAnswers.{TellsExport}
use Rattle.mds_laws.specs.Answered.{IsGiven, answered, given}
use Rattle.mds_laws.specs.Determined.{AnswersAreDetermined, AreSame, AskTheSame, OneByOne, RunsAreDetermined}
use Rattle.mds_laws.specs.Determined.AskTheSame.{Itself, OneExport, OneFile, OneList}
use Rattle.mds_laws.proofs.Answered.{all_given, unanswered_stand_aside}
use Rattle.mds_laws.proofs.Kept.{law_stays}
use Rattle.mds_laws.proofs.OneChange.{same_holidays, same_import, same_job}
use Rattle.mds_laws.proofs.OneQuery.{same_day, same_periods, same_streams, same_versions}
use Rattle.mds_laws.proofs.OneRange.{same_export, same_finals, same_gaps, same_missing}
use Rattle.mds_laws.proofs.OneReadings.{same_readings}

-- what asks the same has the same steps
asks : (w v : World) (request other : Request) (answer : Answer) → AskTheSame request other → Step w request answer v
    → Step w other answer v
asks w v request other answer (Itself it) step = step
asks w v request other answer (OneFile kind a b same) step = subst (λ items. ImportStep w kind items answer v) same step
asks w v request other answer (OneList a b same) step = subst (λ items. HolidaysStep w items answer v) same step
asks w v request other answer (OneExport nmi a b first last header same) step =
    (subst (λ items. TellsExport w nmi items first last (header_value header) answer) same step.0, step.1)

one_answer : (w v u : World) (request : Request) (a b : Answer) → IsLawful w → Step w request a v → Step w request b u
    → IsGiven a → IsGiven b → AreSame a b × (v ≡ u)
one_answer w v u (asked.Import kind bytes) a b lawful x y g h =
    same_import w kind bytes.items v u a b x y g h
one_answer w v u (asked.Substitute job) a b lawful x y g h = same_job w lawful job v u a b x y g h
one_answer w v u (asked.Holidays days) a b lawful x y g h = same_holidays w days.items v u a b x y g h
one_answer w v u (asked.Day stream day) a b lawful x y g h =
    (same_day w lawful.agrees stream day a b x.0 y.0 g h, x.1 ∙ sym y.1)
one_answer w v u (asked.Versions stream day interval) a b lawful x y g h =
    (same_versions w stream day interval a b x.0 y.0 g h, x.1 ∙ sym y.1)
one_answer w v u (asked.Period stream) a b lawful x y g h =
    (same_periods w stream a b x.0 y.0 g h, x.1 ∙ sym y.1)
one_answer w v u asked.Streams a b lawful x y g h = (same_streams w a b x.0 y.0 g h, x.1 ∙ sym y.1)
one_answer w v u (asked.Gaps stream first last) a b lawful x y g h =
    (same_gaps w stream first last a b x.0 y.0 g h, x.1 ∙ sym y.1)
one_answer w v u (asked.Finals stream first last) a b lawful x y g h =
    (same_finals w stream first last a b x.0 y.0 g h, x.1 ∙ sym y.1)
one_answer w v u (asked.Missing first last since) a b lawful x y g h =
    (same_missing w first last since a b x.0 y.0 g h, x.1 ∙ sym y.1)
one_answer w v u (asked.Readings stream first last) a b lawful x y g h =
    (same_readings w lawful.agrees stream first last a b x.0 y.0 g h, x.1 ∙ sym y.1)
one_answer w v u (asked.Export nmi suffixes first last header) a b lawful x y g h = (
  same_export w lawful.agrees nmi suffixes.items first last (header_value header) a b x.0 y.0 g h,
  x.1 ∙ sym y.1,
)

pub answers_are_determined : AnswersAreDetermined
answers_are_determined w v u request other a b lawful same x y g h =
    one_answer w v u other a b lawful (asks w v request other a same x) y g h

-- runs that ask the same, all of which was answered
pub one_run : (old new other_new : World) (requests nexts : List Request) (answers others : List Answer) → IsLawful old
    → OneByOne AskTheSame requests nexts → Run old requests answers new → Run old nexts others other_new
    → All IsGiven answers → All IsGiven others → OneByOne AreSame answers others × (new ≡ other_new)
one_run old new other_new [] [] [] [] lawful same x y g h = (tt, x ∙ sym y)
one_run old new other_new [] [] [] (b ∷ others) lawful same x y g h = absurd y
one_run old new other_new [] [] (a ∷ answers) others lawful same x y g h = absurd x
one_run old new other_new [] (next ∷ nexts) answers others lawful same x y g h = absurd same
one_run old new other_new (request ∷ requests) [] answers others lawful same x y g h = absurd same
one_run old new other_new (request ∷ requests) (next ∷ nexts) [] others lawful same x y g h = absurd x
one_run old new other_new (request ∷ requests) (next ∷ nexts) (a ∷ answers) [] lawful same x y g h = absurd y
one_run old new other_new (request ∷ requests) (next ∷ nexts) (a ∷ answers) (b ∷ others) lawful same (mid, x, later)
    (other, y, rest) g h =
    let here = answers_are_determined old mid other request next a b lawful same.0 x y (All-head IsGiven a answers g)
    (All-head IsGiven b others h) in
    let there = one_run mid new other_new requests nexts answers others
    (law_stays old mid (request ∷ []) (a ∷ []) (mid, x, refl) lawful) same.1 later
    (subst (λ w. Run w nexts others other_new) (sym here.1) rest) (All-tail IsGiven a answers g)
    (All-tail IsGiven b others h) in
    ((here.0, there.0), there.1)

pub runs_are_determined : RunsAreDetermined
runs_are_determined old new other_new requests others answers other_answers lawful x y same =
    one_run old new other_new (answered requests answers) (answered others other_answers) (given answers)
    (given other_answers) lawful same (unanswered_stand_aside old new requests answers x)
    (unanswered_stand_aside old other_new others other_answers y) (all_given answers) (all_given other_answers)
