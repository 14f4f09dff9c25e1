-- Two runs of a job and a file, one in each order.
use Rattle.std.specs.Prelude.{[], ◌∷◌}
use Rattle.std.proofs.lemmas.List.Elements.{All-cons, All-nil}
use Rattle.std.specs.List.{All}
use Rattle.mds_messages.specs.declared.request.Request.TheVariants as asked
use Rattle.mds_messages.specs.declared.answer.Answer.{Answer}
use Rattle.mds_laws.specs.Answered.{IsGiven}
use Rattle.mds_laws.specs.Determined.{AskTheSame, OneByOne}
use Rattle.mds_laws.specs.Determined.AskTheSame.{Itself, OneFile}
use Rattle.mds_laws.specs.Exchange.{ChangePlaces}
use Rattle.mds_laws.proofs.Determined.{one_run}
use Rattle.mds_laws.proofs.Exchange.{may_change_places}

both_given : (a b : Answer) → IsGiven a → IsGiven b → All IsGiven (a ∷ b ∷ [])
both_given a b g h = All-cons IsGiven a (b ∷ []) g (All-cons IsGiven b [] h (All-nil IsGiven))

pub change_places : ChangePlaces
change_places old new other_new kind bytes again job of_file of_job other_file other_job lawful alike alone x y f g h k =
    let turned = (may_change_places old new kind bytes job of_file of_job alone).0 x in
    let ask : OneByOne AskTheSame (asked.Substitute job ∷ asked.Import kind bytes ∷ [])
    (asked.Substitute job ∷ asked.Import kind again ∷ []) =
    (Itself (asked.Substitute job), (OneFile kind bytes again alike, tt)) in
    let same = one_run old new other_new (asked.Substitute job ∷ asked.Import kind bytes ∷ [])
    (asked.Substitute job ∷ asked.Import kind again ∷ []) (of_job ∷ of_file ∷ []) (other_job ∷ other_file ∷ []) lawful ask
    turned y (both_given of_job of_file g f) (both_given other_job other_file k h) in
    (same.0.1.0, same.0.0, same.1)
