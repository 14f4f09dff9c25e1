use Rattle.std.proofs.Common.{refl, sym}
use Rattle.std.proofs.lemmas.Result.{err_from_is_err_and}
use Rattle.mds_statements.specs.Delivered.{delivery_statements}
use Rattle.mds_statements.specs.Statements.{days_of}
use Rattle.mds_world.specs.World.{IsLawful, union}
use Rattle.mds_keeper.specs.Content.{content}
use Rattle.mds_keeper.specs.Kept.{OfKept, Stays}
use Rattle.mds_keeper.proofs.Asked.{stays_on}
use Rattle.mds_keeper.specs.declared.additions.Additions.{Additions}
use Rattle.mds_messages.specs.declared.answer.Answer.TheVariants as told
use Rattle.mds_service.specs.Machine.{TakesIn}
use Rattle.mds_service.specs.Asking.{AreStated, AsksOnly}
use Rattle.mds_service.specs.Asking.AsksOnly.{Other}
use Rattle.mds_service.proofs.Asked.{asks_none, asks_on}
use Rattle.mds_service.proofs.Committed.{Comes, are_new, comes, taken_in, with_notes}
use Rattle.mds_service.proofs.Halted.{stopped}
use Rattle.mds_service.proofs.OfKept.{still}
use Rattle.mds_service.proofs.Steps.{added, cut, failed, stood}
use Rattle.mds_service.proofs.importing.taken_in.Given.{Over}
use Rattle.mds_service.proofs.importing.taken_in.Goals.{After-new_events, In_ok-settled}
use Rattle.mds_service.proofs.importing.taken_in.Goals as goal

pub returns-in_err-collected-clause-step : goal.returns-in_err-collected-clause-step
returns-in_err-collected-clause-step g c =
    let p = err_from_is_err_and c.from_residual.result c.from_residual.ensures.1 in
    rw (p.1, p.2) (stood c.collect.ensures.stays (λ honest w lawful shows.
    stopped w c.args.delivery c.in_err-collected.field-0.0 (c.in_err-collected.ensures.refused honest w shows lawful)))

pub returns-in_err-details-clause-step : goal.returns-in_err-details-clause-step
returns-in_err-details-clause-step g c =
    let p = err_from_is_err_and c.from_residual-in_err-details.result c.from_residual-in_err-details.ensures.1 in
    rw (p.1, p.2) (failed (stays_on c.collect.ensures.stays c.new_details.ensures.stays) (λ w. refl))

-- what is kept before the commit
stays_then : (g : Over) (c : After-new_events g)
    → Stays (g.K.ImportKeeper.kept c.args.keeper.now) (g.K.ImportKeeper.kept c.new_events.new.keeper)
stays_then g c = stays_on (stays_on c.collect.ensures.stays c.new_details.ensures.stays) c.new_events.ensures.stays

pub returns-in_err-events-clause-step : goal.returns-in_err-events-clause-step
returns-in_err-events-clause-step g c =
    let p = err_from_is_err_and c.from_residual-in_err-events.result c.from_residual-in_err-events.ensures.1 in
    rw (p.1, p.2) (failed (stays_then g (goal.at.returns-in_err-events-clause-step g c).After-new_events) (λ w. refl))

pub returns-in_err-settled-clause-step : goal.returns-in_err-settled-clause-step
returns-in_err-settled-clause-step g c =
    let p = err_from_is_err_and c.from_residual-in_err-settled.result c.from_residual-in_err-settled.ensures.1 in
    rw (p.1, p.2) (failed (stays_then g (goal.at.returns-in_err-settled-clause-step g c).After-new_events) (λ w. refl))

coming : (g : Over) (c : In_ok-settled g)
    → OfKept (g.K.ImportKeeper.kept c.args.keeper.now) (g.K.ImportKeeper.kept c.new_events.new.keeper)
    (λ w. IsLawful w → Comes w (days_of (delivery_statements c.args.delivery)) c.in_ok-collected.collected c.in_ok-settled.settled.0
    c.in_ok-settled.settled.1 c.in_ok-details.details c.in_ok-events.events)
coming g c = λ honest w shows lawful.
    let later = c.new_events.ensures.stays.outside honest in
    let collected = c.in_ok-collected.ensures.collected (c.new_details.ensures.stays.outside later) w shows lawful in
    let one = still c.collect.ensures.stays shows in
    comes w _ c.in_ok-collected.collected c.in_ok-settled.settled.0 c.in_ok-settled.settled.1 c.in_ok-details.details
    c.in_ok-events.events collected.whole collected.detailed (c.in_ok-settled.ensures w _ collected.merges)
    (c.in_ok-details.ensures.apart later)
    (c.in_ok-details.ensures.just later w one) c.in_ok-events.ensures.apart
    (c.in_ok-events.ensures.just honest w (still c.new_details.ensures.stays one))

abbrev its : (g : Over) (c : In_ok-settled g) → Additions
its g c = with_notes c.in_ok-settled.settled.0 c.in_ok-details.details c.in_ok-events.events

taken : (g : Over) (c : In_ok-settled g)
    → OfKept (g.K.ImportKeeper.kept c.args.keeper.now) (g.K.ImportKeeper.kept c.new_events.new.keeper)
    (λ w. IsLawful w → IsLawful (union w (content (its g c))) × TakesIn w (delivery_statements c.args.delivery)
    (told.Imported c.in_ok-settled.settled.1.added c.in_ok-settled.settled.1.known) (union w (content (its g c))))
taken g c = λ honest w shows lawful.
    let early = c.new_details.ensures.stays.outside (c.new_events.ensures.stays.outside honest) in
    taken_in (coming g c honest w shows lawful) (delivery_statements c.args.delivery) (c.in_ok-collected.ensures.collected early w shows lawful).all lawful
    (c.in_ok-collected.ensures.agrees early w shows lawful)

pub commit-requires-clause-new : goal.commit-requires-clause-new
commit-requires-clause-new g c = λ sound lawful.
    let at = goal.at.commit-requires-clause-new g c in
    are_new (coming g at.In_ok-settled (g.met.K.ImportKeeper.sound_honest c.new_events.new.keeper sound)
    (g.K.ImportKeeper.kept c.new_events.new.keeper).world (λ _. sym ((stays_then g at.After-new_events).same sound)) lawful)

pub commit-requires-clause-lawful : goal.commit-requires-clause-lawful
commit-requires-clause-lawful g c = λ sound lawful.
    let at = goal.at.commit-requires-clause-lawful g c in
    (taken g at.In_ok-settled (g.met.K.ImportKeeper.sound_honest c.new_events.new.keeper sound)
    (g.K.ImportKeeper.kept c.new_events.new.keeper).world (λ _. sym ((stays_then g at.After-new_events).same sound)) lawful).0

pub commit-requires-clause-placed : goal.commit-requires-clause-placed
commit-requires-clause-placed g c = λ sound lawful.
    let at = goal.at.commit-requires-clause-placed g c in
    let it = coming g at.In_ok-settled (g.met.K.ImportKeeper.sound_honest c.new_events.new.keeper sound)
    (g.K.ImportKeeper.kept c.new_events.new.keeper).world (λ _. sym ((stays_then g at.After-new_events).same sound)) lawful in
    record { first = it.settled.first; days = it.settled.days }

pub returns-in-Ok-clause-step : goal.returns-in-Ok-clause-step
returns-in-Ok-clause-step g c =
    let at = goal.at.returns-in-Ok-clause-step g c in
    added (stays_then g at.After-new_events) c.in-Ok.ensures.adds (g.met.K.ImportKeeper.settled c.commit.new.self)
    (λ honest w lawful _ is. taken g at.In_ok-settled (c.commit.ensures.adds.outside honest) w (λ _. is) lawful)

pub returns-in-Err-clause-step : goal.returns-in-Err-clause-step
returns-in-Err-clause-step g c =
    let at = goal.at.returns-in-Err-clause-step g c in
    rw c.from.ensures (cut (told.Imported c.in_ok-settled.settled.1.added c.in_ok-settled.settled.1.known) (λ e. cc) (stays_then g at.After-new_events)
    c.in-Err.ensures.adds (λ w. refl) (λ honest w lawful _ is. (taken g at.In_ok-settled honest w (λ _. is) lawful).1))

-- all that was asked before the commit
asked : (g : Over) (c : After-new_events g)
    → AsksOnly g.K.ImportKeeper.asks g.K.ImportKeeper.others (AreStated (days_of (delivery_statements c.args.delivery))) c.args.keeper.now
    c.new_events.new.keeper
asked g c = asks_on (asks_on c.collect.ensures.asked (asks_none c.new_details.ensures.asked)) (asks_none c.new_events.ensures.asked)

pub returns-in_err-collected-clause-asked : goal.returns-in_err-collected-clause-asked
returns-in_err-collected-clause-asked g c = c.collect.ensures.asked

pub returns-in_err-details-clause-asked : goal.returns-in_err-details-clause-asked
returns-in_err-details-clause-asked g c = asks_on c.collect.ensures.asked (asks_none c.new_details.ensures.asked)

pub returns-in_err-events-clause-asked : goal.returns-in_err-events-clause-asked
returns-in_err-events-clause-asked g c = asked g (goal.at.returns-in_err-events-clause-asked g c).After-new_events

pub returns-in_err-settled-clause-asked : goal.returns-in_err-settled-clause-asked
returns-in_err-settled-clause-asked g c = asked g (goal.at.returns-in_err-settled-clause-asked g c).After-new_events

pub returns-in-Ok-clause-asked : goal.returns-in-Ok-clause-asked
returns-in-Ok-clause-asked g c = Other (asked g (goal.at.returns-in-Ok-clause-asked g c).After-new_events) c.commit.ensures.asked

pub returns-in-Err-clause-asked : goal.returns-in-Err-clause-asked
returns-in-Err-clause-asked g c = Other (asked g (goal.at.returns-in-Err-clause-asked g c).After-new_events) c.commit.ensures.asked
