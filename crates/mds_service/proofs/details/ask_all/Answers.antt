use Rattle.std.proofs.Common.{◌≡◌, [], refl, rules}
use Rattle.std.proofs.lemmas.Result.{IfOk-from_err}
use Rattle.mds_keeper.proofs.Asked.{stays_on, stays_put}
use Rattle.mds_service.specs.Asking.AsksOnly.{Nothing, Other}
use Rattle.mds_service.proofs.Collects.{none_left, split_end, split_step}
use Rattle.mds_service.proofs.OfKept.{still, told_of}
use Rattle.mds_service.proofs.SharedDays.{Entry, all_answered, apart_answered, none_answered, pass_answered, push_answered}
use Rattle.mds_service.proofs.details.ask_all.Goals as goal

pub loop-shared-init : goal.loop-shared-init
loop-shared-init g c = record {
  stays = stays_put _;
  asked = Nothing;
  split = c.into_iter-shared-iterator.ensures.into_iter_gives.0;
  answers = λ honest w shows. none_answered w _ c.new-new.ensures.items;
}

pub loop-shared-preserved-in-Continue-branch-2 : goal.loop-shared-preserved-in-Continue-branch-2
loop-shared-preserved-in-Continue-branch-2 g c =
    let i = c.loop-shared.invariant in
    let asked = c.in_ok-days.ensures.days in
    let e : Entry = (c.in-Some.shared, c.in-Some.days) in record {
      stays = stays_on i.stays asked.stays;
      asked = Other i.asked c.in_ok-days.ensures.asked;
      split = split_step _ _ _ _ e i.split c.in-Some.ensures.steps;
      answers = λ honest w shows.
          push_answered w c.loop-shared.yielded e c.in_ok-days.days c.loop-shared.new.items c.push.new.self.items
          (i.answers (asked.stays.outside honest) w shows) (told_of asked honest w (still i.stays shows)) c.in_ok-push.ensures.items;
    }

pub loop-shared-preserved : goal.loop-shared-preserved
loop-shared-preserved g c =
    let i = c.loop-shared.invariant in
    let asked = c.in_ok-days.ensures.days in
    let e : Entry = (c.in-Some.shared, c.in-Some.days) in
    let zero : c.in_ok-days.days.len ≡ 0 = search (rules, c.is_empty.ensures, c.if-not-is_empty.false) in
    let none : c.in_ok-days.days.items ≡ [] = none_left _ _ c.in_ok-days.days.ok.0 zero in record {
      stays = stays_on i.stays asked.stays;
      asked = Other i.asked c.in_ok-days.ensures.asked;
      split = split_step _ _ _ _ e i.split c.in-Some.ensures.steps;
      answers = λ honest w shows.
          pass_answered w c.loop-shared.yielded e c.in_ok-days.days.items c.loop-shared.new.items
          (i.answers (asked.stays.outside honest) w shows) (told_of asked honest w (still i.stays shows)) none;
    }

pub returns-clause-apart : goal.returns-clause-apart
returns-clause-apart g c = λ honest.
    let i = c.loop-shared.invariant in
    let old = g.K.ImportKeeper.kept c.args.keeper.now in
    apart_answered old.world c.args.together c.loop-shared.yielded c.loop-shared.new.items
    c.into_iter-shared-iterator.ensures.into_iter_gives.5 (split_end _ _ _ i.split c.in-None.ensures.steps.0)
    (i.answers honest old.world (λ sound. refl))

pub returns-clause-just : goal.returns-clause-just
returns-clause-just g c = λ honest w shows.
    let i = c.loop-shared.invariant in
    all_answered w c.args.together c.loop-shared.yielded c.loop-shared.new.items
    c.into_iter-shared-iterator.ensures.into_iter_gives.5 (split_end _ _ _ i.split c.in-None.ensures.steps.0)
    (i.answers honest w shows)

pub returns-clause-asked : goal.returns-clause-asked
returns-clause-asked g c = c.loop-shared.invariant.asked

pub returns-in_err-days-clause-asked : goal.returns-in_err-days-clause-asked
returns-in_err-days-clause-asked g c = Other c.loop-shared.invariant.asked c.days_without.ensures.asked

pub returns-in_err-push-clause-asked : goal.returns-in_err-push-clause-asked
returns-in_err-push-clause-asked g c = Other c.loop-shared.invariant.asked c.days_without.ensures.asked

pub returns-in_err-days-clause-apart : goal.returns-in_err-days-clause-apart
returns-in_err-days-clause-apart g c = λ honest. IfOk-from_err c.from_residual.result _ c.from_residual.ensures.0

pub returns-in_err-days-clause-just : goal.returns-in_err-days-clause-just
returns-in_err-days-clause-just g c = λ honest w shows. IfOk-from_err c.from_residual.result _ c.from_residual.ensures.0

pub returns-in_err-push-clause-apart : goal.returns-in_err-push-clause-apart
returns-in_err-push-clause-apart g c = λ honest. IfOk-from_err c.from_residual-in_err-push.result _ c.from_residual-in_err-push.ensures.0

pub returns-in_err-push-clause-just : goal.returns-in_err-push-clause-just
returns-in_err-push-clause-just g c = λ honest w shows. IfOk-from_err c.from_residual-in_err-push.result _ c.from_residual-in_err-push.ensures.0

pub returns-clause-stays : goal.returns-clause-stays
returns-clause-stays g c = c.loop-shared.invariant.stays

pub returns-in_err-days-clause-stays : goal.returns-in_err-days-clause-stays
returns-in_err-days-clause-stays g c = stays_on c.loop-shared.invariant.stays c.in_err-days.ensures.days.stays

pub returns-in_err-push-clause-stays : goal.returns-in_err-push-clause-stays
returns-in_err-push-clause-stays g c = stays_on c.loop-shared.invariant.stays c.in_ok-days.ensures.days.stays
