use Rattle.std.specs.Prelude.{◌↔◌}
use Rattle.std.proofs.Common.{subst}
use Rattle.mds_keeper.specs.Content.{details_of}
use Rattle.mds_world.specs.declared.facts.Detail.{Detail}
use Rattle.mds_world.specs.Lists.{Member}
use Rattle.mds_service.specs.SharedDays.{HasDetail}
use Rattle.mds_service.proofs.Collects.{none_left, split_end, split_step}
use Rattle.mds_service.proofs.SharedDays.{more_together, none_together, shared_cmp}
use Rattle.mds_service.proofs.details.put_together.Goals as goal

pub loop-group-init : goal.loop-group-init
loop-group-init c = record {
  split = c.into_iter-group-iterator.ensures.into_iter_gives.0;
  has = none_together c.new-together.result c.new-together.ensures.empty;
}

pub loop-group-preserved : goal.loop-group-preserved
loop-group-preserved c =
    let i = c.loop-group.invariant in
    record {
      split = split_step _ _ _ _ c.in-Some.group i.split c.in-Some.ensures.steps.0;
      has = more_together c.loop-group.together c.put_group.new.together c.loop-group.yielded c.in-Some.group i.has c.in_ok-put_group.ensures;
    }

pub returns : goal.returns
returns c =
    let i = c.loop-group.invariant in
    let all = split_end _ _ _ i.split (none_left _ _ c.loop-group.group-iterator.rest.ok.0 c.in-None.ensures.steps.0) in
    subst (λ groups. (detail : Detail) → HasDetail shared_cmp c.loop-group.together detail ↔ Member detail (details_of groups)) all i.has
