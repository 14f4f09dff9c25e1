use Rattle.std.specs.Prelude.{◌≡◌, ◌↔◌, ◌++◌}
use Rattle.mds_keeper.specs.Content.{details_of}
use Rattle.mds_world.specs.declared.facts.Detail.{Detail}
use Rattle.mds_world.specs.Lists.{Member}
use Rattle.mds_service.specs.SharedDays.{HasDetail}
use Rattle.mds_service.proofs.SharedDays.{shared_cmp}
use Rattle.mds_service.proofs.details.put_together.Given as goal

abbrev pub invariant-loop-group : goal.invariant-loop-group
invariant-loop-group l = record {
  split : l.yielded ++ l.group-iterator.rest.items ≡ l.fn.details.items;
  has : (detail : Detail) → HasDetail shared_cmp l.together detail ↔ Member detail (details_of l.yielded);
}
