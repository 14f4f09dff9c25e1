use Rattle.std.proofs.Common.{◌≡◌, ◌++◌}
use Rattle.mds_keeper.specs.Content.{details_of}
use Rattle.mds_memory.specs.StoredDetails.{all_details}
use Rattle.mds_memory.proofs.stored_details.meters_of.Given as goal

abbrev pub invariant-loop-group : goal.invariant-loop-group
invariant-loop-group l =
    all_details l.meters.items ++ details_of l.group-iterator.rest.items ≡ details_of l.fn.details.items
