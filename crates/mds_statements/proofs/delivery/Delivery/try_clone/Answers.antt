use Rattle.std.proofs.Common.{◌∙◌, ap}
use Rattle.std.specs.List.{flat_map}
use Rattle.mds_statements.specs.Delivered.{block_statements}
use Rattle.mds_statements.proofs.Copied.{orderly_copies}
use Rattle.mds_statements.proofs.delivery.Delivery.try_clone.Goals as goal

pub invariant_of-result : goal.invariant_of-result
invariant_of-result c = record {
  orderly = orderly_copies c.args.self.now.blocks.items c.in_ok-blocks.blocks.items
      (λ moment. c.in_ok-blocks.ensures.value moment ∙ ap (flat_map (block_statements moment)) c.deref.ensures.value) c.args.self.now.orderly;
}
