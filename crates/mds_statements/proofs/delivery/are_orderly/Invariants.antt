use Rattle.std.proofs.Common.{◌≡◌, drop, None}
use Rattle.mds_statements.specs.OrderlySteps.{blocks_follow}
use Rattle.mds_statements.proofs.delivery.are_orderly.Given as goal

abbrev pub invariant-loop-block : goal.invariant-loop-block
invariant-loop-block l = blocks_follow None l.blocks ≡ blocks_follow l.last (drop l.block-index l.blocks)
