use Rattle.std.proofs.Common.{◌≡◌, ℕ, take}
use Rattle.std.specs.List.{flat_map}
use Rattle.mds_statements.specs.Delivered.{block_statements}
use Rattle.mds_statements.proofs.copies.copy_blocks.Given as goal

abbrev pub invariant-loop-block : goal.invariant-loop-block
invariant-loop-block l = (moment : ℕ)
    → flat_map (block_statements moment) l.copies.items ≡ flat_map (block_statements moment) (take l.block-index l.blocks)
