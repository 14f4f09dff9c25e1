use Rattle.std.proofs.Common.{◌≡◌, ℕ, take}
use Rattle.std.specs.List.{flat_map}
use Rattle.mds_statements.specs.Delivered.{day_statements}
use Rattle.mds_statements.specs.declared.blocks.Block.{Block}
use Rattle.mds_statements.proofs.copies.copy_days.Given as goal

abbrev pub invariant-loop-day : goal.invariant-loop-day
invariant-loop-day l = (moment : ℕ) (block : Block)
    → flat_map (day_statements moment block) l.copies.items ≡ flat_map (day_statements moment block) (take l.day-index l.days)
