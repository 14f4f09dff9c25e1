-- The invariant of a delivery: its days are on ascending lines, each with a reading for each interval of its
-- length.
use Rattle.std.specs.Prelude.{◌≡◌, ◌<◌, List, length}
use Rattle.std.specs.List.{All, AllPairs, flat_map}
use Rattle.mds_calendar.specs.Length.{count_of}
use Rattle.mds_statements.specs.declared.blocks.Block.{Block}
use Rattle.mds_statements.specs.declared.blocks.DeliveredDay.{DeliveredDay}

-- the days of a block have a reading for each interval
abbrev pub IsWhole : Block → Type 0
IsWhole block = All (λ day. length day.readings ≡ count_of block.length) block.days.items

-- the days of all blocks, in their order
abbrev pub days_of_blocks : List Block → List DeliveredDay
days_of_blocks blocks = flat_map (λ block. block.days.items) blocks

pub record AreOrderly (blocks : List Block) : Type 0 where
  pub whole : All IsWhole blocks
  pub lines : AllPairs (λ a b. a.line < b.line) (days_of_blocks blocks)
