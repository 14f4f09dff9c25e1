-- How blocks are tested for their order: private steps.
use Rattle.std.specs.Prelude.{ℕ, Bool, true, ◌&&◌, ◌==◌, List, [], ◌∷◌, length, nat_lt, Option, None, Some}
use Rattle.mds_calendar.specs.Length.{count_of}
use Rattle.mds_statements.specs.declared.blocks.Block.{Block}
use Rattle.mds_statements.specs.declared.blocks.DeliveredDay.{DeliveredDay}

-- a line comes after the last line, if there is one
abbrev pub is_after : Option ℕ → ℕ → Bool
is_after None line = true
is_after (Some last) line = nat_lt last line

-- a day comes after the last line, and has `count` readings
abbrev pub day_follows : ℕ → Option ℕ → DeliveredDay → Bool
day_follows count last day = is_after last day.line && (length day.readings == count)

-- days follow a last line, each the one before
abbrev pub days_follow : ℕ → Option ℕ → List DeliveredDay → Bool
days_follow count last [] = true
days_follow count last (day ∷ days) = day_follows count last day && days_follow count (Some day.line) days

-- the last line after these days
abbrev pub last_line : Option ℕ → List DeliveredDay → Option ℕ
last_line last [] = last
last_line last (day ∷ days) = last_line (Some day.line) days

-- the days of blocks follow a last line, each the one before
abbrev pub blocks_follow : Option ℕ → List Block → Bool
blocks_follow last [] = true
blocks_follow last (block ∷ blocks) =
    days_follow (count_of block.length) last block.days.items && blocks_follow (last_line last block.days.items) blocks
