use Rattle.std.proofs.Common.{List, ℕ, take}
use Rattle.mds_quantity.specs.Append.{Appends}
use Rattle.mds_export.specs.Placed.{placed_days}
use Rattle.mds_export.specs.WriterSteps.{AreWritten}
use Rattle.mds_export.proofs.writer.write_streams.Given as goal

abbrev pub invariant-loop-selected : goal.invariant-loop-selected
invariant-loop-selected l = (text : List ℕ) × AreWritten (placed_days (take l.selected-index l.streams)) text
    × Appends l.initial.out.items l.out.items text
