use Rattle.std.proofs.Common.{List, ℕ, map, take}
use Rattle.mds_quantity.specs.Append.{Appends}
use Rattle.mds_export.specs.Exports.{AreInTurn, run_row}
use Rattle.mds_export.specs.WriterSteps.{IsWritten}
use Rattle.mds_export.proofs.writer.write_runs.Given as goal

abbrev pub invariant-loop-run : goal.invariant-loop-run
invariant-loop-run l = (text : List ℕ) × AreInTurn IsWritten (map run_row (take l.run-index l.runs)) text
    × Appends l.initial.out.items l.out.items text
