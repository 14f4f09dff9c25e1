use Rattle.std.proofs.Common.{◌≡◌, None, List, ℕ, take, option_map}
use Rattle.std.specs.List.{last_or}
use Rattle.mds_quantity.specs.Append.{Appends}
use Rattle.mds_export.specs.Placed.{placed_after}
use Rattle.mds_export.specs.WriterSteps.{AreWritten}
use Rattle.mds_export.proofs.writer.write_stream.Given as goal

abbrev pub invariant-loop-day : goal.invariant-loop-day
invariant-loop-day l = record {
  done : (text : List ℕ) × AreWritten (placed_after l.selected None (take l.day-index l.selected.days.items)) text
      × Appends l.initial.out.items l.out.items text;
  before : option_map (λ before. before.now) l.before ≡ last_or None (take l.day-index l.selected.days.items);
}
