use Rattle.std.proofs.Common.{◌≡◌, ◌-◌, length}
use Rattle.mds_world.specs.World.{World}
use Rattle.mds_jobs.specs.Jobs.{content_of}
use Rattle.mds_fill.specs.Fills.{IsContext}
use Rattle.mds_fill.specs.FillSteps.{AreFilled, IsSource}
use Rattle.mds_fill.proofs.filling.readings.Given as goal

abbrev pub invariant-loop-interval : goal.invariant-loop-interval
invariant-loop-interval l = record {
  count : length l.readings.items ≡ l.interval - l.job.first;
  filled : (w : World) → IsContext w (content_of l.job) l.context → IsSource w (content_of l.job) l.source
      → AreFilled w (content_of l.job) (l.interval - l.job.first) l.readings.items;
}
