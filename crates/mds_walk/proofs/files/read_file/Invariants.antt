use Rattle.std.proofs.Common.{◌≡◌, ◌-◌, length}
use Rattle.mds_walk.proofs.Sources.{IsReading}
use Rattle.mds_walk.proofs.files.read_file.Given as goal

abbrev pub invariant-loop-feeder : goal.invariant-loop-feeder
invariant-loop-feeder g l = record {
  reading : IsReading g.R.Source.gives l.fn.source l.source g.T.RecordSink.judge g.T.RecordSink.taken (g.R.Source.remaining l.fn.source) (g.R.Source.remaining l.source) l.count l.feeder;
  failures : g.R.Source.failures l.source ≡ g.R.Source.failures l.fn.source;
  size : length l.buffer ≡ 114_688;
}

abbrev pub decreases-loop-feeder : goal.decreases-loop-feeder
decreases-loop-feeder g l = 16_385_016_384 - l.count
