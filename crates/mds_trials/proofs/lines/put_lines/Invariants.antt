use Rattle.std.proofs.Common.{◌≡◌, None}
use Rattle.mds_lines.specs.Readers.{reader_source, reader_lines}
use Rattle.mds_trials.proofs.lines.put_lines.Given as goal

abbrev pub invariant-loop : goal.invariant-loop
invariant-loop g l = record {
  failures : g.R.Source.failures (reader_source l.reader) ≡ 0;
  faultless : (reader_lines l.reader).fault ≡ None;
}
