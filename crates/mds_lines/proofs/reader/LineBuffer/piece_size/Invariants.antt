use Rattle.std.proofs.Common.{◌≡◌, ◌≢◌, ◌+◌, ◌-◌, ◌*◌, ◌≤◌, length, take}
use Rattle.std.specs.Prelude.{if◌then◌else◌}
use Rattle.std.specs.List.{All}
use Rattle.std.specs.Io.KnownBytes.{Keeps}
use Rattle.mds_lines.specs.Buffered.{text_left}
use Rattle.mds_lines.specs.Lines.{line_feed}
use Rattle.mds_lines.proofs.Gathered.{Gathered}
use Rattle.mds_lines.proofs.reader.LineBuffer.piece_size.Given as goal

abbrev pub invariant-loop-more : goal.invariant-loop-more
invariant-loop-more g l = record {
  seen : l.seen ≤ length l.self.pending;
  apart : All (λ byte. byte ≢ line_feed) (take l.seen l.self.pending);
  left : Keeps (text_left l.fn.self (g.R.Source.remaining l.fn.source)) (text_left l.self (g.R.Source.remaining l.source));
  number : l.self.number ≡ l.fn.self.number;
  fault : l.self.fault ≡ l.fn.self.fault;
  failures : g.R.Source.failures l.source ≡ g.R.Source.failures l.fn.source;
  gathered : Gathered g.R.Source.gives l.fn.source l.source l.fn.self l.self;
}

abbrev pub decreases-loop-more : goal.decreases-loop-more
decreases-loop-more g l = (16_385 - length l.self.pending) * 2 + (if l.self.is_ended then 0 else 1)
