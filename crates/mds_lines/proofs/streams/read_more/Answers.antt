use Rattle.std.proofs.Common.{take, sym}
use Rattle.mds_lines.proofs.StreamSteps.{front_filled}
use Rattle.mds_lines.proofs.streams.read_more.Goals as goal

pub returns-in-Ok-clause-read : goal.returns-in-Ok-clause-read
returns-in-Ok-clause-read g c =
    let bytes = c.read.new.buffer in
    let n = c.in-Ok.count in record {
      bytes = take n bytes;
      many = sym c.in-Ok.ensures.bound.1;
      placed = front_filled (take c.args.filled c.args.buffer.now) bytes _ n c.in-Ok.ensures.bound.0;
      consumed = c.in-Ok.ensures.bytes.0;
      gave = c.in-Ok.ensures.gives;
    }
