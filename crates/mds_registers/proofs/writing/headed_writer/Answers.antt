use Rattle.std.proofs.Common.{[]}
use Rattle.mds_registers.proofs.writing.headed_writer.Goals as goal

pub returns : goal.returns
returns c = c.in_ok-write_row.ensures [] c.new_writer-writer.ensures
