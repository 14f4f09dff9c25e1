use Rattle.mds_calendar.proofs.Lengths.{length_reads_back}
use Rattle.mds_calendar.proofs.length.lengths_read_back.Goals as goal

pub returns : goal.returns
returns c = λ minutes h. length_reads_back minutes h
