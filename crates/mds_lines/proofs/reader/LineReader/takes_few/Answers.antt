use Rattle.mds_lines.proofs.HasTakens.{taken_none, taken_next, taken_bound}
use Rattle.mds_lines.proofs.reader.LineReader.takes_few.Goals as goal

pub returns-clause-begins : goal.returns-clause-begins
returns-clause-begins g c = λ source. taken_none g.R.Source.gives source

pub returns-clause-goes_on : goal.returns-clause-goes_on
returns-clause-goes_on g c = λ begin old new result h n. taken_next g.R.Source.remaining g.R.Source.failures g.R.Source.gives begin old new result h n

pub returns-clause-bound : goal.returns-clause-bound
returns-clause-bound g c = λ begin now buffered taken. taken_bound g.R.Source.gives begin now buffered taken
