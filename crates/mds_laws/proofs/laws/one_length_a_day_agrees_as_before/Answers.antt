use Rattle.mds_laws.proofs.AnyOrder.{agrees_as_before}
use Rattle.mds_laws.proofs.laws.one_length_a_day_agrees_as_before.Goals as goal

pub returns : goal.returns
returns c = agrees_as_before
