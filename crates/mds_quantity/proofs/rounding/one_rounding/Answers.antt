use Rattle.mds_quantity.proofs.Nearest.{only_one}
use Rattle.mds_quantity.proofs.rounding.one_rounding.Goals as goal

pub returns : goal.returns
returns c = only_one
