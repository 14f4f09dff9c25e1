-- An order of the facts, so that they can be members of finite sets (profile). It doesn't matter which order it
-- is.
use Rattle.std.specs.declared.cmp.Ordering.{Ordering}
use Rattle.std.specs.Cmp.{IsTotalOrder}
use Rattle.std.specs.FinSet.{IsAntisymmetric}
use Rattle.mds_world.specs.FactCodes.{coded_fact}
use Rattle.mds_world.specs.Facts.{Fact}
use Rattle.mds_world.specs.Order.{coded_cmp, coded_total, coded_exact}

pub fact_cmp : Fact → Fact → Ordering
fact_cmp = coded_cmp coded_fact

pub total : IsTotalOrder fact_cmp
unfolding fact_cmp
total = coded_total coded_fact

-- facts that compare equal are the same
pub exact : IsAntisymmetric fact_cmp
unfolding fact_cmp
exact = coded_exact coded_fact
