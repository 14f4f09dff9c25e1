use Rattle.std.proofs.Common.{◌<◌, subst, unsigned_abs}
use Rattle.mds_quantity.specs.Quantity.{limit}
use Rattle.mds_registers.proofs.PlainRows.{plain_written}
use Rattle.mds_registers.proofs.readings.put_value.Goals as goal

pub returns-clause-plain : goal.returns-clause-plain
returns-clause-plain c =
    let small = subst (λ z. unsigned_abs z < limit) c.millionths.ensures.value c.millionths.ensures.small in
    rw c.in-Some.is (plain_written c.in-Some.value small)
