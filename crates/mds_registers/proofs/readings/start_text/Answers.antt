use Rattle.mds_registers.proofs.PlainRows.{start_made}
use Rattle.mds_registers.proofs.readings.start_text.Goals as goal

pub returns : goal.returns
returns c =
    start_made c.args.date.now c.two_digits.result c.two_digits-2.result c.args.minutes c.told-date c.two_digits.ensures
    c.two_digits-2.ensures
