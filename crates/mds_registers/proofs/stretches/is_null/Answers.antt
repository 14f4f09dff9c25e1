use Rattle.mds_keeper.specs.LentVersions.{lent_reading}
use Rattle.mds_registers.proofs.BookReadings.{null_by, null_without}
use Rattle.mds_registers.proofs.stretches.is_null.Goals as goal

pub returns-in-Some : goal.returns-in-Some
returns-in-Some c = λ w is.
    let version = c.in-Some.version in
    null_by w c.args.book.now c.args.interval (lent_reading version) c.flag.result is c.is_lawful.ensures
    c.in-Some.ensures.reading c.flag.ensures.value

pub returns-in-None : goal.returns-in-None
returns-in-None c = λ w is. null_without w c.args.book.now c.args.interval is c.in-None.ensures.reading
