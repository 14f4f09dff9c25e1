use Rattle.std.proofs.Common.{refl}
use Rattle.mds_keeper.specs.LentVersions.{lent_reading}
use Rattle.mds_registers.proofs.BookReadings.{final_by, final_without, not_final}
use Rattle.mds_registers.proofs.stretches.final_mark.Goals as goal

pub returns-in_default : goal.returns-in_default
returns-in_default c = λ w is.
    final_without w c.args.book.now c.args.interval is c.is_lawful.ensures c.in_default.ensures.reading

pub returns-then-flag-eq-FINAL : goal.returns-then-flag-eq-FINAL
returns-then-flag-eq-FINAL c = λ w is.
    let version = c.in-Some.version in
    final_by w c.args.book.now c.args.interval (lent_reading version) version.mark.now c.flag.result is
    c.in-Some.ensures.reading refl c.flag.ensures.value c.if-flag-eq-FINAL.true

pub returns-else-flag-eq-FINAL : goal.returns-else-flag-eq-FINAL
returns-else-flag-eq-FINAL c = λ w is.
    let version = c.in-Some.version in
    not_final w c.args.book.now c.args.interval (lent_reading version) version.mark.now c.flag.result is
    c.is_lawful.ensures c.in-Some.ensures.reading refl c.flag.ensures.value c.if-flag-eq-FINAL.false
