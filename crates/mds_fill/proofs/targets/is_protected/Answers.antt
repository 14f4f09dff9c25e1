use Rattle.std.proofs.Common.{false}
use Rattle.mds_keeper.specs.LentVersions.{lent_reading}
use Rattle.mds_world.specs.Current.{no_reading}
use Rattle.mds_fill.proofs.BookValues.{bare_is_neither, protects}
use Rattle.mds_fill.proofs.targets.is_protected.Goals as goal

pub returns-in-Some : goal.returns-in-Some
returns-in-Some c = λ w s d is.
    protects w s d _ c.args.interval (lent_reading c.in-Some.version) c.is_actual_or_final.result is c.is_lawful.ensures
    c.in-Some.ensures.reading c.is_actual_or_final.ensures

pub returns-in-None : goal.returns-in-None
returns-in-None c = λ w s d is.
    protects w s d _ c.args.interval no_reading false is c.is_lawful.ensures c.in-None.ensures.reading bare_is_neither
