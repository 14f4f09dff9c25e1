use Rattle.std.proofs.Common.{subst}
use Rattle.std.specs.Prelude.{Err, Ok}
use Rattle.mds_keeper.specs.DayMergeSteps.{AreHeld}
use Rattle.mds_keeper.proofs.WholeDays.{held_first, held_same, length_is}
use Rattle.mds_keeper.proofs.day_merge.count_in_whole.Goals as goal

pub returns-in-Some : goal.returns-in-Some
returns-in-Some c = λ minutes of_length.
    subst (λ n. AreHeld c.args.book.now n c.args.update c.args.readings.now (Err c.in-Some.interval))
    (length_is c.args.book.now c.args.of_known c.args.update c.args.known.now c.requires.known c.requires.some minutes of_length)
    (held_first c.args.book.now c.args.of_known c.args.update c.args.known.now c.requires.known _ c.requires.as_many _ c.in-Some.ensures.some)

pub returns-in-None : goal.returns-in-None
returns-in-None c = λ minutes of_length.
    subst (λ n. AreHeld c.args.book.now n c.args.update c.args.readings.now (Ok c.len.result))
    (length_is c.args.book.now c.args.of_known c.args.update c.args.known.now c.requires.known c.requires.some minutes of_length)
    (held_same c.args.book.now c.args.of_known c.args.update c.args.known.now c.requires.known _ c.in-None.ensures.none _ c.len.ensures.value)
