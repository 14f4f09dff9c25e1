use Rattle.std.proofs.Common.{length, rules, subst, sym}
use Rattle.mds_keeper.specs.DayMergeSteps.{AreAsMany}
use Rattle.mds_keeper.proofs.Walks.{held_none}
use Rattle.mds_keeper.proofs.WholeDays.{as_many_whole, none_other}
use Rattle.mds_keeper.proofs.day_merge.count_held.Goals as goal

pub returns-then-ne : goal.returns-then-ne
returns-then-ne c =
    λ minutes of_length. held_none c.args.book.now minutes c.args.update
    (none_other c.args.book.now c.in-Whole.length c.in-Whole.of_all c.in-Whole.known.now (sym c.in-Whole.ensures.value) c.args.update (search rules) minutes)
    c.args.readings.now

pub count_in_whole-requires-clause-as_many : goal.count_in_whole-requires-clause-as_many
count_in_whole-requires-clause-as_many c =
    as_many_whole c.args.book.now _ _ _ (sym c.in-Whole.ensures.value) c.in-Whole.ensures.whole _
    (subst (λ u. AreAsMany c.args.book.now u (length c.args.readings.now)) (search rules) c.requires.whole)
