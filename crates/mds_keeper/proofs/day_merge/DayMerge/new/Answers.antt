use Rattle.std.proofs.Common.{ap}
use Rattle.mds_keeper.specs.DayMergeSteps.{claimed_entries}
use Rattle.mds_keeper.proofs.Taken.{new_merge, none_in_book}
use Rattle.mds_keeper.proofs.Walks.{counts_none}
use Rattle.mds_keeper.proofs.day_merge.DayMerge.new.Goals as goal

pub invariant_of-result : goal.invariant_of-result
invariant_of-result c =
    let none = ap (claimed_entries c.args.book) c.new.ensures in (
      new_merge _ _ _ _ c.form.ensures.rows c.form.ensures.unit c.unit-unit.ensures none c.is_lawful.ensures,
      none_in_book _ _ c.new.ensures,
      counts_none _ _ none,
    )
