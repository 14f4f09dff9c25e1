use Rattle.mds_quantity.proofs.Front.{on_err_from}
use Rattle.mds_keeper.proofs.Settled.{known_or_new, new_rows, settles, some_new}
use Rattle.mds_keeper.proofs.day_merge.DayMerge.settle.Goals as goal

pub settle_fresh-requires-clause-new_day : goal.settle_fresh-requires-clause-new_day
settle_fresh-requires-clause-new_day c = new_rows c.self.inside.book _ _ c.is_none-is_new_day.ensures c.form.ensures.rows

pub returns-clause-ok : goal.returns-clause-ok
returns-clause-ok c =
    settles _ _ _ c.self.invariant.0 c.is_lawful.ensures _ c.self.view_is _ _ _ _
    (known_or_new _ _ _ c.is_none-is_new_day.ensures c.form.ensures.some c.form.ensures.none) c.in_ok-settle_fresh.ensures.ok c.self.invariant.2

pub returns-in_err-settle_fresh-clause-memory : goal.returns-in_err-settle_fresh-clause-memory
returns-in_err-settle_fresh-clause-memory c =
    on_err_from c.from_residual.result _
    (some_new _ _ _ c.self.invariant.0 c.is_lawful.ensures _ c.self.view_is c.in_err-settle_fresh.ensures.memory)
