use Rattle.std.proofs.Common.{subst}
use Rattle.mds_keeper.specs.BookOrder.{HasStep}
use Rattle.mds_keeper.proofs.BookRowsMade.{two_readings}
use Rattle.mds_keeper.proofs.day_book.in_order.Goals as goal

pub returns-then-do_ascend-clause-some : goal.returns-then-do_ascend-clause-some
returns-then-do_ascend-clause-some c =
    (rw c.deref.ensures.value at c.if-do_ascend.ensures, record { kept = λ _ m. m; only = λ _ m. m })

pub returns-then-do_ascend-2-clause-some : goal.returns-then-do_ascend-2-clause-some
returns-then-do_ascend-2-clause-some c =
    (rw c.deref-2.ensures.value at c.if-do_ascend-2.ensures, c.put_in_order.ensures.members)

pub returns-else-do_ascend-2-clause-none : goal.returns-else-do_ascend-2-clause-none
returns-else-do_ascend-2-clause-none c =
    two_readings c.args.rows.items c.put_in_order.new.rows.items c.put_in_order.ensures.members
    c.put_in_order.ensures.sorted (subst HasStep c.deref-2.ensures.value c.if-do_ascend-2.ensures)
