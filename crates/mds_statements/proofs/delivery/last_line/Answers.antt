use Rattle.mds_statements.proofs.OrderlyTests.{last_line_at}
use Rattle.mds_statements.proofs.delivery.last_line.Goals as goal

pub returns-in-Some : goal.returns-in-Some
returns-in-Some c = last_line_at c.args.before c.args.days.now c.in-Some.day.now c.in-Some.ensures.item.3.0 c.in-Some.ensures.item.1
