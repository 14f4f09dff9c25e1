use Rattle.std.proofs.Common.{rules}
use Rattle.mds_ranges.proofs.Lasting.{first_lasts, last_lasts}
use Rattle.mds_ranges.proofs.selecting.details_on.Goals as goal

pub returns-in-Some : goal.returns-in-Some
returns-in-Some c = λ w s first last from to is are.
    let item = c.in-Some.ensures.item in
    let here = last_lasts w s first c.args.day c.rows_upto.result.now (c.rows_upto.ensures w s first last to are) c.in-Some.row.now
    item.3.0 item.1 in
    search (rules, here)

pub returns-in-None : goal.returns-in-None
returns-in-None c = λ w s first last from to is are.
    let here = first_lasts w s first c.args.day c.rows_upto.result.now (c.rows_upto.ensures w s first last to are) c.args.at_first.now
    c.in-None.ensures.item.3 from is in
    search (rules, here)
