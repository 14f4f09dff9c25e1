use Rattle.std.proofs.Common.{◌≤◌, length, sym, arith}
use Rattle.std.proofs.lemmas.Bool.Decides.{nat_tests}
use Rattle.mds_statements.specs.Selected.{days_of, most_days}
use Rattle.mds_statements.proofs.SelectedTests.{orderly_tested}
use Rattle.mds_statements.proofs.selection.are_orderly.Goals as goal

pub returns-then-are_few : goal.returns-then-are_few
returns-then-are_few c =
    let few : length (days_of c.args.streams.now) ≤ most_days = grind (arith, nat_tests) in
    orderly_tested c.args.streams.now c.are_in_order.result few (sym c.are_in_order.ensures)
