use Rattle.std.proofs.Common.{subst, sym}
use Rattle.std.specs.Bool.{MatchBool}
use Rattle.mds_keeper.specs.BookRows.{Fits, Misfits}
use Rattle.mds_keeper.proofs.BooksMade.{fit_none, fit_some, no_unit, some_unit}
use Rattle.mds_keeper.proofs.day_book.fit.Goals as goal

pub returns-then-is_none : goal.returns-then-is_none
returns-then-is_none c =
    subst (λ b. MatchBool b (Fits c.args.unit c.args.rows.now) (Misfits c.args.unit c.args.rows.now))
    (sym c.is_empty.ensures) (fit_none c.args.unit c.args.rows.now (no_unit c.args.unit c.is_none.result c.is_none.ensures c.if-is_none.true))

pub returns : goal.returns
returns c =
    let some = some_unit c.args.unit c.is_none.result c.is_none.ensures c.if-is_none.false in
    fit_some c.args.unit c.args.rows.now some.0 c.are_within.result some.1 c.requires c.are_within.ensures
