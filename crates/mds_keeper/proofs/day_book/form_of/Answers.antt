use Rattle.std.proofs.Common.{sym, ◌∙◌}
use Rattle.mds_keeper.proofs.BooksMade.{form_of_length, some_length}
use Rattle.mds_keeper.proofs.day_book.form_of.Goals as goal

pub returns-in_err-length-clause-form : goal.returns-in_err-length-clause-form
returns-in_err-length-clause-form c =
    absurd (some_length c.args.rows.now c.in_ok-update.update (sym c.in_ok-update.was ∙ c.greatest_update.ensures) c.in_err-length.ensures)

pub returns-in_err-length-clause-unit : goal.returns-in_err-length-clause-unit
returns-in_err-length-clause-unit c =
    absurd (some_length c.args.rows.now c.in_ok-update.update (sym c.in_ok-update.was ∙ c.greatest_update.ensures) c.in_err-length.ensures)

pub returns-clause-form : goal.returns-clause-form
returns-clause-form c =
    form_of_length c.args.rows.now c.in_ok-update.update (sym c.in_ok-update.was ∙ c.greatest_update.ensures)
    (c.in_ok-length.length, c.in_ok-unit.unit) c.in_ok-length.ensures
