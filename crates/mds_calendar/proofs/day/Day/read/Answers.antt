use Rattle.std.proofs.Common.{◌∙◌, sym}
use Rattle.mds_calendar.proofs.Days.{day_of_other, no_year, no_month, no_day, day_is}
use Rattle.mds_calendar.proofs.day.Day.read.Goals as goal

pub returns-then-text-ne8 : goal.returns-then-text-ne8
returns-then-text-ne8 c = sym (day_of_other c.args.text.now c.if-text-ne8.true)

pub returns-in_err-year : goal.returns-in_err-year
returns-in_err-year c = c.from_residual.ensures ∙ no_year c.args.text.now c.if-text-ne8.false c.in_err-year.ensures.value

pub returns-in_err-month : goal.returns-in_err-month
returns-in_err-month c =
    c.from_residual-in_err-month.ensures ∙ no_month c.args.text.now c.in_ok-year.year c.if-text-ne8.false c.in_ok-year.ensures.value c.in_err-month.ensures.value

pub returns-in_err-day : goal.returns-in_err-day
returns-in_err-day c =
    c.from_residual-in_err-day.ensures ∙ no_day c.args.text.now c.in_ok-year.year c.in_ok-month.month c.if-text-ne8.false c.in_ok-year.ensures.value c.in_ok-month.ensures.value c.in_err-day.ensures.value

pub returns-in_err-number : goal.returns-in_err-number
returns-in_err-number c =
    let e = day_is c.args.text.now c.in_ok-year.year c.in_ok-month.month c.in_ok-day.day c.if-text-ne8.false c.in_ok-year.ensures.value c.in_ok-month.ensures.value c.in_ok-day.ensures.value in
    c.from_residual-in_err-number.ensures ∙ (c.in_err-number.ensures.value ∙ sym e)

pub returns : goal.returns
returns c =
    let e = day_is c.args.text.now c.in_ok-year.year c.in_ok-month.month c.in_ok-day.day c.if-text-ne8.false c.in_ok-year.ensures.value c.in_ok-month.ensures.value c.in_ok-day.ensures.value in
    c.in_ok-number.ensures.value ∙ sym e
