use Rattle.std.proofs.Common.{◌∙◌, Some, pos, w64, sym, ap, arith}
use Rattle.std.proofs.lemmas.Int.{to_z-of_z, fits_signed_from_abs}
use Rattle.mds_calendar.proofs.Moments.{moment_of_other, no_day_of, no_hour, no_minute, no_second, moment_is, time_holds, time_not}
use Rattle.mds_calendar.proofs.moment.Moment.read.Goals as goal

pub returns-then-text-ne14 : goal.returns-then-text-ne14
returns-then-text-ne14 c = sym (moment_of_other c.args.text.now c.if-text-ne14.true)

pub returns-in_err-day : goal.returns-in_err-day
returns-in_err-day c = c.from_residual.ensures ∙ no_day_of c.args.text.now c.if-text-ne14.false c.in_err-day.ensures

pub returns-in_err-hour : goal.returns-in_err-hour
returns-in_err-hour c = c.from_residual-in_err-hour.ensures ∙ no_hour c.args.text.now c.in_ok-day.day c.if-text-ne14.false c.in_ok-day.ensures c.in_err-hour.ensures.value

pub returns-in_err-minute : goal.returns-in_err-minute
returns-in_err-minute c = c.from_residual-in_err-minute.ensures ∙ no_minute c.args.text.now c.in_ok-day.day c.in_ok-hour.hour c.if-text-ne14.false c.in_ok-day.ensures c.in_ok-hour.ensures.value c.in_err-minute.ensures.value

pub returns-in_err-second : goal.returns-in_err-second
returns-in_err-second c = c.from_residual-in_err-second.ensures ∙ no_second c.args.text.now c.in_ok-day.day c.in_ok-hour.hour c.in_ok-minute.minute c.if-text-ne14.false c.in_ok-day.ensures c.in_ok-hour.ensures.value c.in_ok-minute.ensures.value c.in_err-second.ensures.value

pub returns-then-hour-gt23 : goal.returns-then-hour-gt23
returns-then-hour-gt23 c =
    let e = moment_is c.args.text.now c.in_ok-day.day c.in_ok-hour.hour c.in_ok-minute.minute c.in_ok-second.second c.if-text-ne14.false c.in_ok-day.ensures c.in_ok-hour.ensures.value c.in_ok-minute.ensures.value c.in_ok-second.ensures.value in
    let t = time_not c.in_ok-hour.hour c.in_ok-minute.minute c.in_ok-second.second (λ h m s. grind arith) in
    rw (e, t)

pub returns : goal.returns
returns c =
    let e = moment_is c.args.text.now c.in_ok-day.day c.in_ok-hour.hour c.in_ok-minute.minute c.in_ok-second.second c.if-text-ne14.false c.in_ok-day.ensures c.in_ok-hour.ensures.value c.in_ok-minute.ensures.value c.in_ok-second.ensures.value in
    let t = time_holds c.in_ok-hour.hour c.in_ok-minute.minute c.in_ok-second.second (omega arith) (omega arith) (omega arith) in
    let back = to_z-of_z w64 (pos c.in_ok-day.day) (fits_signed_from_abs w64 (pos c.in_ok-day.day) (omega arith)) in
    rw (e, t, c.number.ensures.value, back) (ap Some (omega arith))
