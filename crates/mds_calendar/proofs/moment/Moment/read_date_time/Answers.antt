use Rattle.std.proofs.Common.{◌∙◌, ◌++◌, sym, ap, codes}
use Rattle.mds_calendar.specs.Calendar.{moment_of}
use Rattle.mds_calendar.proofs.Moments.{date_time_other, date_time_short}
use Rattle.mds_calendar.proofs.moment.Moment.read_date_time.Goals as goal

pub returns-then-text-ne12 : goal.returns-then-text-ne12
returns-then-text-ne12 c = c.read.ensures ∙ sym (date_time_other c.args.text.now c.if-text-ne12.true)

pub returns : goal.returns
returns c =
    c.read-2.ensures ∙ (ap (λ t. moment_of (t ++ codes "00")) c.copy_from_slice.ensures.after ∙ sym (date_time_short c.args.text.now c.if-text-ne12.false))
