use Rattle.std.proofs.Common.{◌∙◌}
use Rattle.mds_calendar.proofs.Numbers.{weekday_is}
use Rattle.mds_calendar.proofs.day.Day.weekday.Goals as goal

pub returns : goal.returns
returns c = c.weekday_of.ensures ∙ (c.weekday.ensures ∙ weekday_is c.date.result c.args.self c.date.ensures)
