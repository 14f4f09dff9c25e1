use Rattle.mds_calendar.proofs.Numbers.{first_number}
use Rattle.mds_calendar.proofs.day.first_date.Goals as goal

pub returns : goal.returns
returns c = first_number c.date.result c.date.ensures
