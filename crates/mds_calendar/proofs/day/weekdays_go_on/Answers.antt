use Rattle.mds_calendar.proofs.Days.{first_weekday, next_weekday, same_weekday}
use Rattle.mds_calendar.proofs.day.weekdays_go_on.Goals as goal

pub returns-clause-first : goal.returns-clause-first
returns-clause-first c = first_weekday

pub returns-clause-next : goal.returns-clause-next
returns-clause-next c = λ day. next_weekday day

pub returns-clause-week : goal.returns-clause-week
returns-clause-week c = λ day. same_weekday day
