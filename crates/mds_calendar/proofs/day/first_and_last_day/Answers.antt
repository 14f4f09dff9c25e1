use Rattle.mds_calendar.proofs.Days.{first_day_text, last_day_text}
use Rattle.mds_calendar.proofs.day.first_and_last_day.Goals as goal

pub returns-clause-first : goal.returns-clause-first
returns-clause-first c = first_day_text

pub returns-clause-last : goal.returns-clause-last
returns-clause-last c = last_day_text
