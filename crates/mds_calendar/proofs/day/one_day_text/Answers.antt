use Rattle.mds_calendar.proofs.Days
use Rattle.mds_calendar.proofs.day.one_day_text.Goals as goal

pub returns : goal.returns
returns c = λ a b day h k. Days.one_day_text a b day h k
