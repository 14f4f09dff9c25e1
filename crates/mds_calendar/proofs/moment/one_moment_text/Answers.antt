use Rattle.mds_calendar.proofs.Moments
use Rattle.mds_calendar.proofs.moment.one_moment_text.Goals as goal

pub returns : goal.returns
returns c = λ a b moment h k. Moments.one_moment_text a b moment h k
