use Rattle.mds_calendar.proofs.Days.{one_day_text}
use Rattle.mds_calendar.proofs.Moments.{one_moment_text}
use Rattle.mds_jobs.proofs.BodyParts.{body_read, job_back, job_said}
use Rattle.mds_jobs.proofs.BodyTexts.{one_body}
use Rattle.mds_jobs.proofs.body.bodies_read_back.Goals as goal

pub returns-clause-parts : goal.returns-clause-parts
returns-clause-parts c = λ job body l b. body_read job body l b

pub returns-clause-says : goal.returns-clause-says
returns-clause-says c = λ job body l b. job_back job body l b

pub returns-clause-only : goal.returns-clause-only
returns-clause-only c =
    λ job a b x y.
    one_body job a b x y (one_day_text x.date y.date job.day x.day y.day) (one_moment_text x.update y.update job.update x.moment y.moment)

pub returns-clause-one : goal.returns-clause-one
returns-clause-one c = λ parts job r. job_said parts job r
