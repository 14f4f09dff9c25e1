-- The rows of accumulations and of jobs, as they are put.
use Rattle.std.specs.Prelude.{◌≡◌, ℕ, pos, string_bytes}
use Rattle.mds_jobs.specs.Bodies.{IsJobBody, job_in, parts_of}
use Rattle.mds_jobs.specs.Jobs.{content_of}
use Rattle.mds_jobs.specs.declared.job.Job.{Job}
use Rattle.mds_statements.specs.Bodies.{IsPeriodBody}
use Rattle.mds_statements.specs.declared.periods.Period.{Period}
use Rattle.mds_tables.specs.declared.jobs.JobRow.{JobRow}
use Rattle.mds_tables.specs.declared.periods.PeriodRow.{PeriodRow}

-- the row is that of the accumulation
pub record IsRowOfPeriod (period : Period) (row : PeriodRow) : Type 0 where
  pub key : row.key ≡ period.key
  pub body : IsPeriodBody period (string_bytes row.body)

-- the row is that of the job, and says what the job does
pub record IsRowOfJob (job : Job × ℕ) (row : JobRow) : Type 0 where
  pub id : row.id ≡ job.0.id
  pub body : IsJobBody (content_of job.0) (string_bytes row.body)
  pub says : job_in (parts_of (string_bytes row.body)) ≡ content_of job.0
  pub count : row.count ≡ pos job.1
