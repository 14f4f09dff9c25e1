-- What rows say of holidays and jobs that queries show. A shown row has no rowid: of a holiday it has the day, of a job
-- the body and the count.
use Rattle.std.specs.Prelude.{◌≡◌, ◌↔◌, ℕ, List, [], ◌∷◌, Option, Some, None}
use Rattle.sqlite.specs.declared.types.Value.TheVariants.{Null}
use Rattle.sqlite_value.specs.Order.{Row}
use Rattle.mds_jobs.specs.Bodies.{job_in, parts_of}
use Rattle.mds_jobs.specs.Jobs.{content_of}
use Rattle.mds_jobs.specs.declared.job.Job.{Job}
use Rattle.mds_world.specs.Facts.Fact.{HolidayIs}
use Rattle.mds_world.specs.Lists.{Member}
use Rattle.mds_tables.specs.RowFacts.{holiday_fact, natural_at, text_at}

-- the row says the holiday
abbrev pub SaysHoliday : Row → ℕ → Type 0
SaysHoliday row day = holiday_fact (Null ∷ row) ≡ HolidayIs day

-- the holidays of rows, in any order
abbrev pub AreHolidaysIn : List Row → List ℕ → Type 0
AreHolidaysIn rows days = (day : ℕ) → Member day days ↔ ((row : Row) × Member row rows × SaysHoliday row day)

-- the row says the job with this id, and its count
pub record SaysJob (id : List ℕ) (row : Row) (kept : Job × ℕ) : Type 0 where
  pub named : kept.0.id ≡ id
  pub content : content_of kept.0 ≡ job_in (parts_of (text_at row 0))
  pub count : natural_at row 1 ≡ kept.1

-- the job that the only row says
abbrev pub IsOnlyJob : List ℕ → List Row → Option (Job × ℕ) → Type 0
IsOnlyJob id rows None = rows ≡ []
IsOnlyJob id rows (Some kept) = (row : Row) × (rows ≡ row ∷ []) × SaysJob id row kept
