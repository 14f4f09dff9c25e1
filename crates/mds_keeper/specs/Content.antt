-- The facts that additions add.
use Rattle.std.specs.Prelude.{◌≡◌, ◌≢◌, ℕ, ◌+◌, List, [], ◌∷◌, ◌++◌, length, map}
use Rattle.std.specs.List.{flat_map}
use Rattle.std.specs.FinSet as set
use Rattle.mds_calendar.specs.Length.{count_of}
use Rattle.mds_marks.specs.Reading.{ReadingValue}
use Rattle.mds_names.specs.declared.stream.Stream.{Stream}
use Rattle.mds_jobs.specs.Jobs.{content_of}
use Rattle.mds_jobs.specs.declared.job.Job.{Job}
use Rattle.mds_world.specs.declared.facts.Detail.{Detail}
use Rattle.mds_world.specs.declared.facts.Head.{Head}
use Rattle.mds_world.specs.declared.facts.Key.{Key}
use Rattle.mds_world.specs.declared.facts.StreamDay.{StreamDay}
use Rattle.mds_world.specs.Facts.{Fact, detail_at, key_at}
use Rattle.mds_statements.specs.declared.periods.Period.{Period}
use Rattle.mds_world.specs.Facts.Fact.{HeadIs, VersionIs, DetailIs, EventIs, PeriodIs, HolidayIs, JobIs}
use Rattle.mds_world.specs.Lists.{Apart, Member}
use Rattle.mds_world.specs.Sets.{◌∈◌}
use Rattle.mds_world.specs.World.{IsKnownDay, World}
use Rattle.mds_keeper.specs.declared.additions.Additions.{Additions}
use Rattle.mds_keeper.specs.declared.additions.DayVersions.{DayVersions}
use Rattle.mds_keeper.specs.declared.additions.DetailDays.{DetailDays}
use Rattle.mds_keeper.specs.declared.additions.VersionRows.{VersionRows}
use Rattle.mds_keeper.specs.declared.additions.VersionRows.TheVariants.{Each, Whole}
use Rattle.mds_keeper.specs.declared.day_book.Version.{Version}

-- the key of a version of a day of a stream, and its reading
abbrev pub version_at : Stream → ℕ → ℕ × Version → Key × ReadingValue
version_at stream day row =
    (key_at stream day row.1.length row.0 row.1.update, row.1.reading)

-- a version of each interval of a length, from one on, under an update
abbrev pub whole_rows : ℕ → ℕ → ℕ → List ReadingValue → List (ℕ × Version)
whole_rows minutes update interval [] = []
whole_rows minutes update interval (reading ∷ rest) =
    (interval, record { update = update; length = minutes; reading = reading }) ∷ whole_rows minutes update (interval + 1) rest

-- the versions of a day, each with its interval
abbrev pub rows_of : VersionRows → List (ℕ × Version)
rows_of (Each rows) = rows.items
rows_of (Whole minutes update readings) = whole_rows minutes update 1 readings

-- A list isn't empty. The readings of a whole day are one for each interval of their length.
abbrev pub AreWellFormed : VersionRows → Type 0
AreWellFormed (Each rows) = rows.items ≢ []
AreWellFormed (Whole minutes update readings) = length readings ≡ count_of minutes

abbrev pub day_versions : DayVersions → List (Key × ReadingValue)
day_versions day = map (version_at day.stream day.day) (rows_of day.rows)

-- the versions of days, one day after the other
abbrev pub versions_of : List DayVersions → List (Key × ReadingValue)
versions_of days = flat_map day_versions days

-- days come after others, and the versions of each are well formed
abbrev pub AreMoreDays : List DayVersions → List DayVersions → Type 0
AreMoreDays old new =
    (more : List DayVersions) × (new ≡ old ++ more) × ((day : DayVersions) → Member day more → AreWellFormed day.rows)

abbrev pub version_fact : Key × ReadingValue → Fact
version_fact version = VersionIs version.0 version.1

abbrev pub period_fact : Period → Fact
period_fact period = PeriodIs period.key period.content

abbrev pub job_fact : Job × ℕ → Fact
job_fact job = JobIs job.0.id (content_of job.0) job.1

-- the details of one of these days
abbrev pub detail_on : DetailDays → ℕ → Detail
detail_on details day = detail_at details.stream day details.moment details.details

-- the details of each of these days
abbrev pub details_on : DetailDays → List Detail
details_on details = map (detail_on details) details.days.items

-- the details of days, one after the other
abbrev pub details_of : List DetailDays → List Detail
details_of groups = flat_map details_on groups

-- the heads: those of new days, and then the others
abbrev pub heads_of : Additions → List Head
heads_of additions = additions.new_days.items ++ additions.heads.items

-- the facts of each list, one list after the other
abbrev pub content_facts : Additions → List Fact
content_facts additions =
    map HeadIs (heads_of additions) ++ map version_fact (versions_of additions.days.items)
    ++ map DetailIs (details_of additions.details.items) ++ map EventIs additions.events.items
    ++ map period_fact additions.periods.items ++ map HolidayIs additions.holidays.items ++ map job_fact additions.jobs.items

abbrev pub content : Additions → World
content additions = set.from_list (content_facts additions)

-- No fact occurs twice, and none is known yet.
pub record AreNew (w : World) (additions : Additions) : Type 0 where
  pub apart : Apart (content_facts additions)
  pub absent : (f : Fact) → Member f (content_facts additions) → f ∈ w → ⊥

-- the stream and the day of a head
abbrev pub place_of : Head → StreamDay
place_of head = record { stream = head.stream; day = head.day }

-- Added heads, with those of new days listed separately. A day that isn't known has one there, and no known day has any.
pub record AreOfNewDays (w : World) (new_days heads : List Head) : Type 0 where
  pub new : (head : Head) → Member head new_days → IsKnownDay w head.stream head.day → ⊥
  pub once : Apart (map place_of new_days)
  pub further : (head : Head) → Member head heads → (IsKnownDay w head.stream head.day → ⊥)
      → Member (place_of head) (map place_of new_days)

-- Each addition is in its place. The first head of a day that isn't known is listed separately, and the versions of each day are
-- well formed.
pub record AreInPlace (w : World) (additions : Additions) : Type 0 where
  pub first : AreOfNewDays w additions.new_days.items additions.heads.items
  pub days : (day : DayVersions) → Member day additions.days.items → AreWellFormed day.rows
