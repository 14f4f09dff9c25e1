-- What a substitution job fills in, and why it is refused (profile). The methods are those of the MDFF Specification, appendix
-- of method flags. Intervals are counted from 1 and days from 1 January 1970; values are in millionths.
use Rattle.std.specs.Prelude.{◌≡◌, ◌⊎◌, ◌+◌, ◌-◌, ◌*◌, ◌<◌, ◌≤◌, ℕ, ℤ, pos, ◌+ℤ◌, List, [], ◌∷◌, length, slice_get, Option, Some, None, IsSomeAnd, MatchOption}
use Rattle.mds_calendar.specs.Calendar.{last_day}
use Rattle.mds_calendar.specs.Length.{count_of}
use Rattle.mds_names.specs.declared.stream.Stream.{Stream}
use Rattle.mds_quantity.specs.Rounding.{IsRounded, line_times_steps}
use Rattle.mds_quantity.specs.declared.unit.Unit.{Unit as MeasureUnit}
use Rattle.mds_marks.specs.Quality.{actual, final}
use Rattle.mds_marks.specs.Reading.{ReadingValue}
use Rattle.mds_world.specs.Current.{IsDayReading, IsFormOf}
use Rattle.mds_world.specs.Facts.{JobContent, key_at}
use Rattle.mds_world.specs.Facts.Fact.{VersionIs, HolidayIs}
use Rattle.mds_world.specs.Sets.{◌∈◌}
use Rattle.mds_world.specs.World.{World}
use Rattle.mds_keeper.specs.Books.{BookValue, IsDay}
use Rattle.mds_keeper.specs.declared.refusal.Refusal.{Refusal}
use Rattle.mds_keeper.specs.declared.refusal.RefusalCode.{RefusalCode}
use Rattle.mds_keeper.specs.declared.refusal.RefusalCode.TheVariants.{Protected, StaleUpdate, NoLikeDay, TooLong, NoAnchor}
use Rattle.mds_fill.specs.Candidates.{IsCandidate}
use Rattle.mds_fill.specs.declared.context.Context.{Context}

-- an interval to be filled in, and the number of these
abbrev pub IsTarget : JobContent → ℕ → Type 0
IsTarget job i = (job.first ≤ i) × (i ≤ job.last)

abbrev pub target_count : JobContent → ℕ
target_count job = job.last + 1 - job.first

-- the flag A or F
abbrev pub IsActualOrFinal : ℕ → Type 0
IsActualOrFinal flag = (flag ≡ actual) ⊎ (flag ≡ final)

-- A usable value: that of a current reading A or F, on a day whose current length and unit are the job's.
pub record IsUsable (w : World) (job : JobContent) (day interval : ℕ) (value : ℤ) : Type 0 where
  pub known : IsFormOf w job.stream day job.length job.unit
  pub reading : ReadingValue
  pub shown : IsDayReading w job.stream day interval reading
  pub flag : IsActualOrFinal reading.mark.quality.flag
  pub same : reading.value ≡ Some value

-- The interval's current reading is A or F.
pub record IsProtected (w : World) (stream : Stream) (day interval : ℕ) : Type 0 where
  pub reading : ReadingValue
  pub shown : IsDayReading w stream day interval reading
  pub flag : IsActualOrFinal reading.mark.quality.flag

-- A version of the interval has an update that isn't before this one. It has the day's current length, if the day has one, and
-- needn't be current.
pub record IsStale (w : World) (stream : Stream) (day interval than : ℕ) : Type 0 where
  pub minutes : ℕ
  pub of_day : (length : ℕ) (unit : MeasureUnit) → IsFormOf w stream day length unit → length ≡ minutes
  pub update : ℕ
  pub reading : ReadingValue
  pub held : VersionIs (key_at stream day minutes interval update) reading ∈ w
  pub late : than ≤ update

abbrev pub IsProtectedTarget : World → JobContent → ℕ → Type 0
IsProtectedTarget w job i = IsTarget job i × IsProtected w job.stream job.day i

abbrev pub IsStaleTarget : World → JobContent → ℕ → Type 0
IsStaleTarget w job i = IsTarget job i × IsStale w job.stream job.day i job.update

-- no target is protected, and none is stale
pub record IsFree (w : World) (job : JobContent) : Type 0 where
  pub unprotected : (i : ℕ) → IsProtectedTarget w job i → ⊥
  pub fresh : (i : ℕ) → IsStaleTarget w job i → ⊥

-- more than two hours would be interpolated
abbrev pub IsTooLong : JobContent → Type 0
IsTooLong job = (job.method ≡ 17) × (120 < target_count job * job.length)

-- the day at a position among the candidates of the job's day, by the World's holidays
abbrev pub IsLike : World → JobContent → ℕ → ℕ → Type 0
IsLike w job place day = IsCandidate (λ holiday. HolidayIs holiday ∈ w) job.day place day

-- a day has a usable value for every target
abbrev pub HasAll : World → JobContent → ℕ → Type 0
HasAll w job day = (i : ℕ) → IsTarget job i → (value : ℤ) × IsUsable w job day i value

-- The nearest candidate that has a usable value for every target.
pub record IsNearestLike (w : World) (job : JobContent) (day : ℕ) : Type 0 where
  pub place : ℕ
  pub like : IsLike w job place day
  pub all : HasAll w job day
  pub nearest : (lesser other : ℕ) → lesser < place → IsLike w job lesser other → HasAll w job other → ⊥

-- the candidate at a position has this usable value at an interval
abbrev pub IsLikeValue : World → JobContent → ℕ → ℕ → ℤ → Type 0
IsLikeValue w job place i value = (day : ℕ) × IsLike w job place day × IsUsable w job day i value

-- the value found satisfies P, or no value does if none is found
abbrev pub Finds : (ℤ → Type 0) → Option ℤ → Type 0
Finds P found = MatchOption found ((value : ℤ) → P value → ⊥) P

-- The usable values of the four candidates at an interval, nearest first, if they have one.
pub record IsTally (w : World) (job : JobContent) (i : ℕ) (tally : List (Option ℤ)) : Type 0 where
  pub four : length tally ≡ 4
  pub each : (place : ℕ) (slot : Option ℤ) → slice_get tally place ≡ Some slot → Finds (IsLikeValue w job place i) slot

-- the sum of the values that are present, and how many there are
abbrev pub total : List (Option ℤ) → ℤ
total [] = pos 0
total (Some value ∷ rest) = value +ℤ total rest
total (None ∷ rest) = total rest

abbrev pub count_some : List (Option ℤ) → ℕ
count_some [] = 0
count_some (Some value ∷ rest) = 1 + count_some rest
count_some (None ∷ rest) = count_some rest

-- the usable value of the interval before the first target, which may be the last of the day before
abbrev pub IsValueBefore : World → JobContent → ℤ → Type 0
IsValueBefore w job value =
    ((1 < job.first) × IsUsable w job job.day (job.first - 1) value)
    ⊎ ((job.first ≡ 1) × ((day : ℕ) × (day + 1 ≡ job.day) × IsUsable w job day (count_of job.length) value))

-- the usable value of the interval after the last target, which may be the first of the day after
abbrev pub IsValueAfter : World → JobContent → ℤ → Type 0
IsValueAfter w job value =
    ((job.last < count_of job.length) × IsUsable w job job.day (job.last + 1) value)
    ⊎ ((job.last ≡ count_of job.length) × (job.day < last_day) × IsUsable w job (job.day + 1) 1 value)

-- 14: the value of the nearest like day
abbrev pub IsCopied : World → JobContent → ℕ → ℤ → Type 0
IsCopied w job i value = (day : ℕ) × IsNearestLike w job day × IsUsable w job day i value

-- 15: the mean of the like days
abbrev pub IsMean : World → JobContent → ℕ → ℤ → Type 0
IsMean w job i value =
    (tally : List (Option ℤ)) × IsTally w job i tally × (1 ≤ count_some tally)
    × IsRounded (total tally) (count_some tally) value

-- 17: the value on the line between the value before the targets and the one after them
abbrev pub IsOnLine : World → JobContent → ℕ → ℤ → Type 0
IsOnLine w job i value =
    (before after : ℤ) × IsValueBefore w job before × IsValueAfter w job after
    × IsRounded (line_times_steps before after (i + 1 - job.first) (target_count job)) (target_count job + 1) value

-- the value that fills a target, by the job's method
abbrev pub IsFilled : World → JobContent → ℕ → ℤ → Type 0
IsFilled w job i value =
    ((job.method ≡ 14) × IsCopied w job i value)
    ⊎ (((job.method ≡ 15) × IsMean w job i value)
    ⊎ (((job.method ≡ 17) × IsOnLine w job i value)
    ⊎ ((job.method ≡ 19) × (value ≡ pos 0))))

-- The reading that a job adds for a target: with its flag, method, code and text, and the value that fills the target.
pub record IsSubstitute (w : World) (job : JobContent) (i : ℕ) (reading : ReadingValue) : Type 0 where
  pub mark : reading.mark
      ≡ record { quality = record { flag = job.flag; method = job.method }; reason = record { code = job.code; text = job.text } }
  pub value : ℤ
  pub same : reading.value ≡ Some value
  pub filled : IsFilled w job i value

-- The readings that a job adds, one for each target in order, if it may be done.
pub record AreSubstitutes (w : World) (job : JobContent) (readings : List ReadingValue) : Type 0 where
  pub free : IsFree w job
  pub short : IsTooLong job → ⊥
  pub count : length readings ≡ target_count job
  pub each : (k : ℕ) (reading : ReadingValue) → slice_get readings k ≡ Some reading
      → IsSubstitute w job (job.first + k) reading

-- the first number that satisfies P
abbrev pub IsLeast : (ℕ → Type 0) → ℕ → Type 0
IsLeast P i = P i × ((j : ℕ) → P j → i ≤ j)

-- no candidate has all values, or for the mean some target has no value on any
abbrev pub LacksLikeDay : World → JobContent → Type 0
LacksLikeDay w job =
    ((job.method ≡ 14) × ((place day : ℕ) → IsLike w job place day → HasAll w job day → ⊥))
    ⊎ ((job.method ≡ 15)
    × ((i : ℕ) × IsTarget job i × ((place : ℕ) (value : ℤ) → IsLikeValue w job place i value → ⊥)))

-- a value next to the targets is missing
abbrev pub LacksAnchor : World → JobContent → Type 0
LacksAnchor w job =
    (job.method ≡ 17)
    × (((value : ℤ) → IsValueBefore w job value → ⊥) ⊎ ((value : ℤ) → IsValueAfter w job value → ⊥))

-- The rule that stops a job, and its interval, or 0: M5, M6, M8, M7 and M9, each only if none before it applies.
abbrev pub IsFillFault : World → JobContent → RefusalCode → ℕ → Type 0
IsFillFault w job Protected interval = IsLeast (IsProtectedTarget w job) interval
IsFillFault w job StaleUpdate interval =
    ((i : ℕ) → IsProtectedTarget w job i → ⊥) × IsLeast (IsStaleTarget w job) interval
IsFillFault w job TooLong interval = IsFree w job × IsTooLong job × (interval ≡ 0)
IsFillFault w job NoLikeDay interval = IsFree w job × LacksLikeDay w job × (interval ≡ 0)
IsFillFault w job NoAnchor interval = IsFree w job × (IsTooLong job → ⊥) × LacksAnchor w job × (interval ≡ 0)
IsFillFault w job _ interval = ⊥

-- The refusal has no line and no field.
pub record IsFillRefusal (w : World) (job : JobContent) (refusal : Refusal) : Type 0 where
  pub line : refusal.line ≡ 0
  pub field : refusal.field ≡ 0
  pub fault : IsFillFault w job refusal.code refusal.interval

-- The book of a day of a stream.
pub record IsBookOf (w : World) (stream : Stream) (day : ℕ) (book : BookValue) : Type 0 where
  pub of_stream : book.stream ≡ stream
  pub of_day : book.day ≡ day
  pub facts : IsDay w book

-- a candidate's book at its position, or `None` without a candidate
abbrev pub IsLikeBook : World → JobContent → ℕ → Option BookValue → Type 0
IsLikeBook w job place slot =
    MatchOption slot ((day : ℕ) → IsLike w job place day → ⊥)
    (λ book. (day : ℕ) × IsLike w job place day × IsBookOf w job.stream day book)

-- What a job looks at: the book of its day, those of the candidates, and those of the neighbouring days, if there are any.
pub record IsContext (w : World) (job : JobContent) (context : Context) : Type 0 where
  pub target : IsBookOf w job.stream job.day context.target
  pub candidates : (place : ℕ) → place < 4 → IsSomeAnd (slice_get context.candidates place) (IsLikeBook w job place)
  pub before : MatchOption context.before (job.day ≡ 0)
      (λ book. (day : ℕ) × (day + 1 ≡ job.day) × IsBookOf w job.stream day book)
  pub after : MatchOption context.after (last_day ≤ job.day)
      (λ book. (job.day < last_day) × IsBookOf w job.stream (job.day + 1) book)
