-- Which days a keeper is asked for. Clauses with these hold for every pair of relations `asks` and `others` of an `ImportKeeper`, so also
-- for one that lists the queries.
use Rattle.std.specs.Prelude.{◌≡◌, ℕ, ◌+◌, ◌<◌, ◌≤◌, List}
use Rattle.mds_names.specs.declared.stream.Stream.{Stream}
use Rattle.mds_statements.specs.Statements.{DayStatement}
use Rattle.mds_world.specs.Lists.{Member}
use Rattle.mds_service.specs.OpeningSteps.{IsOfDates}

-- One call after the other led from the old state to the new one. Each asked for the days of a stream in a range, and this holds of
-- that stream and range. Or it was a call that asks for no days.
pub data AsksOnly {S : Type 0} (asks : S → Stream → ℕ → ℕ → S → Type 0) (others : S → S → Type 0) (Holds : Stream → ℕ → ℕ → Type 0) (old : S)
    : S → Type 0 where
  Nothing : AsksOnly asks others Holds old old
  Then : {mid new : S} (stream : Stream) (first last : ℕ) → AsksOnly asks others Holds old mid → asks mid stream first last new
      → Holds stream first last → AsksOnly asks others Holds old new
  Other : {mid new : S} → AsksOnly asks others Holds old mid → others mid new → AsksOnly asks others Holds old new

-- no days
abbrev pub IsNone : Stream → ℕ → ℕ → Type 0
IsNone _ _ _ = ⊥

-- the query is for just that stream and that range
abbrev pub AreDays : Stream → ℕ → ℕ → Stream → ℕ → ℕ → Type 0
AreDays stream first last of from upto = (of ≡ stream) × (from ≡ first) × (upto ≡ last)

-- The query is for that stream, and each of its days is one of these dates. They aren't too many to be asked for at once.
abbrev pub AreOfDates : Stream → List ℕ → Stream → ℕ → ℕ → Type 0
AreOfDates stream dates of first last = (of ≡ stream) × IsOfDates dates (record { first = first; last = last })

-- Each day of the query is stated for its stream. They aren't too many to be asked for at once.
pub record AreStated (days : List DayStatement) (stream : Stream) (first last : ℕ) : Type 0 where
  pub each : (day : ℕ) → first ≤ day → day ≤ last
      → (stated : DayStatement) × Member stated days × (stated.stream ≡ stream) × (stated.date ≡ day)
  pub few : last < first + 64
