use Rattle.std.proofs.Common.{◌≡◌, ℕ, ◌+◌, ◌-◌, [], ◌∷◌, Bor, List, Some, map, length}
use Rattle.csv.specs.declared.reader.Reader.{Reader}
use Rattle.mds_requests.specs.Holidays.{day_in, head_row}
use Rattle.mds_requests.specs.HolidaysSteps.{HasRead}
use Rattle.mds_requests.proofs.HolidayRows.{bytes_before}
use Rattle.mds_requests.proofs.holidays.read_days.Given as goal

-- it stands behind the head row and a row for each of the days so far
pub record HasDays (text : List ℕ) (reader : Reader (Bor (List ℕ))) (days : List ℕ) (number : ℕ) : Type 0 where
  pub others : List (List (List ℕ))
  pub so_far : HasRead text reader (head_row ∷ others)
  pub named : map day_in others ≡ map Some days
  pub counted : number ≡ 1 + length others

abbrev pub invariant-loop-days : goal.invariant-loop-days
invariant-loop-days l = (text : List ℕ) → HasRead text l.fn.reader [] → HasDays text l.reader l.days.items l.number

-- each row takes a byte at least of what was there
abbrev pub decreases-loop-days : goal.decreases-loop-days
decreases-loop-days l = bytes_before l.fn.reader - l.number
