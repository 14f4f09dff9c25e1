-- How many facts count, and how many of them are new (profile). Each version and each period counts.
use Rattle.std.specs.Prelude.{ℕ, Bool, true, false}
use Rattle.std.specs.FinSet as set
use Rattle.mds_world.specs.Facts.{Fact}
use Rattle.mds_world.specs.Facts.Fact.{VersionIs, PeriodIs}
use Rattle.mds_world.specs.World.{World}

-- it is a version or a period
abbrev pub is_counted : Fact → Bool
is_counted (VersionIs key reading) = true
is_counted (PeriodIs key content) = true
is_counted fact = false

-- the facts of a World that count
abbrev pub countable : World → World
countable w = set.retain w is_counted

-- the number of these facts
abbrev pub counted : World → ℕ
counted w = set.len (countable w)

-- how many of the stated facts the World doesn't have yet
abbrev pub added_by : World → World → ℕ
added_by w stated = set.len (set.difference (countable stated) (countable w))

-- how many of the stated facts it has
abbrev pub known_by : World → World → ℕ
known_by w stated = set.len (set.intersection (countable stated) (countable w))
