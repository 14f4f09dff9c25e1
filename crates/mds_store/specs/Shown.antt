-- What queries show of tables that must have no row (profile).
use Rattle.std.specs.Prelude.{ℕ}

-- the column of a row of mds_version that has its interval
abbrev pub version_slot : ℕ
version_slot = 4

-- the column of a row of mds_detail that has its moment
abbrev pub detail_moment : ℕ
detail_moment = 3
