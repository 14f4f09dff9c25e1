-- Rows of mds_pack that have yet to be put, and the versions that they say (profile).
use Rattle.std.specs.Prelude.{◌≡◌, ◌≢◌, List, [], map}
use Rattle.std.specs.FinSet as set
use Rattle.std.specs.List.{AllByRecursion, flat_map}
use Rattle.sqlite_value.specs.Order.{Row}
use Rattle.mds_world.specs.FactOrder.{fact_cmp}
use Rattle.mds_world.specs.Facts.{Fact}
use Rattle.mds_keeper.specs.Content.{day_versions, version_fact, versions_of}
use Rattle.mds_keeper.specs.declared.additions.DayVersions.{DayVersions}
use Rattle.mds_pack_rows.specs.PackCells.{pack_cells}
use Rattle.mds_pack_rows.specs.PackFacts.{body_facts}
use Rattle.mds_pack_rows.specs.declared.statements.PackRow.{PackRow}

-- its columns
abbrev pub columns_of : PackRow → Row
columns_of row = pack_cells row.stream row.day row.update row.body.items

-- the versions that it says
abbrev pub said_by : PackRow → List Fact
said_by row = body_facts row.stream row.day row.update row.body.items

-- each says at least one version
abbrev pub SaySome : List PackRow → Type 0
SaySome rows = AllByRecursion (λ row. said_by row ≢ []) rows

-- it says the versions of a day
abbrev pub SaysDay : PackRow → DayVersions → Type 0
SaysDay row day = set.from_list {R = fact_cmp} (said_by row) ≡ set.from_list (map version_fact (day_versions day))

-- they say the versions of days
abbrev pub SayDays : List PackRow → List DayVersions → Type 0
SayDays rows days =
    set.from_list {R = fact_cmp} (flat_map said_by rows) ≡ set.from_list (map version_fact (versions_of days))
