-- What statements on mds_daydetail do in a transaction (profile).
use Rattle.std.specs.Prelude.{List}
use Rattle.sqlite.specs.State.{State}
use Rattle.mds_world.specs.declared.facts.Detail.{Detail}
use Rattle.mds_tables.specs.Tables.{More, schema_with}
use Rattle.mds_tables.specs.Parts.{detail_part}
use Rattle.mds_tables.specs.Writing.{PutsThere}
use Rattle.mds_pack_rows.specs.DailyTables.{daily_then}

-- these details have their rows in mds_daydetail, whatever tables follow it
abbrev pub PutsDetails : State → State → List Detail → Type 0
PutsDetails old new details = (rest : More) → PutsThere (schema_with (daily_then rest)) detail_part old new details
