-- What the steps of a commit do, before the contract of all of it (profile).
use Rattle.std.specs.Prelude.{◌≡◌, ◌⊎◌, List}
use Rattle.sqlite.specs.State.{State}
use Rattle.sqlite_value.specs.Order.{Row}
use Rattle.mds_world.specs.Lists.{Member}
use Rattle.mds_world.specs.declared.facts.Head.{Head}
use Rattle.mds_keeper.specs.Content.{heads_of}
use Rattle.mds_keeper.specs.declared.additions.Additions.{Additions}
use Rattle.mds_tables.specs.Tables.{head_tree}
use Rattle.mds_tables.specs.Parts.{head_part}
use Rattle.mds_tables.specs.Writing.{Puts}
use Rattle.mds_pack_rows.specs.Current.{current_schema}
use Rattle.mds_pack_rows.specs.FormLayout.{day_in, unit_in}
use Rattle.mds_commit.specs.FormPutting.{SayUnits, day_of}

-- Rows for the days of these heads were added to those of mds_head, which stay. The unit found for a row stays, too, unless the row
-- is on the day of one of these heads.
pub record KeepsUnits (heads : List Head) (old new : List Row) : Type 0 where
  pub rows : (row : Row) → Member row old → Member row new
  pub units : (row : Row) → (unit_in new row ≡ unit_in old row) ⊎ ((head : Head) × Member head heads × (day_in row ≡ day_of head))

-- The new days have their rows in mds_head, which says the units of all heads that are added.
pub record PutsDays (old new : State) (additions : Additions) : Type 0 where
  pub put : Puts current_schema head_part old new additions.new_days.items
  pub keeps : KeepsUnits additions.new_days.items (old.now.trees head_tree) (new.now.trees head_tree)
  pub say : SayUnits (heads_of additions) new.now.trees
