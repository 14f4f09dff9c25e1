-- What a keeper over tables keeps, by the state of its database.
use Rattle.std.specs.Prelude.{◌≡◌, IsTrue}
use Rattle.sqlite.specs.State.{HasCleanDisk, State}
use Rattle.sqlite_trees.specs.Tree.{Trees}
use Rattle.mds_keeper.specs.Kept.{Kept}
use Rattle.mds_tables.specs.Layouts.{Layout, world_with}
use Rattle.mds_tables.specs.Stores.{world_kept}

-- What the rows of the tables name, as they were last committed. It is honest if the disk gave back what was written to it, and
-- sound if the connection is open too. It may leave any World named by tables that the next open may find.
abbrev pub kept_in : Layout → State → Kept
kept_in layout s = record {
  world = world_kept layout s;
  honest = HasCleanDisk s;
  sound = HasCleanDisk s × IsTrue s.is_open;
  may_leave = λ left. (trees : Trees) × s.may_leave trees × (world_with layout trees ≡ left);
}
