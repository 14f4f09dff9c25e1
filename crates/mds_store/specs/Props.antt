-- There is at most one proof that a database is a store. While a keeper's connection is open, a crash leaves what is
-- committed.
use Rattle.std.specs.Prelude.{◌≡◌}
use Rattle.std.proofs.Common.{sym, ap, ◌∙◌}
use Rattle.std.specs.Coded.{Coded-set, coded_list, coded_ℤ}
use Rattle.sqlite_schema.specs.contracts.schema.Schema.{the_row}
use Rattle.sqlite.specs.Effect.{Database}
use Rattle.sqlite_trees.specs.Tree.{Trees}
use Rattle.mds_world.specs.World.{World}
use Rattle.mds_tables.specs.Layouts.{Layout, world_with}
use Rattle.mds_tables.specs.Stores.{IsStoreOf}

pub IsStore-prop : (layout : Layout) (db : Database) → IsProp (IsStoreOf layout db)
IsStore-prop layout db a b = λ i. record {
  schema = Coded-set the_row.coded _ _ a.schema b.schema i;
  version = Coded-set (coded_list coded_ℤ) _ _ a.version b.version i;
}

pub settles : (layout : Layout) (may_leave : Trees → Type 0) (committed : Trees) → ((trees : Trees) → may_leave trees → trees ≡ committed)
    → (left : World) → (trees : Trees) × may_leave trees × (world_with layout trees ≡ left) → left ≡ world_with layout committed
settles layout may_leave committed settled left it = sym it.2 ∙ ap (world_with layout) (settled it.0 it.1)
