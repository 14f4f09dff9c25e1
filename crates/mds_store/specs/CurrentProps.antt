-- There is at most one proof of what a keeper's connection keeps true.
use Rattle.std.specs.Prelude.{List}
use Rattle.std.specs.Coded.{Coded, Coded-set, coded_list, coded_ℤ, ×_prop, Π_prop}
use Rattle.std.proofs.Math.Logic.{∥∥₁_prop}
use Rattle.sqlite.specs.Effect.{Database}
use Rattle.sqlite.specs.State.{State}
use Rattle.sqlite_trees.specs.Tree.{Trees}
use Rattle.sqlite_value.specs.Order.{Row}
use Rattle.sqlite_value.specs.contracts.value.Value.{the_row}
use Rattle.mds_pack_rows.specs.Current.{current_layout}
use Rattle.mds_store.specs.Props.{IsStore-prop}
use Rattle.mds_store.specs.Daily.{AreBare}
use Rattle.mds_store.specs.CurrentStore.{AreCurrent, HoldsCurrent, IsCurrentStore}

abbrev coded_rows : Coded (List Row)
coded_rows = coded_list (coded_list the_row.coded)

AreBare-prop : (trees : Trees) → IsProp (AreBare trees)
AreBare-prop trees = ×_prop (Coded-set coded_rows _ _) (Coded-set coded_rows _ _)

AreCurrent-prop : (trees : Trees) → IsProp (AreCurrent trees)
AreCurrent-prop trees a b = λ i. record {
  version = Coded-set (coded_list coded_ℤ) _ _ a.version b.version i;
  bare = AreBare-prop trees a.bare b.bare i;
}

IsCurrentStore-prop : (db : Database) → IsProp (IsCurrentStore db)
IsCurrentStore-prop db a b = λ i. record {
  store = IsStore-prop current_layout db a.store b.store i;
  bare = AreBare-prop db.trees a.bare b.bare i;
}

pub HoldsCurrent-prop : (s : State) → IsProp (HoldsCurrent s)
HoldsCurrent-prop s a b = λ i. record {
  committed = Π_prop (λ _. Π_prop (λ _. IsCurrentStore-prop s.committed)) a.committed b.committed i;
  left = Π_prop (λ _. Π_prop (λ trees. Π_prop (λ _. AreCurrent-prop trees))) a.left b.left i;
  sound = Π_prop (λ _. Π_prop (λ trees. Π_prop (λ _. ∥∥₁_prop))) a.sound b.sound i;
}
