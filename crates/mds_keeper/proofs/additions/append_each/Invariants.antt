use Rattle.std.proofs.Common.{◌≡◌, length}
use Rattle.mds_keeper.proofs.RowsMoved.{AreMoved}
use Rattle.mds_keeper.proofs.additions.append_each.Given as goal

abbrev pub invariant-loop-row : goal.invariant-loop-row
invariant-loop-row l = record {
  moved : AreMoved l.fn.rows.items l.fn.more.items l.rows.items l.row-iterator.rest.items;
  len : l.row-iterator.rest.len ≡ length l.row-iterator.rest.items;
}
