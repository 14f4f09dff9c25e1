use Rattle.std.proofs.Common.{◌≡◌, length}
use Rattle.mds_pack_rows.specs.Laying.{laid}
use Rattle.mds_pack_rows.proofs.LaidLemmas.{with_front}
use Rattle.mds_pack_rows.proofs.laying.lay.Given as goal

abbrev pub invariant-loop-left : goal.invariant-loop-left
invariant-loop-left l = with_front l.all.items (laid l.left l.right) ≡ laid l.ones l.others

abbrev pub decreases-loop-left : goal.decreases-loop-left
decreases-loop-left l = length l.left
