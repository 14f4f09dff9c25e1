use Rattle.std.proofs.Common.{take}
use Rattle.std.specs.List.{All}
use Rattle.mds_commit.specs.Shown.{IsDetailRow}
use Rattle.mds_commit.proofs.querying.are_detail_rows.Given as goal

abbrev pub invariant-loop-i : goal.invariant-loop-i
invariant-loop-i l = All (λ row. IsDetailRow row) (take l.i l.rows)
