use Rattle.std.proofs.Common.{take}
use Rattle.mds_commit.specs.Shown.{AreByDay, TellsDays}
use Rattle.mds_commit.proofs.querying.tell_days.Given as goal

abbrev pub invariant-loop-i : goal.invariant-loop-i
invariant-loop-i l = AreByDay l.rows → TellsDays (take l.i l.rows) l.days.items
