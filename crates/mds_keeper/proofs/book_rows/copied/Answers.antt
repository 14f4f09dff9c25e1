use Rattle.std.proofs.Common.{arith}
use Rattle.std.proofs.lemmas.Grind.{common_steps}
use Rattle.mds_keeper.proofs.book_rows.copied.Goals as goal

pub loop-interval-preserved : goal.loop-interval-preserved
loop-interval-preserved c = grind (arith, common_steps)

pub returns-clause-value : goal.returns-clause-value
returns-clause-value c = grind (arith, common_steps)
