use Rattle.std.proofs.Common.{◌≡◌, false, true, None, arith}
use Rattle.std.proofs.lemmas.Grind.{common_steps}
use Rattle.mds_statements.specs.OrderlySteps.{blocks_follow}
use Rattle.mds_statements.proofs.OrderlyTests.{orderly_tested}
use Rattle.mds_statements.proofs.delivery.are_orderly.Goals as goal

pub returns-then-not-days_follow : goal.returns-then-not-days_follow
returns-then-not-days_follow c =
    let failed : blocks_follow None c.args.blocks.now ≡ false = grind (arith, common_steps) in orderly_tested c.args.blocks.now false failed

pub returns : goal.returns
returns c = let passed : blocks_follow None c.args.blocks.now ≡ true = grind (arith, common_steps) in orderly_tested c.args.blocks.now true passed
