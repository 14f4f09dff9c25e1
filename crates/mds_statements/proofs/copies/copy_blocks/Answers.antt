use Rattle.mds_statements.specs.Delivered.{block_statements}
use Rattle.mds_statements.proofs.Copied.{copied_more}
use Rattle.mds_statements.proofs.copies.copy_blocks.Goals as goal

pub loop-block-preserved : goal.loop-block-preserved
loop-block-preserved c moment =
    copied_more (block_statements moment) c.args.blocks.now c.loop-block.copies.items c.push.new.self.items c.loop-block.block-index c.block-item.result c.in_ok-try_clone.field-0
    c.loop-block-test.true c.block-item.is (c.in_ok-try_clone.ensures.value moment) c.in_ok-push.ensures.items (c.loop-block.invariant moment)
