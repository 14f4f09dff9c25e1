use Rattle.mds_statements.specs.Delivered.{day_statements}
use Rattle.mds_statements.proofs.Copied.{copied_more}
use Rattle.mds_statements.proofs.copies.copy_days.Goals as goal

pub loop-day-preserved : goal.loop-day-preserved
loop-day-preserved c moment block =
    copied_more (day_statements moment block) c.args.days.now c.loop-day.copies.items c.push.new.self.items c.loop-day.day-index c.day-item.result c.in_ok-try_clone.field-0
    c.loop-day-test.true c.day-item.is (c.in_ok-try_clone.ensures.value moment block) c.in_ok-push.ensures.items (c.loop-day.invariant moment block)
