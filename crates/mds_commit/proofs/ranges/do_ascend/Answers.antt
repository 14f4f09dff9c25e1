use Rattle.std.proofs.Common.{ℕ, rules}
use Rattle.std.proofs.lemmas.List.Sorted.{answers_always}
use Rattle.mds_quantity.specs.declared.unit.Unit.{Unit as MeasureUnit}
use Rattle.mds_commit.proofs.InOrder.{ascends, comes_before}
use Rattle.mds_commit.proofs.ranges.do_ascend.Goals as goal

pub returns : goal.returns
returns c =
    ascends (λ (day : ℕ × MeasureUnit). day.0) c.args.days.now c.is_sorted_by.result
    (c.is_sorted_by.ensures.cases (comes_before (λ (day : ℕ × MeasureUnit). day.0)) (answers_always _ _ _ (λ f a r g h. search rules)))
