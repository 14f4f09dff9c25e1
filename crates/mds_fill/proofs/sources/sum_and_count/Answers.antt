use Rattle.std.proofs.Common.{◌≡◌, ◌+◌, ◌-◌, ◌*◌, ◌≤◌, ◌+ℤ◌, ap, sym, subst, ◌∙◌, to_z, arith}
use Rattle.std.specs.Int.{w128}
use Rattle.std.specs.Prelude.{unsigned_abs}
use Rattle.mds_quantity.specs.Quantity.{limit}
use Rattle.mds_fill.proofs.TallyLemmas.{next_count, next_total, same_count, same_total, size_sum, sum_fits}
use Rattle.mds_fill.proofs.sources.sum_and_count.Goals.{in-Some, in_default}
use Rattle.mds_fill.proofs.sources.sum_and_count.Goals as goal

pub loop-slot-preserved : goal.loop-slot-preserved
loop-slot-preserved c = let i = c.loop-slot.invariant in elim c.match-slot.branch [
  | in-Some w ↦
      let v = w.in-Some.value in
      let small = w.millionths.ensures.small in
      let few = c.requires in
      let n = next_count _ _ _ v c.loop-slot-test.true c.slot-item.is w.in-Some.is in
      let t = next_total _ _ _ v c.loop-slot-test.true c.slot-item.is w.in-Some.is in
      let is : to_z w128 c.match-slot.sum-bits ≡ to_z w128 c.loop-slot.sum-bits +ℤ v =
      w.sum-is ∙ sum_fits _ v _ _ c.loop-slot.count (omega (arith, i.few, few, c.loop-slot-test.true)) i.bound
      w.millionths.ensures.value small w.from-sum.ensures in
      let size = size_sum (to_z w128 c.loop-slot.sum-bits) v in
      let own : unsigned_abs v ≤ limit - 1 = let s = rw w.millionths.ensures.value at small in omega arith in
      record {
        sum = is ∙ ap (λ z. z +ℤ v) i.sum ∙ sym t;
        count = w.count-is ∙ ap (λ k. k + 1) i.count ∙ sym n;
        few = omega (arith, i.few, w.count-is);
        bound = subst (λ z. unsigned_abs z ≤ (limit - 1) * c.match-slot.count) (sym is)
            (omega (arith, size, own, i.bound, w.count-is));
      }
  | in_default w ↦
      let t = same_total _ _ _ c.loop-slot-test.true c.slot-item.is w.in_default.is in
      let n = same_count _ _ _ c.loop-slot-test.true c.slot-item.is w.in_default.is in
      record {
        sum = w.sum-is ∙ i.sum ∙ sym t;
        count = w.count-is ∙ i.count ∙ sym n;
        few = omega (arith, i.few, w.count-is);
        bound = rw (w.sum-is, w.count-is) i.bound;
      }
]
