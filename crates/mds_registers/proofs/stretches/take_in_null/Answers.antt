use Rattle.std.proofs.Common.{◌≡◌, ◌+◌, inl, refl, arith}
use Rattle.mds_registers.proofs.Lasts.{before_last}
use Rattle.mds_registers.proofs.stretches.take_in_null.Goals as goal

pub returns-then-gap-interval : goal.returns-then-gap-interval
returns-then-gap-interval c =
    let gap = c.in-Some.gap.now in
    let here = c.if-gap-interval.true in
    let next : gap.last + 1 ≡ c.args.interval = omega (arith, here) in
    let r = before_last _ _ gap c.args.gaps.now.ok.0 (c.in-Some.ensures.variant.0 refl) c.in-Some.ensures.value in
    inl (r.0, gap, r.1, next, r.2 _)
