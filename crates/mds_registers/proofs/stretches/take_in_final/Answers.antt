use Rattle.std.proofs.Common.{inl, refl}
use Rattle.mds_registers.proofs.Lasts.{before_last}
use Rattle.mds_registers.proofs.stretches.take_in_final.Goals as goal

pub returns-then-goes_on : goal.returns-then-goes_on
returns-then-goes_on c =
    let stretch = c.in-Some.stretch.now in
    let r = before_last _ _ stretch c.args.finals.now.ok.0 (c.in-Some.ensures.variant.0 refl) c.in-Some.ensures.value in
    inl (r.0, stretch, r.1, c.if-goes_on.ensures, r.2 _)
