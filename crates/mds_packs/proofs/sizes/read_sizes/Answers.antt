use Rattle.std.proofs.Common.{◌≡◌, ◌-◌, sym, ap, ◌∙◌, arith}
use Rattle.mds_packs.specs.LoopSteps.{parts_value}
use Rattle.mds_packs.specs.Sizes.{sizes_at}
use Rattle.mds_packs.proofs.BodySizes.{sizes_begun, sizes_done, sizes_no_parts, sizes_on, with_size}
use Rattle.mds_packs.proofs.sizes.read_sizes.Goals as goal

pub loop-init : goal.loop-init
loop-init c =
    let all : c.args.number - 0 ≡ c.args.number = omega arith in
    record {
      read = ap (λ n. with_size 0 (sizes_at n c.args.bytes.now)) all ∙ sizes_begun (sizes_at c.args.number c.args.bytes.now);
      small = omega arith;
    }

pub returns-in_default : goal.returns-in_default
returns-in_default c =
    sizes_no_parts c.loop.size c.args.number c.loop.counter c.loop.rest.now (sizes_at c.args.number c.args.bytes.now) c.loop-test.true
    (sym c.in_default.ensures) c.loop.invariant.read

pub loop-preserved : goal.loop-preserved
loop-preserved c = record {
  read = rw (← c.size_of-size.ensures.value) at (sizes_on c.loop.size c.args.number c.loop.counter c.loop.rest.now c.in-Some.after.now (parts_value c.in-Some.parts)
      (sizes_at c.args.number c.args.bytes.now) c.loop-test.true (sym c.in-Some.ensures) c.loop.invariant.read);
  small = omega (arith, c.loop.invariant.small, c.size_of-size.ensures.small);
}

pub returns : goal.returns
returns c =
    sizes_done c.loop.size c.args.number c.loop.counter c.loop.rest.now (sizes_at c.args.number c.args.bytes.now) c.loop-test.false c.loop.invariant.read
