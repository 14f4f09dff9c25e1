use Rattle.std.proofs.Common.{◌≡◌, ◌≤◌, ◌<◌, ℕ, List, [], length, refl, take, ap, subst, arith, ◌∙◌}
use Rattle.std.specs.Io.KnownBytes.{Consumes}
use Rattle.std.proofs.lemmas.List.{length-take-le}
use Rattle.mds_wire.proofs.CallSteps.{consumes_keeps}
use Rattle.mds_http.proofs.Rests.{brought_none, brought_more, rest_ends, rest_cut}
use Rattle.mds_http.proofs.serving.read_rest.Goals as goal

pub loop-init : goal.loop-init
loop-init g c = record { size = refl; brought = brought_none _ _ _; failures = refl }

pub loop-preserved : goal.loop-preserved
loop-preserved g c =
    let i = c.loop.invariant in
    let size = c.read.auto.buffer ∙ i.size in
    let within : c.in-Ok.field-0 ≤ length c.read.new.buffer = c.in-Ok.ensures.bound.0 in
    let many = length-take-le c.in-Ok.field-0 c.read.new.buffer within in
    record {
      size = size;
      brought = brought_more _ _ _ _ _ _ _ _ (take c.in-Ok.field-0 c.read.new.buffer) i.brought (omega (arith, many, c.in-Ok.field-0-test)) (omega (arith, many, within, size)) c.in-Ok.ensures.gives c.in-Ok.ensures.bytes.0;
      failures = omega (arith, c.in-Ok.ensures.counted, i.failures);
    }

pub returns-in-Ok-eq0 : goal.returns-in-Ok-eq0
returns-in-Ok-eq0 g c =
    let none : take c.in-Ok-eq0.field-0 c.read.new.buffer ≡ [] = ap (λ n. take n c.read.new.buffer) c.in-Ok-eq0.field-0-test in
    rest_ends _ _ _ _ _ _ _ _ c.loop.invariant.brought (omega (arith, c.loop-test.true))
    (subst (λ (t : List ℕ). g.E.Source.gives c.loop.rest t c.read.new.self) none c.in-Ok-eq0.ensures.gives)
    (subst (λ (t : List ℕ). Consumes (g.E.Source.remaining c.loop.rest) (g.E.Source.remaining c.read.new.self) t) none c.in-Ok-eq0.ensures.bytes.0)

pub returns-in-Err : goal.returns-in-Err
returns-in-Err g c =
    rest_ends _ _ _ _ _ _ _ _ c.loop.invariant.brought (omega (arith, c.loop-test.true)) c.in-Err.ensures.gives
    (consumes_keeps _ _ c.in-Err.ensures.bytes)

pub returns : goal.returns
returns g c =
    let all : c.loop.counter ≡ 1024 = omega (arith, c.loop.auto.counter-end, c.loop-test.false) in
    rest_cut _ _ _ _ _ _ c.loop.invariant.brought all
