use Rattle.std.proofs.Common.{◌<◌, ◌≡◌, length, rules, arith}
use Rattle.mds_lines.proofs.StreamSteps.{wrote_all, wrote_more, wrote_part}
use Rattle.mds_lines.proofs.streams.write_whole.Goals as goal

pub loop-rest-preserved : goal.loop-rest-preserved
loop-rest-preserved g c = record {
  wrote = wrote_more _ c.loop-rest.rest.now c.in-Ok.count _ _ _ c.loop-rest.invariant.wrote (omega (arith, c.in-Ok.ensures.bound)) c.in-Ok.ensures.bytes;
  failures = omega (arith, c.in-Ok.ensures.counted);
}

pub returns-in-Err-clause-part : goal.returns-in-Err-clause-part
returns-in-Err-clause-part g c =
    let some : 0 < length c.loop-rest.rest.now = search (rules, arith) in
    wrote_part _ _ _ _ _ c.loop-rest.invariant.wrote some c.in-Err.ensures.bytes

pub returns-clause-done : goal.returns-clause-done
returns-clause-done g c =
    let none : length c.loop-rest.rest.now ≡ 0 = search (rules, arith) in
    wrote_all _ _ _ _ c.loop-rest.invariant.wrote none
