use Rattle.std.proofs.Common.{◌≤◌, length, refl, arith}
use Rattle.std.proofs.lemmas.Result.{on_ok_weaker}
use Rattle.serde.proofs.Events.{WritesEach-more, WritesSeq-ends}
use Rattle.mds_answers.specs.JsonSteps.{Tells}
use Rattle.mds_answers.proofs.Lists.{list_told}
use Rattle.mds_answers.proofs.told.send_list.Goals as goal

pub loop-thing-preserved : goal.loop-thing-preserved
loop-thing-preserved g c =
    WritesEach-more (Tells g.T.ToJson.told_as) c.args.things.now c.loop-thing.thing-index c.thing-item.result _ _ _ c.loop-thing-test.true
    c.thing-item.is c.loop-thing.invariant c.in_ok-send.ensures

pub returns : goal.returns
returns g c =
    let Is = g.T.ToJson.told_as in
    let things = c.args.things.now in
    let named = g.S.Serializer.written c.key.new.self in
    let first = g.S.Serializer.written c.begin_seq.new.self in
    let last = g.S.Serializer.written c.loop-thing.out in
    let new = g.S.Serializer.written c.end_seq.new.self in
    let all : length things ≤ c.loop-thing.thing-index = omega arith in
    on_ok_weaker c.end_seq.result (λ ended.
    let told = list_told Is things named new
    (WritesSeq-ends (Tells Is) things things c.loop-thing.thing-index (length things) named first last new refl refl all
    c.in_ok-begin_seq.ensures c.loop-thing.invariant ended) in
    (told.0, told.1, (named, c.in_ok-key.ensures, told.2))) c.end_seq.ensures
