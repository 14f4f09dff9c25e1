use Rattle.std.proofs.Common.{take}
use Rattle.serde.specs.Event.{WritesEach}
use Rattle.mds_answers.specs.JsonSteps.{Tells}
use Rattle.mds_answers.proofs.told.send_list.Given as goal

abbrev pub invariant-loop-thing : goal.invariant-loop-thing
invariant-loop-thing g l =
    WritesEach (Tells g.T.ToJson.told_as) (take l.thing-index l.things) (g.S.Serializer.written l.initial.out) (g.S.Serializer.written l.out)
