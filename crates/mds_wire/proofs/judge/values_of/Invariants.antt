use Rattle.mds_wire.proofs.Named.{Seen}
use Rattle.mds_wire.proofs.judge.values_of.Given as goal

abbrev pub invariant-loop-field : goal.invariant-loop-field
invariant-loop-field l = Seen l.bytes l.name l.fields l.field-index l.found
