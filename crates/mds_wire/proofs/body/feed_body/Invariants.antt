use Rattle.std.proofs.Common.{◌≡◌}
use Rattle.mds_wire.proofs.BodyReads.{IsFeeding}
use Rattle.mds_wire.proofs.body.feed_body.Given as goal

abbrev pub invariant-loop-left : goal.invariant-loop-left
invariant-loop-left g l = record {
  feeding : IsFeeding g.H.Handler.holds l.fn.body l.body l.front l.size g.R.Source.gives l.fn.source l.source (g.R.Source.remaining l.fn.source) (g.R.Source.remaining l.source) l.left;
  failures : g.R.Source.failures l.source ≡ g.R.Source.failures l.fn.source;
}

abbrev pub decreases-loop-left : goal.decreases-loop-left
decreases-loop-left g l = l.left
