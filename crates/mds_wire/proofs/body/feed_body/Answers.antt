use Rattle.std.proofs.Common.{◌≤◌, length, take, arith, refl, ◌∙◌}
use Rattle.std.proofs.lemmas.List.{length-take}
use Rattle.std.proofs.lemmas.Result.{err_from_is_err_and}
use Rattle.mds_wire.proofs.BodyReads.{feeding_none, feeding_none_stops, feeding_more, feeding_stops}
use Rattle.mds_wire.proofs.body.feed_body.Goals as goal

pub loop-left-init : goal.loop-left-init
loop-left-init g c = record {
  feeding = feeding_none g.H.Handler.holds c.args.body.now c.feed.new.body c.args.front.now c.args.size g.R.Source.gives c.args.source.now _ _ (omega (arith, c.requires.front)) c.in_ok-feed.ensures.fed;
  failures = refl;
}

pub loop-left-preserved : goal.loop-left-preserved
loop-left-preserved g c =
    let i = c.loop-left.invariant in
    let room : length (take c.min-wanted.result c.loop-left.block) ≤ c.loop-left.left = omega (arith, c.min-wanted.ensures, length-take c.min-wanted.result c.loop-left.block) in
    record {
      feeding = feeding_more g.H.Handler.holds _ _ _ _ _ _ _ _ _ _ _ _ i.feeding g.H.Handler.takes_memory _ _ _ room c.in-Ok.ensures.feeds;
      failures = c.in-Ok.ensures.counted.1 (λ e. cc) ∙ i.failures;
    }

pub returns-in-Err-clause-feeds : goal.returns-in-Err-clause-feeds
returns-in-Err-clause-feeds g c =
    let i = c.loop-left.invariant in
    let room : length (take c.min-wanted.result c.loop-left.block) ≤ c.loop-left.left = omega (arith, c.min-wanted.ensures, length-take c.min-wanted.result c.loop-left.block) in
    feeding_stops g.H.Handler.holds _ _ _ _ _ _ _ _ _ _ _ _ i.feeding g.H.Handler.takes_memory _ _ _ room c.loop-left-test.true c.in-Err.ensures.feeds

pub returns-in_err-feed-clause-feeds : goal.returns-in_err-feed-clause-feeds
returns-in_err-feed-clause-feeds g c =
    let p = err_from_is_err_and c.from_residual.result c.from_residual.ensures.1 in
    rw (p.1, p.2) (feeding_none_stops g.H.Handler.holds g.H.Handler.takes_memory c.args.body.now c.feed.new.body c.args.front.now c.args.size g.R.Source.gives c.args.source.now _
    c.requires.front (λ route target size before holds few most. c.in_err-feed.ensures.only route target size before holds few most))
