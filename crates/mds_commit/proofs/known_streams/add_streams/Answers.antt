use Rattle.mds_tables.proofs.Adding.{adds_all, adds_more, adds_none}
use Rattle.mds_commit.specs.StreamRows.{SaysStream}
use Rattle.mds_commit.proofs.known_streams.add_streams.Goals as goal

pub loop-i-init : goal.loop-i-init
loop-i-init c = adds_none SaysStream _

pub loop-i-preserved : goal.loop-i-preserved
loop-i-preserved c =
    adds_more SaysStream _ _ c.add_stream.new.found.keys c.args.rows.now c.loop-i.i c.index-rows-i.result c.loop-i-test.true
    c.index-rows-i.is c.loop-i.invariant c.in_ok-add_stream.ensures

pub returns : goal.returns
returns c = adds_all SaysStream _ _ c.args.rows.now c.loop-i.i c.loop-i-test.false c.loop-i.invariant
