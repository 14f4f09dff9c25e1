use Rattle.std.proofs.lemmas.Result.{on_ok_weaker}
use Rattle.mds_tables.proofs.Adding.{adds_one}
use Rattle.mds_commit.specs.StreamRows.{SaysStream}
use Rattle.mds_commit.proofs.StreamLemmas.{one_stream, stream_exact}
use Rattle.mds_commit.proofs.known_streams.add_stream.Goals as goal

pub returns : goal.returns
returns c =
    let says : SaysStream c.args.row.now c.in_ok-stream.stream = rw c.in_ok-stream.ensures at c.stream_in.ensures.some in
    on_ok_weaker c.put.result
    (λ h. adds_one SaysStream c.args.found.now.keys c.put.new.found.keys c.args.row.now c.in_ok-stream.stream h says
    (λ q s. one_stream c.args.row.now q c.in_ok-stream.stream s says))
    (c.put.ensures stream_exact)
