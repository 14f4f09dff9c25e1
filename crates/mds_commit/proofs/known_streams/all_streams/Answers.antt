use Rattle.std.proofs.Common.{◌≡◌, subst, sym}
use Rattle.std.proofs.lemmas.Result.{IfOk-weaker}
use Rattle.mds_tables.proofs.Adding.{just_two}
use Rattle.mds_commit.specs.StreamRows.{AreStreamsIn, SaysStream}
use Rattle.mds_commit.proofs.known_streams.all_streams.Goals as goal

pub returns-clause-each : goal.returns-clause-each
returns-clause-each c =
    let heads = c.args.heads.now in
    let periods = c.args.periods.now in
    let keys = c.add_streams-2.new.found.keys in
    IfOk-weaker c.in_order.result (λ all. all.items ≡ keys) _
    (λ all same. subst (AreStreamsIn heads periods) (sym same)
    (just_two SaysStream c.new-found.result.keys c.add_streams.new.found.keys keys heads periods
    c.new-found.ensures.empty c.in_ok-add_streams.ensures c.in_ok-add_streams-2.ensures))
    c.in_order.ensures.same
