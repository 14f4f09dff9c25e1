use Rattle.std.proofs.lemmas.Result.{err_from_is_err_and}
use Rattle.form_urlencoded.specs.Parse.{pairs_left}
use Rattle.mds_requests.specs.Queries.{pairs_of}
use Rattle.mds_requests.specs.QuerySteps.{texts_in}
use Rattle.mds_requests.proofs.Pairs.{one_more, some_pair}
use Rattle.mds_requests.proofs.query.Query.read.Goals as goal

pub returns-in_err-pair : goal.returns-in_err-pair
returns-in_err-pair c =
    let (name, value, is, _) = c.in-Some.ensures.steps.0 in
    let p = err_from_is_err_and c.from_residual.result c.from_residual.ensures.1 in
    rw p.1 (some_pair (pairs_of c.args.query.now) (texts_in c.loop-pair.pairs.items) (pairs_left c.loop-pair.pair-iterator) (pairs_left c.next.new.self) name value c.loop-pair.invariant is)

pub loop-pair-preserved : goal.loop-pair-preserved
loop-pair-preserved c =
    let (name, value, is, decodes) = c.in-Some.ensures.steps.0 in
    one_more (pairs_of c.args.query.now) c.loop-pair.pairs.items c.push.new.self.items c.in_ok-pair.field-0 (pairs_left c.loop-pair.pair-iterator) (pairs_left c.next.new.self) name value c.loop-pair.invariant is
    (rw c.in_ok-pair.was at decodes) c.in_ok-push.ensures.items

pub returns-in_err-push : goal.returns-in_err-push
returns-in_err-push c =
    let (name, value, is, _) = c.in-Some.ensures.steps.0 in
    let p = err_from_is_err_and c.from_residual-in_err-push.result c.from_residual-in_err-push.ensures.1 in
    rw p.1 (some_pair (pairs_of c.args.query.now) (texts_in c.loop-pair.pairs.items) (pairs_left c.loop-pair.pair-iterator) (pairs_left c.next.new.self) name value c.loop-pair.invariant is)
