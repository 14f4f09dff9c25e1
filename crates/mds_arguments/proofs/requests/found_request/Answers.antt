use Rattle.std.proofs.Common.{MatchResult, IfErr, subst}
use Rattle.mds_messages.specs.declared.request.Request.{Request}
use Rattle.mds_arguments.specs.Arguments.{AskFor, IsFirstBad, tests_of}
use Rattle.mds_arguments.proofs.requests.found_request.Goals as goal

pub returns-clause-value : goal.returns-clause-value
returns-clause-value g c =
    subst (λ texts. MatchResult c.query_request.result (AskFor c.args.query texts) (IsFirstBad (tests_of c.args.query texts))) c.of.ensures c.query_request.ensures.value

pub returns-clause-none : goal.returns-clause-none
returns-clause-none g c =
    subst (λ texts. IfErr c.query_request.result (λ _. (request : Request) → ¬ AskFor c.args.query texts request)) c.of.ensures c.query_request.ensures.none
