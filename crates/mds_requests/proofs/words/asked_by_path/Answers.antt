use Rattle.std.proofs.Common.{MatchResult, subst}
use Rattle.mds_requests.specs.Targets.{AskForQueryAt}
use Rattle.mds_requests.specs.TargetSteps.{IsBad}
use Rattle.mds_requests.proofs.words.asked_by_path.Goals as goal

pub returns : goal.returns
returns c =
    subst (λ path. MatchResult c.asked_by_words.result (AskForQueryAt c.args.query path) (IsBad (AskForQueryAt c.args.query path)))
    c.of.ensures c.asked_by_words.ensures
