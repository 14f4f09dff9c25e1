use Rattle.std.proofs.Common.{◌≡◌, ◌∷◌, drop, rules}
use Rattle.std.proofs.lemmas.Result.{on_err_weaker}
use Rattle.mds_commit.proofs.querying.first_details.Goals as goal

pub returns-in-len1-up-clause-err : goal.returns-in-len1-up-clause-err
returns-in-len1-up-clause-err c =
    let is : c.args.rows.now ≡ c.first-item.result ∷ drop 1 c.args.rows.now = search rules in
    on_err_weaker c.details_at.result (λ h all some. (c.first-item.result, drop 1 c.args.rows.now, is, h)) c.details_at.ensures.err
