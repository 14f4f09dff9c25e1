use Rattle.mds_migrate.proofs.DatingLemmas.{some_first}
use Rattle.mds_migrate.proofs.dating.first_of.Goals as goal

pub returns-in_ok-details_in-in-len1-up : goal.returns-in_ok-details_in-in-len1-up
returns-in_ok-details_in-in-len1-up c =
    let d = c.in_ok-details_in-in-len1-up.field-0 in
    some_first c.args.rows.now c.first-item.result c.args.stream d c.in-len1-up.len_at_least c.first-item.is c.in_ok-details_in-in-len1-up.ensures
