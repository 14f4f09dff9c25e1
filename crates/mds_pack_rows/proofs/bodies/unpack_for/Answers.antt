use Rattle.mds_pack_rows.proofs.BodyLemmas.{all_of_length, all_said}
use Rattle.mds_pack_rows.proofs.bodies.unpack_for.Goals as goal

pub returns-clause-says : goal.returns-clause-says
returns-clause-says c = all_said (λ v. v.items) _ c.args.body.now c.unpack_day.result c.unpack_day.ensures.value

pub returns-clause-len : goal.returns-clause-len
returns-clause-len c =
    all_of_length c.args.length c.minutes.ensures.known (λ v. v.items) _ c.unpack_day.result c.unpack_day.ensures.found
