use Rattle.std.proofs.Common.{arith}
use Rattle.mds_pack_rows.proofs.BodyLemmas.{all_whole, whole_of_length}
use Rattle.mds_pack_rows.proofs.bodies.unpack_whole.Goals as goal

pub returns-clause-says : goal.returns-clause-says
returns-clause-says c = all_whole _ c.args.body.now c.unpack_readings.result c.unpack_readings.ensures.some

pub returns-clause-len : goal.returns-clause-len
returns-clause-len c =
    whole_of_length c.args.length c.minutes.ensures.known c.args.body.now (λ i. omega (arith, c.type_inv.body i))
    c.unpack_readings.result c.unpack_readings.ensures.some
