use Rattle.std.proofs.Common.{◌≡◌, Some, subst}
use Rattle.std.proofs.lemmas.Result.{IfOk-weaker}
use Rattle.mds_calendar.specs.Length.{count_of}
use Rattle.mds_packs.specs.Unpacked.{unpacked}
use Rattle.mds_pack_rows.proofs.BodyLemmas.{one_body, said_at}
use Rattle.mds_pack_rows.proofs.bodies.readings_at.Goals as goal

pub returns-in_default-clause-only : goal.returns-in_default-clause-only
returns-in_default-clause-only c body minutes readings has lawful read = absurd (c.in_default.ensures.none body has)

pub returns-clause-says : goal.returns-clause-says
returns-clause-says c =
    said_at (λ v. v.items) c.args.row.now c.args.at c.in-Some.body.now c.in-Some.ensures.some c.unpack.result c.unpack.ensures.says

pub returns-clause-only : goal.returns-clause-only
returns-clause-only c =
    IfOk-weaker c.unpack.result _ _
    (λ o only body minutes readings has lawful read.
    only minutes readings lawful (subst (λ b. unpacked (count_of minutes) b ≡ Some readings) (one_body c.args.row.now c.args.at body c.in-Some.body.now has c.in-Some.ensures.some) read))
    c.unpack.ensures.only
