use Rattle.std.proofs.Common.{◌≡◌, IfSome, IsTrue, Some, rules, subst}
use Rattle.mds_packs.proofs.Whole.{any_held}
use Rattle.mds_pack_rows.specs.PackFacts.{readings_in}
use Rattle.mds_pack_rows.specs.Putting.{SayRows}
use Rattle.mds_pack_rows.proofs.BodyLemmas.{says}
use Rattle.mds_pack_rows.proofs.BatchLemmas.{packed_says}
use Rattle.mds_pack_rows.proofs.PutLemmas.{says_some}
use Rattle.mds_pack_rows.proofs.batches.pack_listed.Goals as goal

pub returns-clause-says : goal.returns-clause-says
returns-clause-says c =
    let rows = c.args.rows.now in
    let update = c.in-Some.first.now.1.update in
    let readings = c.in-Some-2.readings.items in
    let body = c.in_ok-body.body.items in
    let some : IsTrue (any_held readings) = search rules in
    let is : readings_in body ≡ Some readings = says _ body readings (rw c.as_slice-2.ensures.value at c.in_ok-body.ensures.back some) in
    let spread : SayRows update readings rows =
    subst (λ o. IfSome o (λ readings. SayRows update readings.items rows)) c.in-Some-2.is c.in_ok-readings.ensures.says in
    packed_says c.args.stream.now c.args.day update body readings rows is spread

pub returns-clause-some : goal.returns-clause-some
returns-clause-some c =
    let readings = c.in-Some-2.readings.items in
    let body = c.in_ok-body.body.items in
    let some : IsTrue (any_held readings) = search rules in
    let is : readings_in body ≡ Some readings = says _ body readings (rw c.as_slice-2.ensures.value at c.in_ok-body.ensures.back some) in
    says_some c.args.stream.now c.args.day c.in-Some.first.now.1.update body readings is some
