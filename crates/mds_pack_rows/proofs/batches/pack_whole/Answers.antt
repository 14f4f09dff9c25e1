use Rattle.std.proofs.Common.{◌≡◌, ◌<◌, Some, ap, length, map, ◌∙◌, rules}
use Rattle.mds_tables.proofs.RowLemmas.{of}
use Rattle.mds_pack_rows.specs.PackFacts.{minutes_of, readings_in}
use Rattle.mds_pack_rows.proofs.BodyLemmas.{length_back, says}
use Rattle.mds_pack_rows.proofs.PutLemmas.{says_day, says_some, whole_said}
use Rattle.mds_pack_rows.proofs.SpreadLemmas.{all_held}
use Rattle.mds_pack_rows.proofs.batches.pack_whole.Goals as goal

pub returns-clause-says : goal.returns-clause-says
returns-clause-says c =
    let readings = c.args.readings.now in
    let places = map (λ reading. Some reading) readings in
    let body = c.in_ok-body.body.items in
    let some : 0 < length readings = search rules in
    let many : length readings ≡ c.count.result = search rules in
    let full : minutes_of (length readings) ≡ c.args.length =
    ap minutes_of (many ∙ c.count.ensures.value) ∙ length_back c.args.length c.minutes.ensures.known in
    let is : readings_in body ≡ Some places = says (length readings) body places (c.in_ok-body.ensures.back some) in
    ap of (says_day c.args.stream.now c.args.day c.args.update body places is ∙ whole_said c.args.stream.now c.args.day c.args.length c.args.update readings full)

pub returns-clause-some : goal.returns-clause-some
returns-clause-some c =
    let readings = c.args.readings.now in
    let places = map (λ reading. Some reading) readings in
    let body = c.in_ok-body.body.items in
    let some : 0 < length readings = search rules in
    let is : readings_in body ≡ Some places = says (length readings) body places (c.in_ok-body.ensures.back some) in
    says_some c.args.stream.now c.args.day c.args.update body places is (all_held readings some)
