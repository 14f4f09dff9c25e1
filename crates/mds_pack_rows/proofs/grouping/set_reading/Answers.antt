use Rattle.std.proofs.Common.{◌≡◌, ◌<◌, ◌-◌, ◌+◌, None, get_or, length, rules}
use Rattle.mds_pack_rows.specs.PackFacts.{minutes_of}
use Rattle.mds_pack_rows.proofs.SpreadLemmas.{set_said}
use Rattle.mds_pack_rows.proofs.grouping.set_reading.Goals as goal

pub returns-clause-more : goal.returns-clause-more
returns-clause-more c _ =
    let place = c.from-place.result - 1 in
    let when : c.args.update ≡ c.args.row.now.1.update = search rules in
    let of_length : minutes_of (length c.args.readings.now.items) ≡ c.args.row.now.1.length = search rules in
    let at : 1 + place ≡ c.args.row.now.0 = search rules in
    let low : place < length c.args.readings.now.items = search rules in
    let free : get_or c.args.readings.now.items place None ≡ None = search rules in
    set_said c.args.readings.now.items place c.args.update c.args.row.now c.in_ok-try_clone.field-0 low free of_length at when c.in_ok-try_clone.ensures.value
