use Rattle.std.proofs.Common.{◌≡◌, length, ap, refl, ◌∙◌}
use Rattle.std.specs.Prelude.{IsTrue, is_some}
use Rattle.std.specs.List.{list_any}
use Rattle.mds_packs.specs.Body.{IsDay, body_of}
use Rattle.mds_packs.specs.Unpacked.{unpacked}
use Rattle.mds_packs.proofs.Packs.{body_made}
use Rattle.mds_packs.proofs.Whole.{readings_again_all}
use Rattle.mds_packs.proofs.packing.pack_day.Goals as goal

pub returns : goal.returns
returns c =
    let made : c.put_values.new.out.items ≡ body_of c.args.readings.now = body_made c.args.readings.now c.in_ok-number.number c.in_ok-out.out.items c.push.new.self.items c.put_two.new.out.items c.put_two-2.new.out.items c.put_runs.new.out.items c.set_number.new.out.items c.put_values.new.out.items c.in_ok-number.ensures.number c.in_ok-out.ensures.items c.in_ok-push.ensures.items c.in_ok-put_two.ensures c.in_ok-put_two-2.ensures c.in_ok-number.ensures.done c.set_number.ensures c.in_ok-put_values.ensures.done in
    let day : IsTrue (list_any (λ reading. is_some reading) c.args.readings.now) → IsDay (length c.args.readings.now) c.args.readings.now = λ held. record { places = refl; lawful = c.in_ok-put_values.ensures.lawful; held = held } in
    record {
      value = made;
      day = day;
      back = λ held. ap (unpacked (length c.args.readings.now)) made ∙ readings_again_all (length c.args.readings.now) c.args.readings.now c.requires.few (day held);
    }
