use Rattle.std.proofs.Common.{refl, Some, ◌≡◌, ◌++◌, string_bytes, codes, length, ap, ◌∙◌, arith, rules, decimal}
use Rattle.std.specs.Int.{w128}
use Rattle.std.proofs.lemmas.Int.{to_z-of_z}
use Rattle.mds_quantity.specs.Quantity.{written}
use Rattle.mds_quantity.specs.Unit.{unit_text}
use Rattle.mds_days.specs.Readings.{amounts, total}
use Rattle.mds_nem12.specs.Told.{day_said}
use Rattle.mds_check.proofs.Texts.{more_char, grown}
use Rattle.mds_check.proofs.report.write_day.Goals as goal

pub returns : goal.returns
returns c = grown c.push-6.result _ _ _ c.push-6.ensures.bytes (λ done.
    let old = string_bytes c.args.text.now in
    let g = c.args.governing.now in
    let values = amounts (day_said g c.args.day.now).readings in
    let n = decimal (length values) in
    let dated = c.in_ok-write_to-3.ensures.done in
    let date = dated.0 in
    let a : string_bytes c.write_to.new.out ≡ old ++ g.stream.nmi = c.in_ok-write_to.ensures.done ∙ ap (λ t. old ++ t) c.nmi.ensures.value in
    let a1 = more_char old _ (string_bytes c.push.new.self) g.stream.nmi _ (codes " ") a c.in_ok-push.ensures.bytes (c.in_ok-push.ensures.ascii (omega arith)) in
    let t1 = g.stream.nmi ++ codes " " in
    let b = more_char old _ (string_bytes c.write_to-2.new.out) t1 _ g.stream.suffix a1 c.in_ok-write_to-2.ensures.done c.suffix.ensures in
    let b1 = more_char old _ (string_bytes c.push-2.new.self) (t1 ++ g.stream.suffix) _ (codes " ") b c.in_ok-push-2.ensures.bytes (c.in_ok-push-2.ensures.ascii (omega arith)) in
    let t2 = t1 ++ g.stream.suffix ++ codes " " in
    let e = more_char old _ (string_bytes c.write_to-3.new.out) t2 date date b1 dated.2 refl in
    let e1 = more_char old _ (string_bytes c.push-3.new.self) (t2 ++ date) _ (codes " ") e c.in_ok-push-3.ensures.bytes (c.in_ok-push-3.ensures.ascii (omega arith)) in
    let t3 = t2 ++ date ++ codes " " in
    let f = more_char old _ (string_bytes c.push_str.new.self) t3 _ n e1 c.in_ok-push_str.ensures.bytes (c.format.ensures.text ∙ ap decimal c.tally-tally.ensures.count) in
    let f1 = more_char old _ (string_bytes c.push-4.new.self) (t3 ++ n) _ (codes " ") f c.in_ok-push-4.ensures.bytes (c.in_ok-push-4.ensures.ascii (omega arith)) in
    let t4 = t3 ++ n ++ codes " " in
    let h = more_char old _ (string_bytes c.write_millionths.new.out) t4 _ (written (total values)) f1 c.in_ok-write_millionths.ensures.done (ap written (to_z-of_z w128 c.tally-tally.result.total (search rules) ∙ c.tally-tally.ensures.total)) in
    let h1 = more_char old _ (string_bytes c.push-5.new.self) (t4 ++ written (total values)) _ (codes " ") h c.in_ok-push-5.ensures.bytes (c.in_ok-push-5.ensures.ascii (omega arith)) in
    let t5 = t4 ++ written (total values) ++ codes " " in
    let i = more_char old _ (string_bytes c.push_str-2.new.self) t5 _ (unit_text g.unit) h1 c.in_ok-push_str-2.ensures.bytes c.text.ensures.value in (
      date,
      dated.1 ∙ ap Some c.date.ensures,
      more_char old _ (string_bytes c.push-6.new.self) (t5 ++ unit_text g.unit) _ (codes "\n") i done (c.push-6.ensures.ascii (omega arith)),
    ))
