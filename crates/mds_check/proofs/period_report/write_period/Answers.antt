use Rattle.std.proofs.Common.{refl, ◌≡◌, ◌++◌, string_bytes, codes, ap, ◌∙◌, arith}
use Rattle.mds_quantity.specs.Quantity.{written}
use Rattle.mds_quantity.specs.Unit.{unit_text}
use Rattle.mds_check.proofs.Texts.{more_char, grown}
use Rattle.mds_check.proofs.period_report.write_period.Goals as goal

pub returns : goal.returns
returns c = grown c.push-6.result _ _ _ c.push-6.ensures.bytes (λ done.
    let old = string_bytes c.args.text.now in
    let p = c.args.period.now in
    let starts = c.in_ok-write_to-3.ensures.done in
    let ends = c.in_ok-write_to-4.ensures.done in
    let start = starts.0 in
    let finish = ends.0 in
    let a : string_bytes c.write_to.new.out ≡ old ++ p.stream.nmi = c.in_ok-write_to.ensures.done ∙ ap (λ t. old ++ t) c.nmi.ensures.value in
    let a1 = more_char old _ (string_bytes c.push.new.self) p.stream.nmi _ (codes " ") a c.in_ok-push.ensures.bytes (c.in_ok-push.ensures.ascii (omega arith)) in
    let t1 = p.stream.nmi ++ codes " " in
    let b = more_char old _ (string_bytes c.write_to-2.new.out) t1 _ p.stream.suffix a1 c.in_ok-write_to-2.ensures.done c.suffix.ensures in
    let b1 = more_char old _ (string_bytes c.push-2.new.self) (t1 ++ p.stream.suffix) _ (codes " ") b c.in_ok-push-2.ensures.bytes (c.in_ok-push-2.ensures.ascii (omega arith)) in
    let t2 = t1 ++ p.stream.suffix ++ codes " " in
    let e = more_char old _ (string_bytes c.write_to-3.new.out) t2 start start b1 starts.2 refl in
    let e1 = more_char old _ (string_bytes c.push-3.new.self) (t2 ++ start) _ (codes " ") e c.in_ok-push-3.ensures.bytes (c.in_ok-push-3.ensures.ascii (omega arith)) in
    let t3 = t2 ++ start ++ codes " " in
    let f = more_char old _ (string_bytes c.write_to-4.new.out) t3 finish finish e1 ends.2 refl in
    let f1 = more_char old _ (string_bytes c.push-4.new.self) (t3 ++ finish) _ (codes " ") f c.in_ok-push-4.ensures.bytes (c.in_ok-push-4.ensures.ascii (omega arith)) in
    let t4 = t3 ++ finish ++ codes " " in
    let amount = written p.quantity in
    let h = more_char old _ (string_bytes c.write_to-5.new.out) t4 _ amount f1 c.in_ok-write_to-5.ensures.done refl in
    let h1 = more_char old _ (string_bytes c.push-5.new.self) (t4 ++ amount) _ (codes " ") h c.in_ok-push-5.ensures.bytes (c.in_ok-push-5.ensures.ascii (omega arith)) in
    let t5 = t4 ++ amount ++ codes " " in
    let i = more_char old _ (string_bytes c.push_str.new.self) t5 _ (unit_text p.unit) h1 c.in_ok-push_str.ensures.bytes c.text.ensures.value in (
      start,
      finish,
      starts.1,
      ends.1,
      more_char old _ (string_bytes c.push-6.new.self) (t5 ++ unit_text p.unit) _ (codes "\n") i done (c.push-6.ensures.ascii (omega arith)),
    ))
