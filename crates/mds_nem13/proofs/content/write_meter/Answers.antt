use Rattle.std.proofs.Common.{◌∙◌, ◌∷◌, List, [], ℕ, ap, subst, string_bytes, sym, unwrap_or}
use Rattle.std.proofs.lemmas.Result.{on_ok_weaker}
use Rattle.std.specs.Option.{option_map}
use Rattle.mds_lines.specs.Lines.{field}
use Rattle.mds_records.specs.Layouts.{direction_text}
use Rattle.mds_nem13.specs.BuilderSteps.{AppendsEach, IsApart}
use Rattle.mds_nem13.proofs.Apart.{direction_apart, each_more, field_pushed, name_apart, printable_pushed, suffix_is}
use Rattle.mds_nem13.proofs.content.write_meter.Goals as goal

pub returns : goal.returns
returns c = λ line s.
    let register = printable_pushed _ _ _ _ (field line 4) c.text.ensures.value c.text.ensures.printable s.register c.in_ok-push_text.ensures in
    let name = suffix_is (field line 5) _ s.suffix in
    let suffix = field_pushed _ _ _ (field line 5) (c.text-2.ensures.value ∙ name) c.in_ok-push_text-2.ensures
    (subst IsApart name (name_apart 2 _ c.text-2.ensures.name)) in
    let datastream = printable_pushed _ _ _ _ (field line 6) c.text-3.ensures.value c.text-3.ensures.printable s.datastream c.in_ok-push_text-3.ensures in
    let meter = printable_pushed _ _ _ _ (field line 7) c.text-4.ensures.value c.text-4.ensures.printable s.meter c.in_ok-push_text-4.ensures in
    let direction = c.text-5.ensures.value ∙ sym (ap (λ o. unwrap_or (option_map direction_text o) []) s.direction) in
    let front = each_more _ _ _ _ _ (each_more _ _ _ _ _ (each_more _ _ _ _ _ register suffix) datastream) meter in
    on_ok_weaker c.push_text-5.result
    (λ p. each_more _ _ _ _ _ front (subst (λ (t : List ℕ). AppendsEach (string_bytes c.push_text-4.new.out) (string_bytes c.push_text-5.new.out) (t ∷ [])) direction p))
    (c.push_text-5.ensures (subst IsApart (sym c.text-5.ensures.value) (direction_apart c.args.period.now.direction)))
