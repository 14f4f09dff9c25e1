use Rattle.std.proofs.Common.{◌∙◌, ◌∷◌, [], ℤ, pos, Result, ap, subst, string_bytes, sym, unwrap_or}
use Rattle.std.proofs.lemmas.Result.{on_ok_weaker}
use Rattle.std.specs.Option.{option_map}
use Rattle.std.specs.Result.{result_unwrap_or}
use Rattle.mds_lines.specs.Lines.{field}
use Rattle.mds_quantity.specs.Quantity.{written}
use Rattle.mds_quantity.specs.Unit.{unit_text}
use Rattle.mds_quantity.specs.declared.quantity.QuantityFault.{QuantityFault}
use Rattle.mds_nem13.specs.BuilderSteps.{AppendsEach, IsApart}
use Rattle.mds_nem13.proofs.Apart.{each_more, field_pushed, unit_apart}
use Rattle.mds_nem13.specs.Said.{kept_unit}
use Rattle.mds_nem13.proofs.content.write_amount.Goals as goal

pub returns : goal.returns
returns c = λ line s.
    let amount = subst (λ (r : Result ℤ QuantityFault).
    AppendsEach (string_bytes c.args.out.now) (string_bytes c.push_quantity.new.out) (written (result_unwrap_or r (pos 0)) ∷ []))
    (sym s.quantity) (c.in_ok-push_quantity.ensures (field line 19) s.quantity) in
    let same = c.text.ensures.value ∙ sym (ap (λ o. unwrap_or (option_map unit_text o) []) s.unit) in
    let unit = field_pushed _ _ _ (kept_unit (field line 20)) same c.in_ok-push_text.ensures
    (subst IsApart (sym (ap (λ o. unwrap_or (option_map unit_text o) []) s.unit)) (unit_apart c.args.period.now.unit)) in
    let front = each_more _ _ _ _ _ amount unit in
    on_ok_weaker c.push_optional_day.result (λ p. each_more _ _ _ _ _ front p) (c.push_optional_day.ensures (field line 21) s.next)
