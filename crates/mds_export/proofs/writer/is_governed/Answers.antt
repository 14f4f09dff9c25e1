use Rattle.std.proofs.Common.{◌≡◌, true, ◌&&◌, eqb, bytes_eq, option_map, sym, ap, ◌∙◌, rules, false, refl}
use Rattle.std.specs.Ordering.{eq_by_cmp}
use Rattle.mds_quantity.specs.Unit.{unit_text}
use Rattle.mds_terms.specs.Details.{details_cmp}
use Rattle.mds_export.specs.Placed.{is_governed}
use Rattle.mds_export.proofs.writer.is_governed.Goals as goal
use Rattle.mds_export.proofs.writer.is_governed.Goals.{then-eq, else-eq}

pub returns-then-eq-2 : goal.returns-then-eq-2
returns-then-eq-2 c =
    let before = c.in-Some.before.now in
    let day = c.args.day.now in
    let form : (eqb before.length day.length && bytes_eq (unit_text before.unit) (unit_text day.unit)) ≡ true = search rules in
    c.eq-then-eq-2.ensures ∙ sym (ap (λ b. b && eq_by_cmp details_cmp before.details day.details) form)
    ∙ sym (ap (λ o. is_governed (option_map (λ before. before.now) o) day) c.in-Some.is)

pub returns-else-eq-2 : goal.returns-else-eq-2
returns-else-eq-2 c =
    let before = c.in-Some.before.now in
    let day = c.args.day.now in
    let form : (eqb before.length day.length && bytes_eq (unit_text before.unit) (unit_text day.unit)) ≡ false = elim c.if-eq.branch [
      | then-eq w ↦ let value : w.eq-then-eq.result ≡ false = sym w.value-is ∙ c.if-eq-2.false in search rules
      | else-eq w ↦ ap (λ b. b && bytes_eq (unit_text before.unit) (unit_text day.unit)) (sym c.eq.ensures ∙ w.if-eq.false)
    ] in
    c.if-eq-2.false ∙ sym (ap (λ b. b && eq_by_cmp details_cmp before.details day.details) form)
    ∙ sym (ap (λ o. is_governed (option_map (λ before. before.now) o) day) c.in-Some.is)

pub returns-in-None : goal.returns-in-None
returns-in-None c = rw c.in-None.is refl
