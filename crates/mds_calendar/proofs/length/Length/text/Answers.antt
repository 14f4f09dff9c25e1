use Rattle.std.proofs.Common.{◌∙◌, sym, ap, arith, decimal, inl, inr}
use Rattle.mds_calendar.proofs.Lengths.{decimal_5, decimal_15, decimal_30, cases_length}
use Rattle.mds_calendar.proofs.length.Length.text.Goals as goal

pub returns-in-5 : goal.returns-in-5
returns-in-5 c = sym decimal_5 ∙ ap decimal (sym c.in-5.is ∙ c.self.view_is)

pub returns-in-15 : goal.returns-in-15
returns-in-15 c = sym decimal_15 ∙ ap decimal (sym c.in-15.is ∙ c.self.view_is)

pub returns-in_default : goal.returns-in_default
returns-in_default c =
    elim (cases_length c.self.inside.minutes c.self.invariant) [
      | inl e ↦ absurd (omega arith)
      | inr (inl e) ↦ absurd (omega arith)
      | inr (inr e) ↦ sym decimal_30 ∙ ap decimal (sym e ∙ c.self.view_is)
    ]
