use Rattle.std.proofs.Common.{sym, ◌∙◌, inl, inr}
use Rattle.mds_marks.proofs.IntervalNumbers.{no_interval_number, interval_number_is}
use Rattle.mds_marks.proofs.digits.interval_number.Goals as goal

pub returns-then-is_empty : goal.returns-then-is_empty
returns-then-is_empty c = sym (no_interval_number c.args.text.now (elim c.then-is_empty.either [
  | inl e ↦ inl (sym c.is_empty.ensures ∙ e)
  | inr e ↦ inr (sym c.is_empty.ensures ∙ e.0, e.1)
]))

pub returns : goal.returns
returns c = c.number_in.ensures.value ∙ interval_number_is c.args.text.now (sym c.is_empty.ensures ∙ c.if-is_empty.false) c.if-text-gt-MOST_DIGITS.false
