use Rattle.mds_terms.proofs.Texts.{day_is_digits}
use Rattle.mds_terms.proofs.parts.day_digits.Goals as goal

pub returns-in-Some-clause-digits : goal.returns-in-Some-clause-digits
returns-in-Some-clause-digits c = day_is_digits c.digits.result _ c.digits.ensures
