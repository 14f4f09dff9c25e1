use Rattle.mds_terms.proofs.Texts.{moment_is_digits}
use Rattle.mds_terms.proofs.parts.moment_digits.Goals as goal

pub returns-in-Some-clause-digits : goal.returns-in-Some-clause-digits
returns-in-Some-clause-digits c = moment_is_digits c.digits.result _ c.digits.ensures
