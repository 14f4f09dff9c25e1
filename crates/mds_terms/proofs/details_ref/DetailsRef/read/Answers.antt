use Rattle.std.proofs.Common.{◌∙◌, sym}
use Rattle.mds_terms.specs.Details.{details_of}
use Rattle.mds_terms.proofs.details_ref.DetailsRef.read.Goals as goal

pub returns-in_err-read-clause-value : goal.returns-in_err-read-clause-value
unfolding details_of
returns-in_err-read-clause-value c = rw (c.from_residual.ensures, sym c.in_err-read.ensures.accepted)

pub returns-in_err-read-clause-texts : goal.returns-in_err-read-clause-texts
returns-in_err-read-clause-texts c = rw c.from_residual.ensures tt

pub returns-in_err-read-2-clause-value : goal.returns-in_err-read-2-clause-value
unfolding details_of
returns-in_err-read-2-clause-value c = rw (c.from_residual-in_err-read-2.ensures, sym c.in_ok-read.ensures.accepted, sym c.in_err-read-2.ensures.accepted)

pub returns-in_err-read-2-clause-texts : goal.returns-in_err-read-2-clause-texts
returns-in_err-read-2-clause-texts c = rw c.from_residual-in_err-read-2.ensures tt

pub returns-in_err-read-3-clause-value : goal.returns-in_err-read-3-clause-value
unfolding details_of
returns-in_err-read-3-clause-value c = rw (c.from_residual-in_err-read-3.ensures, sym c.in_ok-read.ensures.accepted, sym c.in_ok-read-2.ensures.accepted, sym c.in_err-read-3.ensures.accepted)

pub returns-in_err-read-3-clause-texts : goal.returns-in_err-read-3-clause-texts
returns-in_err-read-3-clause-texts c = rw c.from_residual-in_err-read-3.ensures tt

pub returns-in_err-read-4-clause-value : goal.returns-in_err-read-4-clause-value
unfolding details_of
returns-in_err-read-4-clause-value c = rw (c.from_residual-in_err-read-4.ensures, sym c.in_ok-read.ensures.accepted, sym c.in_ok-read-2.ensures.accepted, sym c.in_ok-read-3.ensures.accepted, sym c.in_err-read-4.ensures.accepted)

pub returns-in_err-read-4-clause-texts : goal.returns-in_err-read-4-clause-texts
returns-in_err-read-4-clause-texts c = rw c.from_residual-in_err-read-4.ensures tt

pub returns-in_err-read_optional_day-clause-value : goal.returns-in_err-read_optional_day-clause-value
unfolding details_of
returns-in_err-read_optional_day-clause-value c = rw (c.from_residual-in_err-read_optional_day.ensures, sym c.in_ok-read.ensures.accepted, sym c.in_ok-read-2.ensures.accepted, sym c.in_ok-read-3.ensures.accepted, sym c.in_ok-read-4.ensures.accepted, sym c.read_optional_day.ensures ∙ c.in_err-read_optional_day.was)

pub returns-in_err-read_optional_day-clause-texts : goal.returns-in_err-read_optional_day-clause-texts
returns-in_err-read_optional_day-clause-texts c = rw c.from_residual-in_err-read_optional_day.ensures tt

pub returns-clause-texts : goal.returns-clause-texts
returns-clause-texts c = (c.in_ok-read.ensures.value, c.in_ok-read-2.ensures.value, c.in_ok-read-3.ensures.value, c.in_ok-read-4.ensures.value)
