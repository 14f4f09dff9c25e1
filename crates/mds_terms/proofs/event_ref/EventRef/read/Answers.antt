use Rattle.std.proofs.Common.{◌∙◌, sym}
use Rattle.mds_terms.specs.Event.{event_of}
use Rattle.mds_terms.proofs.event_ref.EventRef.read.Goals as goal

pub returns-in_err-read-clause-value : goal.returns-in_err-read-clause-value
unfolding event_of
returns-in_err-read-clause-value c = rw (c.from_residual.ensures, sym c.read.ensures ∙ c.in_err-read.was)

pub returns-in_err-read-clause-lawful : goal.returns-in_err-read-clause-lawful
returns-in_err-read-clause-lawful c = rw c.from_residual.ensures tt

pub returns-in_err-read-clause-texts : goal.returns-in_err-read-clause-texts
returns-in_err-read-clause-texts c = rw c.from_residual.ensures tt

pub returns-in_err-read-2-clause-value : goal.returns-in_err-read-2-clause-value
unfolding event_of
returns-in_err-read-2-clause-value c = rw (c.from_residual-in_err-read-2.ensures, sym c.read.ensures ∙ c.in_ok-read.was, sym c.read-2.ensures ∙ c.in_err-read-2.was)

pub returns-in_err-read-2-clause-lawful : goal.returns-in_err-read-2-clause-lawful
returns-in_err-read-2-clause-lawful c = rw c.from_residual-in_err-read-2.ensures tt

pub returns-in_err-read-2-clause-texts : goal.returns-in_err-read-2-clause-texts
returns-in_err-read-2-clause-texts c = rw c.from_residual-in_err-read-2.ensures tt

pub returns-in_err-read-3-clause-value : goal.returns-in_err-read-3-clause-value
unfolding event_of
returns-in_err-read-3-clause-value c = rw (c.from_residual-in_err-read-3.ensures, sym c.read.ensures ∙ c.in_ok-read.was, sym c.read-2.ensures ∙ c.in_ok-read-2.was, sym c.read-3.ensures ∙ c.in_err-read-3.was)

pub returns-in_err-read-3-clause-lawful : goal.returns-in_err-read-3-clause-lawful
returns-in_err-read-3-clause-lawful c = rw c.from_residual-in_err-read-3.ensures tt

pub returns-in_err-read-3-clause-texts : goal.returns-in_err-read-3-clause-texts
returns-in_err-read-3-clause-texts c = rw c.from_residual-in_err-read-3.ensures tt

pub returns-in_err-read_optional_trans-clause-value : goal.returns-in_err-read_optional_trans-clause-value
unfolding event_of
returns-in_err-read_optional_trans-clause-value c = rw (c.from_residual-in_err-read_optional_trans.ensures, sym c.read.ensures ∙ c.in_ok-read.was, sym c.read-2.ensures ∙ c.in_ok-read-2.was, sym c.read-3.ensures ∙ c.in_ok-read-3.was, sym c.read_optional_trans.ensures ∙ c.in_err-read_optional_trans.was)

pub returns-in_err-read_optional_trans-clause-lawful : goal.returns-in_err-read_optional_trans-clause-lawful
returns-in_err-read_optional_trans-clause-lawful c = rw c.from_residual-in_err-read_optional_trans.ensures tt

pub returns-in_err-read_optional_trans-clause-texts : goal.returns-in_err-read_optional_trans-clause-texts
returns-in_err-read_optional_trans-clause-texts c = rw c.from_residual-in_err-read_optional_trans.ensures tt

pub returns-in_err-read_optional_moment-clause-value : goal.returns-in_err-read_optional_moment-clause-value
unfolding event_of
returns-in_err-read_optional_moment-clause-value c = rw (c.from_residual-in_err-read_optional_moment.ensures, sym c.read.ensures ∙ c.in_ok-read.was, sym c.read-2.ensures ∙ c.in_ok-read-2.was, sym c.read-3.ensures ∙ c.in_ok-read-3.was, sym c.read_optional_trans.ensures ∙ c.in_ok-read_optional_trans.was, sym c.read_optional_moment.ensures ∙ c.in_err-read_optional_moment.was)

pub returns-in_err-read_optional_moment-clause-lawful : goal.returns-in_err-read_optional_moment-clause-lawful
returns-in_err-read_optional_moment-clause-lawful c = rw c.from_residual-in_err-read_optional_moment.ensures tt

pub returns-in_err-read_optional_moment-clause-texts : goal.returns-in_err-read_optional_moment-clause-texts
returns-in_err-read_optional_moment-clause-texts c = rw c.from_residual-in_err-read_optional_moment.ensures tt

pub returns-in_err-read-4-clause-value : goal.returns-in_err-read-4-clause-value
unfolding event_of
returns-in_err-read-4-clause-value c = rw (c.from_residual-in_err-read-4.ensures, sym c.read.ensures ∙ c.in_ok-read.was, sym c.read-2.ensures ∙ c.in_ok-read-2.was, sym c.read-3.ensures ∙ c.in_ok-read-3.was, sym c.read_optional_trans.ensures ∙ c.in_ok-read_optional_trans.was, sym c.read_optional_moment.ensures ∙ c.in_ok-read_optional_moment.was, sym c.in_err-read-4.ensures.accepted)

pub returns-in_err-read-4-clause-lawful : goal.returns-in_err-read-4-clause-lawful
returns-in_err-read-4-clause-lawful c = rw c.from_residual-in_err-read-4.ensures tt

pub returns-in_err-read-4-clause-texts : goal.returns-in_err-read-4-clause-texts
returns-in_err-read-4-clause-texts c = rw c.from_residual-in_err-read-4.ensures tt

pub returns-in_err-read-5-clause-value : goal.returns-in_err-read-5-clause-value
unfolding event_of
returns-in_err-read-5-clause-value c = rw (c.from_residual-in_err-read-5.ensures, sym c.read.ensures ∙ c.in_ok-read.was, sym c.read-2.ensures ∙ c.in_ok-read-2.was, sym c.read-3.ensures ∙ c.in_ok-read-3.was, sym c.read_optional_trans.ensures ∙ c.in_ok-read_optional_trans.was, sym c.read_optional_moment.ensures ∙ c.in_ok-read_optional_moment.was, sym c.in_ok-read-4.ensures.accepted, sym c.in_err-read-5.ensures.accepted)

pub returns-in_err-read-5-clause-lawful : goal.returns-in_err-read-5-clause-lawful
returns-in_err-read-5-clause-lawful c = rw c.from_residual-in_err-read-5.ensures tt

pub returns-in_err-read-5-clause-texts : goal.returns-in_err-read-5-clause-texts
returns-in_err-read-5-clause-texts c = rw c.from_residual-in_err-read-5.ensures tt

pub returns-clause-texts : goal.returns-clause-texts
returns-clause-texts c = (c.in_ok-read-4.ensures.value, c.in_ok-read-5.ensures.value)
