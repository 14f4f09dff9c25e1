use Rattle.mds_world.proofs.Forms.{form_is_latest, form_or_none, one_day_reading, one_form, some_day_reading}
use Rattle.mds_world.proofs.laws.one_form.Goals as goal

pub returns-clause-some : goal.returns-clause-some
returns-clause-some c = form_or_none

pub returns-clause-one : goal.returns-clause-one
returns-clause-one c = one_form

pub returns-clause-latest : goal.returns-clause-latest
returns-clause-latest c = form_is_latest

pub returns-clause-read : goal.returns-clause-read
returns-clause-read c = some_day_reading

pub returns-clause-once : goal.returns-clause-once
returns-clause-once c = one_day_reading
