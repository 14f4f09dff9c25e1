use Rattle.mds_laws.proofs.Registers.{missing_shows_gaps, readings_show_days, readings_show_exports}
use Rattle.mds_laws.proofs.laws.registers_agree.Goals as goal

pub returns-clause-missing : goal.returns-clause-missing
returns-clause-missing c = missing_shows_gaps

pub returns-clause-days : goal.returns-clause-days
returns-clause-days c = readings_show_days

pub returns-clause-exports : goal.returns-clause-exports
returns-clause-exports c = readings_show_exports
