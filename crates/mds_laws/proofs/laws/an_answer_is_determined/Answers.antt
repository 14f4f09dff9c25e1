use Rattle.mds_laws.proofs.Answered.{answered_are_all, unanswered_stand_aside}
use Rattle.mds_laws.proofs.Determined.{answers_are_determined, runs_are_determined}
use Rattle.mds_laws.proofs.laws.an_answer_is_determined.Goals as goal

pub returns-clause-answers : goal.returns-clause-answers
returns-clause-answers c = answers_are_determined

pub returns-clause-runs : goal.returns-clause-runs
returns-clause-runs c = runs_are_determined

pub returns-clause-aside : goal.returns-clause-aside
returns-clause-aside c = unanswered_stand_aside

pub returns-clause-all : goal.returns-clause-all
returns-clause-all c = answered_are_all
