use Rattle.mds_wire.proofs.Meant.{head_means, headless_means, only_steps}
use Rattle.mds_wire.proofs.laws.laws_of.Goals as goal

pub returns-clause-head : goal.returns-clause-head
returns-clause-head g c = head_means g.H.Handler.step g.H.Handler.same g.H.Handler.takes_memory

pub returns-clause-headless : goal.returns-clause-headless
returns-clause-headless g c = headless_means g.H.Handler.step g.H.Handler.same g.H.Handler.takes_memory

pub returns-clause-steps : goal.returns-clause-steps
returns-clause-steps g c = only_steps g.H.Handler.step g.H.Handler.same g.H.Handler.takes_memory
