use Rattle.mds_memory.proofs.Kept.{job_of_all}
use Rattle.mds_memory.proofs.Told.{told}
use Rattle.mds_memory.proofs.memory.MemoryKeeperKeeper.job.Goals as goal

pub returns : goal.returns
returns c = let k = c.self.inside in told c.self.view_is (job_of_all k.days k.details k.notes k.jobs k.periods c.args.id _ c.in_ok-job_of.ensures)
