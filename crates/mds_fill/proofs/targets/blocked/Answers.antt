use Rattle.mds_jobs.specs.Jobs.{content_of}
use Rattle.mds_keeper.specs.declared.refusal.RefusalCode.TheVariants.{Protected, StaleUpdate}
use Rattle.mds_fill.proofs.FillLemmas.{refusal_is}
use Rattle.mds_fill.proofs.targets.blocked.Goals as goal

pub returns-in-Some : goal.returns-in-Some
returns-in-Some c = λ w is.
    refusal_is w (content_of c.args.job.now) _ Protected _ c.at_interval.ensures (c.in-Some.ensures w is)

pub returns-in-Some-first_stale : goal.returns-in-Some-first_stale
returns-in-Some-first_stale c = λ w is.
    refusal_is w (content_of c.args.job.now) _ StaleUpdate _ c.at_interval-in-Some-first_stale.ensures
    (c.in_default.ensures w is, c.in-Some-first_stale.ensures w is)
