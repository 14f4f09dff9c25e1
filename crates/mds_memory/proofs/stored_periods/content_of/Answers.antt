use Rattle.std.proofs.Common.{sym}
use Rattle.mds_keeper.specs.Queries.{IsContentOf}
use Rattle.mds_memory.specs.Stored.{periods_world}
use Rattle.mds_memory.proofs.Places.{if_ok_at}
use Rattle.mds_memory.proofs.StoredPeriods.{content_absent, content_found}
use Rattle.mds_memory.proofs.stored_periods.content_of.Goals as goal

pub returns-in-Some : goal.returns-in-Some
returns-in-Some c = if_ok_at c.copied.result c.in-Some.kept.now (IsContentOf (periods_world c.args.periods.now) c.args.key.now)
    c.copied.ensures (content_found c.args.periods.now c.args.key.now c.in-Some.kept.now c.requires (sym c.in-Some.ensures.value))

pub returns-in-None : goal.returns-in-None
returns-in-None c = content_absent c.args.periods.now c.args.key.now (sym c.in-None.ensures.value)
