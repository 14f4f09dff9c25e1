use Rattle.std.proofs.Common.{subst, sym}
use Rattle.mds_world.specs.World.{IsLawful}
use Rattle.mds_memory.proofs.Kept.{nothing_kept, nothing_stored}
use Rattle.mds_keeper.proofs.Unknown.{nothing_lawful}
use Rattle.mds_memory.proofs.memory.MemoryKeeper.new.Goals as goal

pub invariant_of-result : goal.invariant_of-result
invariant_of-result c = nothing_stored c.new.result c.new-2.result c.new-3.result c.new-4.result c.new-5.result c.new.ensures.empty c.new-2.ensures.empty c.new-3.ensures.empty c.new-4.ensures.empty c.new-5.ensures.empty c.new.ensures.ordered c.new-4.ensures.ordered c.new-5.ensures.ordered

pub returns-clause-nothing : goal.returns-clause-nothing
returns-clause-nothing c = nothing_kept c.new.result c.new-2.result c.new-3.result c.new-4.result c.new-5.result c.new.ensures.empty c.new-2.ensures.empty c.new-3.ensures.empty c.new-4.ensures.empty c.new-5.ensures.empty

pub returns-clause-lawful : goal.returns-clause-lawful
returns-clause-lawful c =
    subst IsLawful
    (sym (nothing_kept c.new.result c.new-2.result c.new-3.result c.new-4.result c.new-5.result c.new.ensures.empty c.new-2.ensures.empty c.new-3.ensures.empty c.new-4.ensures.empty c.new-5.ensures.empty)) nothing_lawful
