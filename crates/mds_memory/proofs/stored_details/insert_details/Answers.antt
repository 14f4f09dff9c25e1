use Rattle.std.proofs.Common.{subst}
use Rattle.std.proofs.lemmas.List.{take_all}
use Rattle.mds_memory.specs.StoredDetails.{Gains, all_details}
use Rattle.mds_memory.proofs.StoredDetails.{first_of_all, gained_world, gains_more, given_back, next_absent}
use Rattle.mds_memory.proofs.stored_details.insert_details.Goals as goal

pub insert_days-requires : goal.insert_days-requires
insert_days-requires c =
    next_absent c.args.kept.now c.loop-i.kept c.args.more.now c.loop-i.i c.index-more-i.result c.loop-i-test.true
    c.index-more-i.is c.requires.apart c.requires.absent c.loop-i.invariant

pub returns-in_default-clause-err : goal.returns-in_default-clause-err
returns-in_default-clause-err c =
    given_back c.args.kept.now c.loop-i.kept c.insert_days.new.kept c.take_out.new.kept _ c.loop-i.invariant
    c.in_default.ensures.err c.take_out.ensures
    (λ detail m. c.requires.absent detail (first_of_all c.loop-i.i c.args.more.now detail m))

pub loop-i-preserved : goal.loop-i-preserved
loop-i-preserved c =
    gains_more c.args.kept.now c.loop-i.kept c.insert_days.new.kept c.args.more.now c.loop-i.i c.index-more-i.result
    c.loop-i-test.true c.index-more-i.is c.loop-i.invariant c.in-Ok.ensures.ok

pub returns-clause-ok : goal.returns-clause-ok
returns-clause-ok c =
    gained_world c.args.kept.now c.loop-i.kept (all_details c.args.more.now)
    (subst (λ gs. Gains c.args.kept.now (all_details gs) c.loop-i.kept)
    (take_all c.loop-i.i c.args.more.now c.loop-i-test.false) c.loop-i.invariant)
