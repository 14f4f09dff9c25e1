use Rattle.std.proofs.Common.{rules, sym}
use Rattle.mds_keeper.specs.LentVersions.{lent_reading}
use Rattle.mds_keeper.proofs.Walks.{held_is, other_length}
use Rattle.mds_keeper.proofs.day_merge.has_reading.Goals as goal

pub returns-then-ne : goal.returns-then-ne
returns-then-ne c =
    sym (other_length c.args.book.now c.is_lawful.ensures c.args.length c.in-Some.held.length c.args.interval c.args.update
    (lent_reading c.in-Some.held) c.args.reading.now c.in-Some.ensures.some.1 (search (rules, c.if-ne.true, c.ne.ensures)))

pub returns-else-ne : goal.returns-else-ne
returns-else-ne c =
    held_is c.args.book.now c.is_lawful.ensures c.args.length c.in-Some.held.length c.args.interval c.args.update
    (lent_reading c.in-Some.held) c.args.reading.now c.in-Some.ensures.some.1 (search (rules, c.if-ne.false, c.ne.ensures))
    c.is_of.result c.is_of.ensures
