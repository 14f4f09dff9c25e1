use Rattle.std.proofs.Common.{refl}
use Rattle.mds_keeper.proofs.Settled.{none_settled, readings_gained}
use Rattle.mds_keeper.proofs.day_merge.settle_update.Goals as goal

pub returns-in_default-clause-ok : goal.returns-in_default-clause-ok
returns-in_default-clause-ok c =
    none_settled c.args.book.now c.args.unit _ c.args.update c.args.kept _ c.in_default.is c.requires.some c.requires.kept

pub returns-then-are_new-clause-ok : goal.returns-then-are_new-clause-ok
returns-then-are_new-clause-ok c =
    readings_gained c.args.book.now _ _ c.args.update c.args.kept _ c.in-Some.is _ c.settle_head.new.additions
    (record c.settle_head.new.additions { days = c.settle_whole.new.days }) c.in_ok-settle_head.ensures.ok c.in_ok-settle_whole.ensures.ok
    refl refl refl refl refl refl refl

pub returns-clause-ok : goal.returns-clause-ok
returns-clause-ok c =
    readings_gained c.args.book.now _ _ c.args.update c.args.kept _ c.in-Some.is _ c.settle_head.new.additions
    (record c.settle_head.new.additions { days = c.settle_some.new.days }) c.in_ok-settle_head.ensures.ok c.in_ok-settle_some.ensures.ok
    refl refl refl refl refl refl refl
