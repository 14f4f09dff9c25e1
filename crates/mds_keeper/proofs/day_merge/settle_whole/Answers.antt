use Rattle.mds_keeper.proofs.Settled.{day_pushed, whole_fresh}
use Rattle.mds_keeper.proofs.day_merge.settle_whole.Goals as goal

pub returns-clause-ok : goal.returns-clause-ok
returns-clause-ok c =
    day_pushed c.args.book.now _ _ _ _ c.in_ok-push.ensures.items c.stream.ensures c.day.ensures
    (whole_fresh c.args.book.now c.args.minutes c.args.update 1 c.args.readings c.requires.new) c.requires.whole
