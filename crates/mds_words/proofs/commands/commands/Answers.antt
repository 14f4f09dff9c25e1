use Rattle.std.proofs.Common.{◌≡◌, rules}
use Rattle.mds_words.specs.Commands.{IsLeaf}
use Rattle.mds_words.specs.Grammar.{all_names, shape_of}
use Rattle.mds_words.proofs.Building.{one_more_of}
use Rattle.mds_words.proofs.commands.commands.Goals as goal

pub loop-name-preserved : goal.loop-name-preserved
loop-name-preserved c =
    let same : c.as_slice-name-items.result.now ≡ all_names = search rules in
    rw c.in_ok-push.ensures.items
    (one_more_of IsLeaf (shape_of c.args.kinds.names) all_names c.loop-name.name-index _ _ _ (rw same at c.loop-name-test.true) c.loop-name.invariant (rw same at c.in_ok-command.ensures))
