use Rattle.std.proofs.Common.{◌≡◌, drop, None, option_map}
use Rattle.mds_statements.specs.SelectedSteps.{streams_follow}
use Rattle.mds_statements.proofs.selection.are_in_order.Given as goal

abbrev pub invariant-loop-selected : goal.invariant-loop-selected
invariant-loop-selected l =
    streams_follow None l.streams ≡ streams_follow (option_map (λ last. last.now) l.last) (drop l.selected-index l.streams)
