use Rattle.std.proofs.Common.{◌≡◌, ◌<◌, map, take}
use Rattle.std.specs.List.{All}
use Rattle.mds_keeper.specs.Kept.{Stays}
use Rattle.mds_ranges.specs.Selections.{IsSelectedStream}
use Rattle.mds_ranges.proofs.Selected.{named, stream_in}
use Rattle.mds_ranges.proofs.selecting.selected_streams.Given as goal

abbrev pub invariant-loop-suffix : goal.invariant-loop-suffix
invariant-loop-suffix g l =
    let k = g.K.Keeper.kept in
    record {
      stays : Stays (k l.initial.keeper) (k l.keeper);
      opens : (k l.keeper).honest → 0 < l.suffix-index → (k l.keeper).sound;
      names : map stream_in l.streams.items ≡ map (named l.nmi) (take l.suffix-index l.suffixes);
      each : (k l.keeper).sound → All (IsSelectedStream (k l.initial.keeper).world l.first l.last) l.streams.items;
    }
