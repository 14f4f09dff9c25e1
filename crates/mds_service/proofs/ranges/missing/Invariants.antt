use Rattle.std.specs.Prelude.{◌≡◌, ◌++◌, ℕ, List, take, Ok}
use Rattle.mds_keeper.specs.Kept.{Asks}
use Rattle.mds_keeper.specs.Queries.{AreKnownStreams}
use Rattle.mds_keeper.specs.declared.keeper.Unavailable.{Unavailable}
use Rattle.mds_export.specs.Exports.{AreInTurn}
use Rattle.mds_registers.specs.Registers.{gaps_head_text}
use Rattle.mds_service.specs.RangeAnswers.{IsMissingOf}
use Rattle.mds_service.proofs.ranges.missing.Given as goal

abbrev pub invariant-loop-stream : goal.invariant-loop-stream
invariant-loop-stream g l =
    let k = g.K.Keeper.kept in
    record {
      asked : Asks {E = Unavailable} (k l.fn.keeper) (k l.keeper) (Ok l.text.items) (λ w text.
          AreKnownStreams w l.stream-items × (rest : List ℕ) × (text ≡ gaps_head_text ++ rest)
          × AreInTurn (IsMissingOf w l.since l.first l.last) (take l.stream-index l.stream-items) rest);
    }
