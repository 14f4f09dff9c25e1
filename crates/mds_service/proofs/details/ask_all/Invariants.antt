use Rattle.std.specs.Prelude.{◌≡◌, ◌++◌}
use Rattle.mds_keeper.specs.Kept.{OfKept, Stays}
use Rattle.mds_service.specs.Asking.{AsksOnly, IsNone}
use Rattle.mds_service.proofs.SharedDays.{AreAnswered}
use Rattle.mds_service.proofs.details.ask_all.Given as goal

abbrev pub invariant-loop-shared : goal.invariant-loop-shared
invariant-loop-shared g l =
    let k = g.K.ImportKeeper.kept in
    record {
      stays : Stays (k l.fn.keeper) (k l.keeper);
      split : l.yielded ++ l.shared-iterator ≡ l.fn.together.entries;
      asked : AsksOnly g.K.ImportKeeper.asks g.K.ImportKeeper.others IsNone l.fn.keeper l.keeper;
      answers : OfKept (k l.fn.keeper) (k l.keeper) (λ w. AreAnswered w l.yielded l.new.items);
    }
