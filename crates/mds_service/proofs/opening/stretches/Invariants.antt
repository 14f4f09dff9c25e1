use Rattle.std.proofs.Common.{map, take}
use Rattle.std.specs.List.{All}
use Rattle.mds_statements.specs.declared.blocks.DeliveredDay.{DeliveredDay}
use Rattle.mds_service.specs.OpeningSteps.{IsOfDates}
use Rattle.mds_service.proofs.opening.stretches.Given as goal

abbrev pub invariant-loop-day : goal.invariant-loop-day
invariant-loop-day l = All (IsOfDates (map (λ (day : DeliveredDay). day.date) (take l.day-index l.days))) l.found.items
