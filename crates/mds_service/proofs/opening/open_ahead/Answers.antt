use Rattle.std.proofs.Common.{sym}
use Rattle.std.proofs.lemmas.Bool.{ltb-true}
use Rattle.mds_service.specs.Asking.AsksOnly.{Nothing}
use Rattle.mds_service.proofs.Asked.{asks_of_stretch}
use Rattle.mds_service.proofs.opening.open_ahead.Goals as goal

pub returns-in_default-clause-asked : goal.returns-in_default-clause-asked
returns-in_default-clause-asked g c = λ dates all. Nothing

pub returns-then-ne-clause-asked : goal.returns-then-ne-clause-asked
returns-then-ne-clause-asked g c = λ dates all. Nothing

pub returns-clause-asked : goal.returns-clause-asked
returns-clause-asked g c = λ dates all.
    let found = c.in-Some.ensures.lookup in
    asks_of_stretch c.args.stream.now dates c.args.ahead.now c.args.next.now c.in-Some.stretch.now (ltb-true _ _ (sym found.0)) found.1 all
    c.open_stretch.ensures.asked
