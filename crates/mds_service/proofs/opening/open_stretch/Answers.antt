use Rattle.std.proofs.Common.{refl}
use Rattle.mds_service.specs.Asking.AsksOnly.{Nothing}
use Rattle.mds_service.proofs.Asked.{asks_one}
use Rattle.mds_service.proofs.OfKept.{told_of}
use Rattle.mds_service.proofs.opening.open_stretch.Goals as goal

pub returns-clause-opened : goal.returns-clause-opened
returns-clause-opened g c = λ honest w shows lawful facts.
    c.in_ok-open_days.ensures w facts lawful (told_of c.in_ok-books.ensures.books honest w shows)

pub returns-then-eq-clause-asked : goal.returns-then-eq-clause-asked
returns-then-eq-clause-asked g c = Nothing

pub returns-in_err-books-clause-asked : goal.returns-in_err-books-clause-asked
returns-in_err-books-clause-asked g c = asks_one _ _ _ c.days.ensures.asked (refl, refl, refl)

pub returns-in_err-open_days-clause-asked : goal.returns-in_err-open_days-clause-asked
returns-in_err-open_days-clause-asked g c = asks_one _ _ _ c.days.ensures.asked (refl, refl, refl)

pub returns-clause-asked : goal.returns-clause-asked
returns-clause-asked g c = asks_one _ _ _ c.days.ensures.asked (refl, refl, refl)
