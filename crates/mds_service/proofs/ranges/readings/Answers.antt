use Rattle.std.proofs.Common.{refl}
use Rattle.std.proofs.lemmas.Result.{err_from_is_err_and}
use Rattle.mds_keeper.specs.Queries.{AreDaysOf}
use Rattle.mds_registers.proofs.ReadingLaws.{known_books}
use Rattle.mds_service.proofs.ReadingRows.{days_in}
use Rattle.mds_service.proofs.Steps.{failed, shown, unasked}
use Rattle.mds_service.proofs.ranges.readings.Goals as goal

-- a range that is too wide is refused without the store
pub returns-then-is_too_wide-clause-step : goal.returns-then-is_too_wide-clause-step
returns-then-is_too_wide-clause-step g c =
    unasked (λ w. ((c.if-is_too_wide.ensures.0 refl, rw c.of_request.ensures (refl, refl, refl, refl)), refl))

pub returns-in_err-books-clause-step : goal.returns-in_err-books-clause-step
returns-in_err-books-clause-step g c =
    let p = err_from_is_err_and c.from_residual.result c.from_residual.ensures.1 in
    rw (p.1, p.2) (failed c.days.ensures.stays (λ w. ((λ wide. let e = c.if-is_too_wide.ensures.1 wide in cc), refl)))

pub returns-clause-step : goal.returns-clause-step
returns-clause-step g c =
    shown c.in_ok-books.ensures (λ w are.
    let books : AreDaysOf w c.args.stream c.args.first c.args.last c.deref.result.now = rw c.deref.ensures.value are in
    let text = c.in_ok-write_readings.ensures.done w (known_books w _ _ _ _ books) in (
      (
        (λ wide. let e = c.if-is_too_wide.ensures.1 wide in cc),
        _,
        days_in w _ _ _ _ books,
        rw text.2 (rw c.new-text.ensures.items text.1),
      ),
      refl,
    ))

pub returns-in_err-write_readings-clause-step : goal.returns-in_err-write_readings-clause-step
returns-in_err-write_readings-clause-step g c =
    let p = err_from_is_err_and c.from_residual-in_err-write_readings.result c.from_residual-in_err-write_readings.ensures.1 in
    rw (p.1, p.2) (failed c.days.ensures.stays (λ w. ((λ wide. let e = c.if-is_too_wide.ensures.1 wide in cc), refl)))
