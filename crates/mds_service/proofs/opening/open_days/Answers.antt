use Rattle.std.proofs.Common.{◌∙◌, sym, subst}
use Rattle.mds_keeper.specs.Queries.{AreDaysOf}
use Rattle.mds_service.proofs.Collects.{none_left}
use Rattle.mds_service.proofs.Opened.{front_is, front_off, unknown_end, unknown_front}
use Rattle.mds_service.proofs.opening.open_days.Goals as goal

pub loop-book-init : goal.loop-book-init
loop-book-init c = λ w facts lawful are merges. (
  subst (λ n. AreDaysOf w c.args.stream.now n c.args.last c.into_iter-book-iterator.result.rest.items) (sym c.number_of-from.ensures.value)
      (subst (AreDaysOf w c.args.stream.now c.args.first c.args.last) (sym c.into_iter-book-iterator.ensures.into_iter_gives.0) are),
  merges,
)

pub loop-book-preserved : goal.loop-book-preserved
loop-book-preserved c = λ w facts lawful are merges.
    let i = c.loop-book.invariant w facts lawful are merges in
    let first = c.in-Some.ensures.steps.0 in
    let same = c.number_of-day.ensures.value ∙ c.day.ensures in (
      front_off w _ c.loop-book.from _ _ _ _ c.in-Some.book first same i.0,
      c.in_ok-open_day.ensures w facts (front_is w _ c.loop-book.from _ _ _ c.in-Some.book first i.0)
          (c.in_ok-open_unknown.ensures w facts (unknown_front w _ c.loop-book.from _ _ _ _ c.in-Some.book first same lawful i.0) i.1),
    )

pub returns : goal.returns
returns c = λ w facts lawful are merges.
    let i = c.loop-book.invariant w facts lawful are merges in
    let none = none_left _ _ c.loop-book.book-iterator.rest.ok.0 c.in-None.ensures.steps.0 in
    c.in_ok-open_unknown-2.ensures w facts (unknown_end w _ c.loop-book.from _ _ _ none c.number_of.ensures.value lawful i.0) i.1
