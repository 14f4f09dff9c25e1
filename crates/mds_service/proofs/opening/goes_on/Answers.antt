use Rattle.std.proofs.Common.{◌≡◌, ◌+◌, ◌<◌, arith, rules}
use Rattle.mds_service.proofs.Opened.{date_known, date_taken}
use Rattle.mds_service.proofs.opening.goes_on.Goals as goal

pub returns-then-number-last-clause-taken : goal.returns-then-number-last-clause-taken
returns-then-number-last-clause-taken c = λ _ dates all.
    let some : 0 < c.args.found.now.len = search (rules, c.in-Some.ensures.variant) in
    date_known dates c.args.date c.args.found.now.items all _ c.in-Some.stretch.now c.in-Some.ensures.value
    (omega (arith, some, c.args.found.now.ok.0))

pub returns-clause-taken : goal.returns-clause-taken
returns-clause-taken c = λ _ dates all.
    let some : 0 < c.args.found.now.len = search (rules, c.in-Some.ensures.variant) in
    let next : c.args.date ≡ c.in-Some.stretch.now.last + 1 = omega (
      arith,
      c.if-number-last-2.false,
      c.number_of-number.ensures.value,
      c.number_of-last.ensures.value,
    ) in
    let near : c.args.date < c.in-Some.stretch.now.first + 64 = omega (
      arith,
      c.if-number-first.false,
      c.number_of-number.ensures.value,
      c.number_of-first.ensures.value,
    ) in
    date_taken dates c.args.date c.args.found.now.items all _ c.in-Some.stretch.now c.in-Some.ensures.value
    (omega (arith, some, c.args.found.now.ok.0)) next near
