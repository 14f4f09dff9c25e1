use Rattle.std.proofs.Common.{◌≡◌, ◌≢◌, rules}
use Rattle.mds_service.proofs.DayOfJob.{breaks_day, other_current, suits_day, unknown_suits}
use Rattle.mds_service.proofs.substituting.day_conflict.Goals as goal

pub returns-in_err-current-clause-none : goal.returns-in_err-current-clause-none
returns-in_err-current-clause-none c = λ w of.
    unknown_suits w c.args.job.now c.args.book.now c.from_residual.result of c.in_err-current.ensures.none

pub returns-then-ne-clause-some : goal.returns-then-ne-clause-some
returns-then-ne-clause-some c = λ w of.
    let other : c.in_ok-current.current ≢ c.args.job.now.length = search (rules, c.if-ne.true, c.ne.ensures) in
    other_current w c.args.job.now c.args.book.now c.in_ok-current.current c.in_ok-current.unit of c.in_ok-current.ensures.some other

pub returns-clause-some : goal.returns-clause-some
returns-clause-some c = λ w of.
    let same : c.in_ok-current.current ≡ c.args.job.now.length = search (rules, c.if-ne.false, c.ne.ensures) in
    breaks_day w c.args.job.now c.args.book.now of c.is_lawful.ensures c.in_ok-current.current c.in_ok-current.unit c.in_ok-current.ensures.some
    same _ c.length_under-under.ensures c.head_conflict.result c.head_conflict.ensures.some

pub returns-clause-none : goal.returns-clause-none
returns-clause-none c = λ w of.
    let same : c.in_ok-current.current ≡ c.args.job.now.length = search (rules, c.if-ne.false, c.ne.ensures) in
    suits_day w c.args.job.now c.args.book.now of c.is_lawful.ensures c.in_ok-current.current c.in_ok-current.unit c.in_ok-current.ensures.some
    same _ c.length_under-under.ensures c.head_conflict.result c.head_conflict.ensures.none
