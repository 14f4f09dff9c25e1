use Rattle.std.proofs.Common.{◌≤◌, ◌<◌, ◌+◌, Option, subst, arith}
use Rattle.std.specs.Prelude.{MatchOption}
use Rattle.mds_calendar.specs.Calendar.{last_day}
use Rattle.mds_keeper.specs.Books.{BookValue}
use Rattle.mds_jobs.specs.Jobs.{content_of}
use Rattle.mds_fill.specs.Fills.{IsBookOf}
use Rattle.mds_fill.proofs.SourceLemmas.{after_here, after_there}
use Rattle.mds_fill.proofs.sources.value_after.Goals as goal

pub returns-then-from-count : goal.returns-then-from-count
returns-then-from-count c = λ w is. let job = content_of c.args.job.now in
    after_here w job c.usable_value.result (omega arith) (c.usable_value.ensures w job.day is.target)

pub returns-in-Some : goal.returns-in-Some
returns-in-Some c = λ w is. let job = content_of c.args.job.now in
    let b = subst (λ (o : Option BookValue). MatchOption o (last_day ≤ job.day)
    (λ book. (job.day < last_day) × IsBookOf w job.stream (job.day + 1) book)) c.in-Some.is is.after in
    after_there w job c.usable_value-in-Some.result (omega (arith, c.requires.within)) b.0
    (c.usable_value-in-Some.ensures w (job.day + 1) b.1)
