use Rattle.std.proofs.Common.{◌≡◌, ◌+◌, ℕ, Option, subst, arith}
use Rattle.std.specs.Prelude.{MatchOption}
use Rattle.mds_keeper.specs.Books.{BookValue}
use Rattle.mds_jobs.specs.Jobs.{content_of}
use Rattle.mds_fill.specs.Fills.{Finds, IsBookOf, IsUsable}
use Rattle.mds_fill.proofs.SourceLemmas.{before_here, before_there}
use Rattle.mds_fill.proofs.sources.value_before.Goals as goal

pub returns-then-job-gt1 : goal.returns-then-job-gt1
returns-then-job-gt1 c = λ w is. let job = content_of c.args.job.now in
    before_here w job c.usable_value.result c.if-job-gt1.true (c.usable_value.ensures w job.day is.target)

pub returns-in-Some : goal.returns-in-Some
returns-in-Some c = λ w is. let job = content_of c.args.job.now in
    let b = subst (λ (o : Option BookValue). MatchOption o (job.day ≡ 0)
    (λ book. (day : ℕ) × (day + 1 ≡ job.day) × IsBookOf w job.stream day book)) c.in-Some.is is.before in
    before_there w job c.usable_value-in-Some.result b.0 (omega (arith, c.if-job-gt1.false, c.requires.from_one)) b.1
    (subst (λ n. Finds (IsUsable w job b.0 n) c.usable_value-in-Some.result) c.count.ensures.value
    (c.usable_value-in-Some.ensures w b.0 b.2))
