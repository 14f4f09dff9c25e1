use Rattle.std.proofs.Common.{subst}
use Rattle.mds_jobs.specs.Jobs.{content_of}
use Rattle.mds_fill.specs.Fills.{IsLikeBook}
use Rattle.mds_fill.proofs.SourceLemmas.{like_value}
use Rattle.mds_fill.proofs.usable.candidate_value.Goals as goal

pub returns-in-Some : goal.returns-in-Some
returns-in-Some c = λ w place like. let job = content_of c.args.job.now in
    let here = subst (IsLikeBook w job place) c.in-Some.is like in
    like_value w job place c.args.interval c.usable_value.result here.0 here.1 (c.usable_value.ensures w here.0 here.2)
