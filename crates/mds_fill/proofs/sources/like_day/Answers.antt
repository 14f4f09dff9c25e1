use Rattle.std.proofs.Common.{subst}
use Rattle.mds_jobs.specs.Jobs.{content_of}
use Rattle.mds_fill.specs.Fills.{IsLikeBook}
use Rattle.mds_fill.proofs.SourceLemmas.{not_like}
use Rattle.mds_fill.proofs.sources.like_day.Goals as goal

pub returns-else-has_all : goal.returns-else-has_all
returns-else-has_all c = λ w place like. let job = content_of c.args.job.now in
    let here = subst (IsLikeBook w job place) c.in-Some.is like in
    not_like w job place here.0 here.1 (c.if-has_all.ensures w here.0 here.2)
