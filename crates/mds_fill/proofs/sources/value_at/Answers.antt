use Rattle.std.proofs.Common.{inl, inr, subst}
use Rattle.mds_jobs.specs.Jobs.{content_of}
use Rattle.mds_fill.specs.FillSteps.{IsSource}
use Rattle.mds_fill.proofs.SourceLemmas.{copied}
use Rattle.mds_fill.proofs.sources.value_at.Goals as goal

pub returns-in-LikeDay : goal.returns-in-LikeDay
returns-in-LikeDay c = λ w is source. let job = content_of c.args.job.now in
    let s = subst (IsSource w job) c.in-LikeDay.is source in
    copied w job c.args.interval s.1.0 c.usable_value.result _ s.0 s.1.1 c.requires.target (c.usable_value.ensures w s.1.0 s.1.2)

pub returns-in-Line : goal.returns-in-Line
returns-in-Line c = λ w is source. let job = content_of c.args.job.now in
    let s = subst (IsSource w job) c.in-Line.is source in
    inr (inr (inl (s.0, (c.in-Line.before, c.in-Line.after, s.1, s.2, c.on_line.ensures))))
