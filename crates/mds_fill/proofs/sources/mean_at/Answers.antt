use Rattle.std.proofs.Common.{◌≤◌, ◌∙◌, ℤ, List, [], ◌∷◌, length, Option, sym, arith}
use Rattle.mds_jobs.specs.Jobs.{content_of}
use Rattle.mds_fill.proofs.SourceLemmas.{no_tally, tally_of}
use Rattle.mds_fill.proofs.TallyLemmas.{rounded_as, sum_kept}
use Rattle.mds_fill.proofs.sources.mean_at.Goals as goal

pub returns-then-count-eq0 : goal.returns-then-count-eq0
returns-then-count-eq0 c = λ w is. let job = content_of c.args.job.now in
    no_tally w job c.args.interval _
    (tally_of w job c.args.interval c.args.context.now.candidates _ _ _ _ _ _ _ _ is.candidates (c.candidate_value.ensures w 0)
    (c.candidate_value-2.ensures w 1) (c.candidate_value-3.ensures w 2) (c.candidate_value-4.ensures w 3))
    (sym c.sum_and_count-sum.ensures.count ∙ c.if-count-eq0.true)

pub returns : goal.returns
returns c = λ w is. let job = content_of c.args.job.now in
    let e = c.sum_and_count-sum.ensures in
    let values : List (Option ℤ) =
    c.candidate_value.result ∷ c.candidate_value-2.result ∷ c.candidate_value-3.result ∷ c.candidate_value-4.result ∷ [] in
    let four : length values ≤ 4 = omega arith in
    let sum = sum_kept values c.sum_and_count-sum.result.0 c.sum_and_count-sum.result.1 four e.count e.bound in (
      values,
      tally_of w job c.args.interval c.args.context.now.candidates _ _ _ _ _ _ _ _ is.candidates
          (c.candidate_value.ensures w 0) (c.candidate_value-2.ensures w 1) (c.candidate_value-3.ensures w 2)
          (c.candidate_value-4.ensures w 3),
      omega (arith, e.count, c.if-count-eq0.false),
      rounded_as _ _ _ _ _ (sum ∙ e.sum) e.count c.mean.ensures,
    )
