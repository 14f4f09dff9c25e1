use Rattle.std.proofs.Common.{◌≡◌, ◌∙◌, slice_get, ap, sym, true≢false, arith}
use Rattle.mds_runs.proofs.Ends.{one_more, alike, unlike}
use Rattle.mds_runs.proofs.cover.end_of_stretch.Goals as goal

pub loop-end-init : goal.loop-end-init
loop-end-init c = λ k lo hi.
    let at : k ≡ c.args.start = omega arith in
    ap (λ i. slice_get c.args.marks.now i) at

pub returns-then-not-are_alike-clause-alike : goal.returns-then-not-are_alike-clause-alike
returns-then-not-are_alike-clause-alike c = c.loop-end.invariant

pub returns-then-not-are_alike-clause-differs : goal.returns-then-not-are_alike-clause-differs
returns-then-not-are_alike-clause-differs c = λ lt same.
    let yes = c.are_alike.ensures.1 (unlike c.args.marks.now c.args.start c.loop-end.end _ _ c.requires lt c.index-marks-start.is c.index-marks-end.is same) in
    absurd (true≢false (sym yes ∙ c.if-not-are_alike.true))

pub loop-end-preserved : goal.loop-end-preserved
loop-end-preserved c =
    one_more c.args.marks.now c.args.start c.loop-end.end c.loop-end.invariant (alike _ _ _ _ _ c.requires c.loop-end-test.true c.index-marks-start.is c.index-marks-end.is (c.are_alike.ensures.0 c.if-not-are_alike.false))

pub returns-clause-alike : goal.returns-clause-alike
returns-clause-alike c = λ k lo hi. c.loop-end.invariant k lo (omega arith)
