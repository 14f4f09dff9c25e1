use Rattle.std.proofs.Common.{◌≡◌, ◌+◌, Some, length, refl, sym, ap, ◌∙◌, arith, rules}
use Rattle.std.proofs.lemmas.List.{length-set}
use Rattle.mds_runs.specs.RunSteps.{runs_from}
use Rattle.mds_runs.specs.Runs.{run_at}
use Rattle.mds_runs.specs.Gaps.{LaysText, over, overlaid}
use Rattle.mds_runs.specs.GapSteps.{first_begun}
use Rattle.mds_runs.proofs.Overlays.{begun_is, left_on, from_start, laid_on}
use Rattle.mds_runs.proofs.cover.set_marks.Goals as goal

pub loop-k-init : goal.loop-k-init
loop-k-init c = record { left = from_start c.args.runs.now; laid = refl; same = refl }

pub loop-k-preserved : goal.loop-k-preserved
loop-k-preserved c =
    let k = c.loop-k.k in
    let runs = c.args.runs.now in
    let left : c.runs_from-left.result.now ≡ runs_from runs (k + 1) = left_on runs c.loop-k.left.now c.runs_from-left.result.now k c.loop-k.invariant.left c.runs_from-left.ensures in
    let now : c.set_mark.new.mark ≡ over (run_at runs (k + 1)) c.index_mut.result.now = c.in_ok-set_mark.ensures.done ∙ ap (λ l. over (first_begun l (k + 1)) c.index_mut.result.now) left ∙ ap (λ o. over o c.index_mut.result.now) (begun_is c.requires.lawful.0 c.requires.lawful.1 (k + 1) runs c.requires.lawful.2) in
    record {
      left = left;
      laid = laid_on runs k c.loop-k.marks.items c.index_mut.result.now c.set_mark.new.mark (overlaid runs 1 c.args.marks.now.items) (omega arith) c.index_mut.ensures.value now c.loop-k.invariant.laid;
      same = length-set c.loop-k.marks.items k c.set_mark.new.mark ∙ c.loop-k.invariant.same;
    }

pub returns-in_err-set_mark-clause-only : goal.returns-in_err-set_mark-clause-only
returns-in_err-set_mark-clause-only c =
    let k = c.loop-k.k in
    let runs = c.args.runs.now in
    let told = c.in_err-set_mark.ensures.only in
    let left = left_on runs c.loop-k.left.now c.runs_from-left.result.now k c.loop-k.invariant.left c.runs_from-left.ensures in
    let held : run_at runs (k + 1) ≡ Some told.0 = sym (begun_is c.requires.lawful.0 c.requires.lawful.1 (k + 1) runs c.requires.lawful.2) ∙ sym (ap (λ l. first_begun l (k + 1)) left) ∙ told.1 in
    let lays : LaysText runs (length c.args.marks.now.items) = (k + 1, told.0, omega (arith, c.loop-k.invariant.same), held, told.2) in
    search (rules, lays)
