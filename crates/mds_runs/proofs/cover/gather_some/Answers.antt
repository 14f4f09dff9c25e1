use Rattle.std.proofs.Common.{◌≡◌, ◌++◌, length, refl, sym, ap, subst, ◌∙◌, arith, slice_get, Some}
use Rattle.std.proofs.lemmas.List.{append-nil}
use Rattle.std.proofs.lemmas.Option.{slice_get_read, slice_get_within}
use Rattle.mds_runs.specs.RunSteps.{held_by}
use Rattle.mds_runs.specs.Runs.{AreRuns}
use Rattle.mds_runs.specs.Gaps.{runs_of, spread_with_gaps, IsLeastWithGaps}
use Rattle.mds_runs.proofs.GapRuns.{Stretch, runs_go_on, held_goes_on, held_few, none_left, lawful_runs, spread_back, least_runs}
use Rattle.mds_runs.proofs.cover.gather_some.Goals as goal

-- what was found from the start on
stretch : (c : goal.In_ok-held) → Stretch c.args.marks.now c.loop-start.start c.end_of_stretch-end.result c.index-marks-start.result
stretch c =
    let end = c.end_of_stretch-end.ensures in
    let first : slice_get c.args.marks.now c.loop-start.start ≡ Some c.index-marks-start.result = slice_get_read c.args.marks.now (length c.args.marks.now) c.loop-start.start _ refl c.loop-start-test.true c.index-marks-start.is in
    record {
      grows = end.within.0;
      within = end.within.1;
      alike = λ k lo hi. end.alike k lo hi ∙ first;
      differs = λ e. end.differs (slice_get_within c.args.marks.now c.end_of_stretch-end.result c.index-marks-start.result e) (e ∙ sym first);
    }

pub overflow_add-held : goal.overflow_add-held
overflow_add-held c =
    let n = held_goes_on c.args.marks.now c.loop-start.start c.end_of_stretch-end.result c.index-marks-start.result c.loop-start.held c.in_ok-held.field-0 (held_by (runs_of 1 c.args.marks.now)) (stretch c) c.in_ok-held.ensures.held c.loop-start.invariant.counted in
    omega (arith, n, held_few (length c.args.marks.now) c.args.marks.now refl, c.requires)

pub loop-start-preserved : goal.loop-start-preserved
loop-start-preserved c = record {
  gathered = runs_go_on c.args.marks.now c.loop-start.start c.end_of_stretch-end.result c.index-marks-start.result c.loop-start.runs.items c.push_stretch.new.runs.items (runs_of 1 c.args.marks.now) (stretch c) c.in_ok-held.ensures.done c.loop-start.invariant.gathered;
  counted = held_goes_on c.args.marks.now c.loop-start.start c.end_of_stretch-end.result c.index-marks-start.result c.loop-start.held c.in_ok-held.field-0 (held_by (runs_of 1 c.args.marks.now)) (stretch c) c.in_ok-held.ensures.held c.loop-start.invariant.counted;
  within = c.end_of_stretch-end.ensures.within.1;
}

-- at the end all runs are there
all_runs : (c : goal.After-loop-start) → c.loop-start.runs.items ≡ runs_of 1 c.args.marks.now
all_runs c =
    sym (append-nil c.loop-start.runs.items)
    ∙ ap (λ l. c.loop-start.runs.items ++ l) (sym (none_left c.args.marks.now c.loop-start.start c.loop-start-test.false))
    ∙ c.loop-start.invariant.gathered

pub invariant_of-result : goal.invariant_of-result
invariant_of-result c =
    let none = ap held_by (none_left c.args.marks.now c.loop-start.start c.loop-start-test.false) in
    let all = ap held_by (all_runs c) in
    (subst (AreRuns (length c.args.marks.now)) (sym (all_runs c)) (lawful_runs (length c.args.marks.now) c.args.marks.now refl), omega (arith, none, all, c.loop-start.invariant.counted))

pub returns-clause-value : goal.returns-clause-value
returns-clause-value c = all_runs c

pub returns-clause-lawful : goal.returns-clause-lawful
returns-clause-lawful c = subst (AreRuns (length c.args.marks.now)) (sym (all_runs c)) (lawful_runs (length c.args.marks.now) c.args.marks.now refl)

pub returns-clause-same : goal.returns-clause-same
returns-clause-same c = ap (spread_with_gaps (length c.args.marks.now)) (all_runs c) ∙ spread_back (length c.args.marks.now) c.args.marks.now refl

pub returns-clause-least : goal.returns-clause-least
returns-clause-least c = subst (IsLeastWithGaps (length c.args.marks.now)) (sym (all_runs c)) (least_runs (length c.args.marks.now) c.args.marks.now refl)
