-- Runs that hold each interval of a day and give its mark.
use Rattle.std.proofs.Common.{◌≡◌, ◌<◌, ◌≤◌, ◌+◌, ℕ, Some, List, [], ◌∷◌, length, slice_get, sym, ap, ◌∙◌, arith}
use Rattle.mds_marks.specs.declared.mark.Mark.{Mark}
use Rattle.mds_runs.specs.Runs.{mark_at}
use Rattle.mds_runs.specs.declared.cover.Run.{Run}
use Rattle.mds_runs.proofs.RunFacts.{Meets, Meets-from_full, Meets-le, mark_at-here, mark_at-later}
use Rattle.mds_runs.proofs.Spreads.{gets-from_spread}
use Rattle.mds_export.specs.Exports.{AreFewest}

-- the runs meet from an interval on to the last, and each interval among these has the mark of its run
pub record AreSpelled (marks : List Mark) (default : Mark) (interval : ℕ) (runs : List Run) : Type 0 where
  pub meets : Meets interval runs (length marks)
  pub marked : (k : ℕ) → interval ≤ k → k < length marks → slice_get marks k ≡ Some (mark_at runs default (1 + k))

pub spelled_fewest : (marks : List Mark) (default : Mark) (runs : List Run) → AreFewest marks runs → AreSpelled marks default 0 runs
spelled_fewest marks default runs fewest = record {
  meets = Meets-from_full (length marks) 0 runs (omega arith) fewest.lawful (λ i lo hi. fewest.full i (omega arith) hi);
  marked = λ k lo lt.
      ap (λ xs. slice_get xs k) (sym (fewest.spread default)) ∙ gets-from_spread (mark_at runs default) 1 (length marks) k lt;
}

-- the intervals of the first run
pub spelled_own : (marks : List Mark) (default : Mark) (interval : ℕ) (run : Run) (runs : List Run)
    → AreSpelled marks default interval (run ∷ runs) → (k : ℕ) → interval ≤ k → k < run.last → slice_get marks k ≡ Some run.mark
spelled_own marks default interval run runs s k lo hi =
    let within = Meets-le run.last runs (length marks) s.meets.2 in
    s.marked k lo (omega arith) ∙ ap Some (mark_at-here (1 + k) run runs default (omega (arith, s.meets.0)) (omega arith))

-- and the others
pub spelled_rest : (marks : List Mark) (default : Mark) (interval : ℕ) (run : Run) (runs : List Run)
    → AreSpelled marks default interval (run ∷ runs) → AreSpelled marks default run.last runs
spelled_rest marks default interval run runs s = record {
  meets = s.meets.2;
  marked = λ k lo lt. s.marked k (omega (arith, s.meets.1)) lt ∙ ap Some (mark_at-later (1 + k) run runs default (omega arith));
}

-- they are no more than the intervals
pub few_runs : (interval : ℕ) (runs : List Run) (count : ℕ) → Meets interval runs count → length runs + interval ≤ count
few_runs interval [] count h = omega arith
few_runs interval (run ∷ runs) count h = omega (arith, few_runs run.last runs count h.2)
