-- Runs over marks and gaps that stand there already.
use Rattle.std.proofs.Math.Seq.{drop-cons}
use Rattle.std.proofs.lemmas.List.{drop-set-lt, take_more_set}
use Rattle.std.proofs.Common.{append_assoc, get_or, slice_set, ◌≡◌, ◌<◌, ◌≤◌, ◌+◌, ℕ, suc, true, false, cond, nat_le, Option, Some, None, List, [], ◌∷◌, ◌++◌, length, take, drop, refl, sym, ap, ◌∙◌, inl, inr, arith}
use Rattle.std.proofs.lemmas.Bool.{cases_lt}
use Rattle.mds_marks.specs.declared.mark.Mark.{Mark}
use Rattle.mds_runs.specs.declared.cover.Run.{Run}
use Rattle.mds_runs.specs.RunSteps.{runs_from}
use Rattle.mds_runs.specs.Runs.{AreRunsAfter, run_at}
use Rattle.mds_runs.specs.Gaps.{over, overlaid}
use Rattle.mds_runs.specs.GapSteps.{first_begun}
use Rattle.mds_runs.proofs.RunFacts.{runs_from-past, runs_from-here, run_at-here, run_at-later, run_at-before, holds-from, holds-before, holds-past}

-- of the runs that don't end before a place the first, if it has begun, holds it
pub begun_is : (count start place : ℕ) (runs : List Run) → AreRunsAfter count start runs → first_begun (runs_from runs place) place ≡ run_at runs place
begun_is count start place [] h = refl
begun_is count start place (run ∷ runs) h = elim (cases_lt run.last place) [
  | inl past ↦ ap (λ l. first_begun l place) (runs_from-past place run runs past) ∙ begun_is count run.last place runs h.3 ∙ sym (run_at-later place run runs (holds-past place run past))
  | inr le ↦ ap (λ l. first_begun l place) (runs_from-here place run runs le) ∙ here le
]
  where
    here : place ≤ run.last → first_begun (run ∷ runs) place ≡ run_at (run ∷ runs) place
    here le = elim (cases_lt place run.first) [
      | inl before ↦
          let late : nat_le run.first place ≡ false = grind arith in
          ap (λ b. cond b (Some run) None) late ∙ sym (run_at-later place run runs (holds-before place run before) ∙ run_at-before count run.last place runs h.3 le)
      | inr begun ↦
          let on_time : nat_le run.first place ≡ true = grind arith in
          ap (λ b. cond b (Some run) None) on_time ∙ sym (run_at-here place run runs (holds-from place run begun le))
    ]

-- runs are passed over once
pub passed_on : (runs : List Run) (k place : ℕ) → k ≤ place → runs_from (runs_from runs k) place ≡ runs_from runs place
passed_on [] k place le = refl
passed_on (run ∷ runs) k place le = elim (cases_lt run.last k) [
  | inl past ↦ ap (λ l. runs_from l place) (runs_from-past k run runs past) ∙ passed_on runs k place le ∙ sym (runs_from-past place run runs (omega arith))
  | inr here ↦ ap (λ l. runs_from l place) (runs_from-here k run runs here)
]

pub left_on : (runs left next : List Run) (k : ℕ) → left ≡ runs_from runs k → next ≡ runs_from left (k + 1) → next ≡ runs_from runs (k + 1)
left_on runs left next k e f = f ∙ ap (λ l. runs_from l (k + 1)) e ∙ passed_on runs k (k + 1) (omega arith)

pub from_start : (runs : List Run) → runs ≡ runs_from runs 0
from_start [] = refl
from_start (run ∷ runs) = sym (runs_from-here 0 run runs (omega arith))

-- one more place is laid over
pub laid_on : (runs : List Run) (k : ℕ) (marks : List (Option Mark)) (x y : Option Mark) (all : List (Option Mark)) → k < length marks → x ≡ get_or marks k x → y ≡ over (run_at runs (k + 1)) x → take k marks ++ overlaid runs (k + 1) (drop k marks) ≡ all → take (k + 1) (slice_set marks k y) ++ overlaid runs (k + 1 + 1) (drop (k + 1) (slice_set marks k y)) ≡ all
laid_on runs k marks x y all lt is now so_far =
    let next : suc k ≡ k + 1 = omega arith in
    let rest = drop (k + 1) marks in
    let left : drop k marks ≡ x ∷ rest = drop-cons marks k x lt ∙ ap (λ m. m ∷ drop (suc k) marks) (sym is) ∙ ap (λ j. x ∷ drop j marks) next in
    let later : drop (k + 1) (slice_set marks k y) ≡ rest = drop-set-lt (k + 1) marks k y (omega arith) in
    ap (λ l. l ++ overlaid runs (k + 1 + 1) (drop (k + 1) (slice_set marks k y))) (take_more_set marks k y lt)
    ∙ ap (λ l. (take k marks ++ y ∷ []) ++ overlaid runs (k + 1 + 1) l) later
    ∙ append_assoc (take k marks) (y ∷ []) (overlaid runs (k + 1 + 1) rest)
    ∙ ap (λ m. take k marks ++ m ∷ overlaid runs (k + 1 + 1) rest) now
    ∙ ap (λ l. take k marks ++ overlaid runs (k + 1) l) (sym left)
    ∙ so_far
