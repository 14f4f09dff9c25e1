-- The runs of a day's readings are the fewest.
use Rattle.std.proofs.Common.{◌≡◌, ◌+◌, ◌∙◌, Some, List, [], ◌∷◌, length, map, get_or, slice_get, ℕ, refl, sym, ap, subst, arith}
use Rattle.mds_marks.specs.Reading.{ReadingValue}
use Rattle.mds_marks.specs.declared.mark.Mark.{Mark}
use Rattle.mds_runs.specs.Gaps.{runs_of}
use Rattle.mds_runs.specs.KeptReadings.{AreClose}
use Rattle.mds_runs.specs.declared.cover.Run.{Run}
use Rattle.mds_runs.proofs.CloseRuns.{Tiles-close, runs_of-close}
use Rattle.mds_runs.proofs.RunFacts.{AreRunsAfter-from_Meets, full_from_Meets}
use Rattle.mds_runs.proofs.Tilings.{Tiles, Meets-from_Tiles, spread_of_Tiles, IsLeast_of_Tiles}
use Rattle.mds_export.specs.Exports.{AreFewest, marks_of}

-- runs that end only where the mark changes are the fewest
fewest_tiles : (marks : List Mark) (runs : List Run) → Tiles marks 0 runs (length marks) → AreFewest marks runs
fewest_tiles marks runs tiles =
    let meets = Meets-from_Tiles marks 0 runs (length marks) tiles in
    record {
      lawful = AreRunsAfter-from_Meets (length marks) 0 runs meets;
      full = λ i lo hi. full_from_Meets (length marks) 0 runs meets i (omega arith) hi;
      spread = λ default. spread_of_Tiles marks runs default tiles;
      least = IsLeast_of_Tiles marks runs tiles;
    }

fused : (readings : List ReadingValue) → map (λ (m : Mark). Some m) (marks_of readings) ≡ map (λ (r : ReadingValue). Some r.mark) readings
fused [] = refl
fused (r ∷ readings) = ap (λ l. Some r.mark ∷ l) (fused readings)

-- and those of a day's readings do
pub fewest_runs : (readings : List ReadingValue) (runs : List Run) → runs ≡ runs_of 1 (map (λ (r : ReadingValue). Some r.mark) readings)
    → AreFewest (marks_of readings) runs
fewest_runs readings runs is =
    let marks = marks_of readings in
    let of = runs_of-close 0 marks in
    let from : 0 + length marks ≡ length marks = omega arith in
    let at : (k : ℕ) → slice_get marks (0 + k) ≡ slice_get marks k = λ k.
    let e : 0 + k ≡ k = omega arith in
    ap (slice_get marks) e in
    let fewest = fewest_tiles marks (runs_of 1 (map (λ (m : Mark). Some m) marks))
    (Tiles-close marks 0 _ (length marks) (subst (AreClose 0 _) from of.close) (λ k. at k ∙ ap (λ l. slice_get l k) (sym of.spread))) in
    subst (AreFewest marks) (sym is) (subst (λ l. AreFewest marks (runs_of 1 l)) (fused readings) fewest)

-- one run by its place
pub one_run : (runs : List Run) (run : Run) → length runs ≡ 1 → runs ≡ get_or runs 0 run ∷ []
one_run [] run size = absurd (omega arith)
one_run (x ∷ []) run size = refl
one_run (x ∷ y ∷ runs) run size = absurd (omega arith)
