-- The runs of readings, one after the other, as a loop writes them.
use Rattle.std.proofs.Common.{◌≡◌, ◌≢◌, ◌<◌, ◌≤◌, ◌+◌, ℕ, Option, Some, None, List, [], ◌∷◌, ◌++◌, length, slice_get, drop, sym, ap, ◌∙◌, inl, inr, arith, append_assoc, length-append}
use Rattle.std.specs.Prelude.{option_map}
use Rattle.std.specs.List.{flat_map}
use Rattle.std.proofs.lemmas.Bool.{cases_lt}
use Rattle.std.proofs.lemmas.Grind.{flat_map-append}
use Rattle.std.proofs.lemmas.List.{drop_all}
use Rattle.std.proofs.lemmas.Option.{slice_get_past, slice_get-map}
use Rattle.mds_marks.specs.Reading.{ReadingValue}
use Rattle.mds_marks.specs.declared.mark.Mark.{Mark}
use Rattle.mds_runs.specs.declared.cover.Run.{Run}
use Rattle.mds_runs.specs.Gaps.{runs_of}
use Rattle.mds_runs.proofs.GapRuns.{Stretch, stretch_is}
use Rattle.mds_packs.specs.Body.{two, mark_in, marks_of, run_bytes, reading_bytes, runs_in, body_of}
use Rattle.mds_runs.specs.GapSteps.{stretch_of}
use Rattle.mds_packs.proofs.Whole.{marks_length, length-runs, runs_in_parted}

-- like readings from a start to an end
pub record Alike (readings : List (Option ReadingValue)) (start end : ℕ) (reading : Option ReadingValue) : Type 0 where
  pub grows : start < end
  pub within : end ≤ length readings
  pub first : slice_get readings start ≡ Some reading
  pub alike : (k : ℕ) → start ≤ k → k < end → option_map mark_in (slice_get readings k) ≡ option_map mark_in (slice_get readings start)
  pub differs : end < length readings → option_map mark_in (slice_get readings end) ≢ option_map mark_in (slice_get readings start)

mark_at : (readings : List (Option ReadingValue)) (k : ℕ) → slice_get (marks_of readings) k ≡ option_map mark_in (slice_get readings k)
mark_at readings k = slice_get-map mark_in readings k

none_some : (x : Option Mark) (o : Option (Option Mark)) → o ≡ None → o ≡ Some x → ⊥
none_some x o e f = let g : None ≡ Some x = sym e ∙ f in cc

to_stretch : (readings : List (Option ReadingValue)) (start end : ℕ) (reading : Option ReadingValue) → Alike readings start end reading → Stretch (marks_of readings) start end (mark_in reading)
to_stretch readings start end reading a =
    let own : option_map mark_in (slice_get readings start) ≡ Some (mark_in reading) = ap (option_map mark_in) a.first in
    record {
      grows = a.grows;
      within = omega (arith, a.within, marks_length readings);
      alike = λ k lo hi. mark_at readings k ∙ a.alike k lo hi ∙ own;
      differs = λ e. elim (cases_lt end (length readings)) [
        | inl lt ↦ a.differs lt (sym (mark_at readings end) ∙ e ∙ sym own)
        | inr le ↦ none_some (mark_in reading) (slice_get (marks_of readings) end) (slice_get_past (marks_of readings) end (omega (arith, le, marks_length readings))) e
      ];
    }

abbrev pub left_runs : List (Option ReadingValue) → ℕ → List Run
left_runs readings place = runs_of (place + 1) (drop place (marks_of readings))

pub next_runs : (readings : List (Option ReadingValue)) (start end : ℕ) (reading : Option ReadingValue) → Alike readings start end reading → left_runs readings start ≡ stretch_of (start + 1) end (mark_in reading) ++ left_runs readings end
next_runs readings start end reading a = stretch_is (marks_of readings) start end (mark_in reading) (to_stretch readings start end reading a)

pub written_on : (readings : List (Option ReadingValue)) (start end : ℕ) (reading : Option ReadingValue) (out new all : List ℕ) → Alike readings start end reading → new ≡ out ++ flat_map run_bytes (stretch_of (start + 1) end (mark_in reading)) → out ++ flat_map run_bytes (left_runs readings start) ≡ all → new ++ flat_map run_bytes (left_runs readings end) ≡ all
written_on readings start end reading out new all a is so_far =
    let own = stretch_of (start + 1) end (mark_in reading) in
    ap (λ l. l ++ flat_map run_bytes (left_runs readings end)) is
    ∙ append_assoc out (flat_map run_bytes own) (flat_map run_bytes (left_runs readings end))
    ∙ ap (λ l. out ++ l) (sym (flat_map-append run_bytes own (left_runs readings end)))
    ∙ ap (λ (l : List Run). out ++ flat_map run_bytes l) (sym (next_runs readings start end reading a))
    ∙ so_far

pub counted_on : (readings : List (Option ReadingValue)) (start end : ℕ) (reading : Option ReadingValue) (number more all : ℕ) → Alike readings start end reading → more ≡ length (stretch_of (start + 1) end (mark_in reading)) → number + length (left_runs readings start) ≡ all → number + more + length (left_runs readings end) ≡ all
counted_on readings start end reading number more all a is so_far =
    let own = stretch_of (start + 1) end (mark_in reading) in
    let e : length (left_runs readings start) ≡ length own + length (left_runs readings end) = ap length (next_runs readings start end reading a) ∙ length-append own (left_runs readings end) in
    omega (arith, e, is, so_far)

pub few_runs : (readings : List (Option ReadingValue)) → length (runs_in readings) ≤ length readings
few_runs readings = omega (arith, length-runs (length readings) None (runs_in readings) (runs_in_parted readings) (omega arith))

pub none_left : (readings : List (Option ReadingValue)) (place : ℕ) → length readings ≤ place → left_runs readings place ≡ []
none_left readings place le = ap (runs_of (place + 1)) (drop_all place (marks_of readings) (omega (arith, le, marks_length readings)))

-- the body of readings, as it is written
pub body_made : (readings : List (Option ReadingValue)) (number : ℕ) (a b c d e f g : List ℕ) → number ≡ length (runs_in readings) → a ≡ [] → b ≡ a ++ 1 ∷ [] → c ≡ b ++ two (length readings) → d ≡ c ++ two 0 → e ≡ d ++ flat_map run_bytes (runs_in readings) → ((i j k l m : ℕ) (rest : List ℕ) → e ≡ i ∷ j ∷ k ∷ l ∷ m ∷ rest → f ≡ i ∷ j ∷ k ∷ (two number ++ rest)) → g ≡ f ++ flat_map reading_bytes readings → g ≡ body_of readings
unfolding body_of
body_made readings number a b c d e f g n ea eb ec ed ee ef eg =
    let runs = flat_map run_bytes (runs_in readings) in
    let values = flat_map reading_bytes readings in
    let b-is : b ≡ 1 ∷ [] = eb ∙ ap (λ l. l ++ 1 ∷ []) ea in
    let c-is : c ≡ (1 ∷ []) ++ two (length readings) = ec ∙ ap (λ l. l ++ two (length readings)) b-is in
    let d-is : d ≡ ((1 ∷ []) ++ two (length readings)) ++ two 0 = ed ∙ ap (λ l. l ++ two 0) c-is in
    let e-is : e ≡ (((1 ∷ []) ++ two (length readings)) ++ two 0) ++ runs = ee ∙ ap (λ l. l ++ runs) d-is in
    let f-is : f ≡ (((1 ∷ []) ++ two (length readings)) ++ two number) ++ runs = ef _ _ _ _ _ runs e-is in
    eg ∙ ap (λ l. l ++ values) f-is ∙ ap (λ (k : ℕ). ((((1 ∷ []) ++ two (length readings)) ++ two k) ++ runs) ++ values) n
