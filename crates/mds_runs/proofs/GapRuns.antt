-- The runs of marks with gaps.
use Rattle.std.proofs.Common.{◌≡◌, ◌≢◌, ◌<◌, ◌≤◌, ◌+◌, ◌-◌, ℕ, zero, suc, true, false, cond, Bool, not, ◌&&◌, nat_le, nat_lt, Option, Some, None, option_map, List, [], ◌∷◌, ◌++◌, length, map, slice_get, drop, replicate, refl, sym, ap, subst, ◌∙◌, arith, append_assoc}
use Rattle.std.proofs.lemmas.Bool.{eqb-true, eq-eqb}
use Rattle.std.proofs.lemmas.Slice.Eq.{bytes_eq-Decides}
use Rattle.std.proofs.lemmas.List.{append-nil, drop_all}
use Rattle.std.specs.List.{range_with_len}
use Rattle.mds_marks.specs.declared.mark.Mark.{Mark}
use Rattle.mds_runs.specs.declared.cover.Run.{Run}
use Rattle.mds_runs.specs.Runs.{AreRuns, AreRunsAfter}
use Rattle.mds_runs.specs.Gaps.{same_code, same_mark, goes_on, joined, runs_of, mark_held, spread_with_gaps, IsLeastWithGaps}
use Rattle.mds_runs.specs.GapSteps.{marks_after, end_of, touches, follows, are_parted, stretch_of}
use Rattle.mds_runs.specs.RunSteps.{held_by}
use Rattle.mds_runs.proofs.RunFacts.{held_by-le, end_of-le, holds-from, holds-before, holds-past, run_at-here, run_at-later, run_at-before}

-- ---- one mark

and_both : (b c : Bool) → (b && c) ≡ true → (b ≡ true) × (c ≡ true)
and_both true c e = (refl, e)
and_both false c e = absurd cc

same_code-is : (a b : Option ℕ) → same_code a b ≡ true → a ≡ b
same_code-is None None e = refl
same_code-is None (Some n) e = absurd cc
same_code-is (Some m) None e = absurd cc
same_code-is (Some m) (Some n) e = ap (λ (k : ℕ). Some k) (eqb-true m n e)

same_code-refl : (a : Option ℕ) → same_code a a ≡ true
same_code-refl None = refl
same_code-refl (Some n) = eq-eqb n n refl

abbrev made : ℕ → ℕ → Option ℕ → List ℕ → Mark
made flag method code text = record { quality = record { flag = flag; method = method }; reason = record { code = code; text = text } }

pub same_mark-is : (a b : Mark) → same_mark a b ≡ true → a ≡ b
unfolding same_mark
same_mark-is a b e =
    let p = and_both _ _ e in
    let q = and_both _ _ p.0 in
    let r = and_both _ _ q.0 in
    let flag : a.quality.flag ≡ b.quality.flag = eqb-true _ _ r.0 in
    let method : a.quality.method ≡ b.quality.method = eqb-true _ _ r.1 in
    let code : a.reason.code ≡ b.reason.code = same_code-is _ _ q.1 in
    let text : a.reason.text ≡ b.reason.text = (bytes_eq-Decides a.reason.text b.reason.text).0 p.1 in
    ap (λ x. made x a.quality.method a.reason.code a.reason.text) flag
    ∙ ap (λ x. made b.quality.flag x a.reason.code a.reason.text) method
    ∙ ap (λ x. made b.quality.flag b.quality.method x a.reason.text) code
    ∙ ap (λ x. made b.quality.flag b.quality.method b.reason.code x) text

pub same_mark-refl : (a : Mark) → same_mark a a ≡ true
unfolding same_mark
same_mark-refl a =
    rw (eq-eqb a.quality.flag a.quality.flag refl, eq-eqb a.quality.method a.quality.method refl, same_code-refl a.reason.code, (bytes_eq-Decides a.reason.text a.reason.text).1 refl) refl

pub same_mark_decides : (a b : Mark) (r : Bool) → ((r ≡ true) → a ≡ b) × (a ≡ b → r ≡ true) → r ≡ same_mark a b
same_mark_decides a b true h = let e : a ≡ b = h.0 refl in sym (ap (same_mark a) (sym e) ∙ same_mark-refl a)
same_mark_decides a b false h = elim (same_mark a b) as (λ c. same_mark a b ≡ c → false ≡ c) [
  | true ↦ λ e. h.1 (same_mark-is a b e)
  | false ↦ λ e. refl
] refl

pub goes_on-next : (place : ℕ) (m : Mark) (run : Run) → run.first ≡ place + 1 → run.mark ≡ m → goes_on place m run ≡ true
goes_on-next place m run e same =
    ap (λ b. b && same_mark m run.mark) (eq-eqb run.first (place + 1) e) ∙ ap (same_mark m) same ∙ same_mark-refl m

pub goes_on-facts : (place : ℕ) (m : Mark) (run : Run) → goes_on place m run ≡ true → (run.first ≡ place + 1) × (m ≡ run.mark)
goes_on-facts place m run e =
    let p = and_both _ _ e in
    (eqb-true run.first (place + 1) p.0, same_mark-is m run.mark p.1)

pub goes_on-other : (place : ℕ) (m : Mark) (run : Run) → (run.first ≡ place + 1 → m ≡ run.mark → ⊥) → goes_on place m run ≡ false
goes_on-other place m run h = elim (goes_on place m run) as (λ b. goes_on place m run ≡ b → b ≡ false) [
  | true ↦ λ e. let p = goes_on-facts place m run e in absurd (h p.0 p.1)
  | false ↦ λ e. refl
] refl

-- ---- a place before runs

abbrev run_from : ℕ → ℕ → Mark → Run
run_from first last mark = record { first = first; last = last; mark = mark }

pub joined-on : (place : ℕ) (m : Mark) (run : Run) (runs : List Run) → goes_on place m run ≡ true → joined place m (run ∷ runs) ≡ run_from place run.last m ∷ runs
joined-on place m run runs e = ap (λ b. cond b (run_from place run.last m ∷ runs) (run_from place place m ∷ run ∷ runs)) e

pub joined-off : (place : ℕ) (m : Mark) (run : Run) (runs : List Run) → goes_on place m run ≡ false → joined place m (run ∷ runs) ≡ run_from place place m ∷ run ∷ runs
joined-off place m run runs e = ap (λ b. cond b (run_from place run.last m ∷ runs) (run_from place place m ∷ run ∷ runs)) e

-- the first of the runs lies after the places before, and has a place
pub record Begins (place : ℕ) (runs : List Run) : Type 0 where
  pub after : (run : Run) (rest : List Run) → runs ≡ run ∷ rest → (place ≤ run.first) × (run.first ≤ run.last)

head_is : (x y : Run) (xs ys : List Run) → x ∷ xs ≡ y ∷ ys → x ≡ y
head_is x y xs ys e = cc

begins_with : (place : ℕ) (runs : List Run) (run : Run) (rest : List Run) → runs ≡ run ∷ rest → place ≤ run.first → run.first ≤ run.last → Begins place runs
begins_with place runs run rest is after grows = record {
  after = λ other more e.
      let P : Run → Type 0 = λ r. (place ≤ r.first) × (r.first ≤ r.last) in
      subst P (head_is run other rest more (sym is ∙ e)) (after, grows);
}

joined-begins : (place : ℕ) (m : Mark) (runs : List Run) → Begins (place + 1) runs → Begins place (joined place m runs)
joined-begins place m [] h = begins_with place _ (run_from place place m) [] refl (omega arith) (omega arith)
joined-begins place m (run ∷ runs) h = elim (goes_on place m run) as (λ b. goes_on place m run ≡ b → Begins place (joined place m (run ∷ runs))) [
  | true ↦ λ e. begins_with place _ (run_from place run.last m) runs (joined-on place m run runs e) (omega arith) (omega (arith, h.after run runs refl))
  | false ↦ λ e. begins_with place _ (run_from place place m) (run ∷ runs) (joined-off place m run runs e) (omega arith) (omega arith)
] refl

pub runs_of-begins : (place : ℕ) (marks : List (Option Mark)) → Begins place (runs_of place marks)
runs_of-begins place [] = record { after = λ run rest e. absurd cc }
runs_of-begins place (None ∷ marks) = record { after = λ run rest e. let p = (runs_of-begins (place + 1) marks).after run rest e in (omega (arith, p), p.1) }
runs_of-begins place (Some m ∷ marks) = joined-begins place m (runs_of (place + 1) marks) (runs_of-begins (place + 1) marks)

-- ---- places alike

abbrev Apart : ℕ → Mark → List Run → Type 0
Apart place m runs = joined place m runs ≡ run_from place place m ∷ runs

-- places with one mark, and then other runs
pub runs_of-alike : (k place : ℕ) (m : Mark) (marks : List (Option Mark)) (runs : List Run) → runs_of (place + suc k) marks ≡ runs → Apart (place + k) m runs → runs_of place (replicate (suc k) (Some m) ++ marks) ≡ run_from place (place + k) m ∷ runs
runs_of-alike zero place m marks runs is apart =
    let e : place + 0 ≡ place = omega arith in
    let f : place + 1 ≡ place + suc zero = omega arith in
    let P : ℕ → Type 0 = λ i. joined i m runs ≡ run_from i i m ∷ runs in
    ap (joined place m) (ap (λ i. runs_of i marks) f ∙ is) ∙ subst P e apart ∙ ap (λ i. run_from place i m ∷ runs) (sym e)
runs_of-alike (suc k) place m marks runs is apart =
    let f : place + 1 + suc k ≡ place + suc (suc k) = omega arith in
    let g : place + 1 + k ≡ place + suc k = omega arith in
    let P : ℕ → Type 0 = λ i. Apart i m runs in
    let later = runs_of-alike k (place + 1) m marks runs (ap (λ i. runs_of i marks) f ∙ is) (subst P (sym g) apart) in
    ap (joined place m) later ∙ joined-on place m (run_from (place + 1) (place + 1 + k) m) runs (goes_on-next place m (run_from (place + 1) (place + 1 + k) m) refl refl) ∙ ap (λ i. run_from place i m ∷ runs) g

pub runs_of-absent : (k place : ℕ) (marks : List (Option Mark)) → runs_of place (replicate k None ++ marks) ≡ runs_of (place + k) marks
runs_of-absent zero place marks = let e : place ≡ place + 0 = omega arith in ap (λ i. runs_of i marks) e
runs_of-absent (suc k) place marks = let e : place + 1 + k ≡ place + suc k = omega arith in runs_of-absent k (place + 1) marks ∙ ap (λ i. runs_of i marks) e

-- a mark before places of which the first has another mark, or none
apart_joined : (place : ℕ) (m x : Mark) (runs : List Run) → m ≢ x → Apart place m (joined (place + 1) x runs)
apart_joined place m x [] other = joined-off place m (run_from (place + 1) (place + 1) x) [] (goes_on-other place m (run_from (place + 1) (place + 1) x) (λ e same. other same))
apart_joined place m x (run ∷ runs) other = elim (goes_on (place + 1) x run) as (λ b. goes_on (place + 1) x run ≡ b → Apart place m (joined (place + 1) x (run ∷ runs))) [
  | true ↦ λ e. let P : List Run → Type 0 = Apart place m in subst P (sym (joined-on (place + 1) x run runs e)) (joined-off place m (run_from (place + 1) run.last x) runs (goes_on-other place m (run_from (place + 1) run.last x) (λ f same. other same)))
  | false ↦ λ e. let P : List Run → Type 0 = Apart place m in subst P (sym (joined-off (place + 1) x run runs e)) (joined-off place m (run_from (place + 1) (place + 1) x) (run ∷ runs) (goes_on-other place m (run_from (place + 1) (place + 1) x) (λ f same. other same)))
] refl

apart_later : (place : ℕ) (m : Mark) (runs : List Run) → Begins (place + 2) runs → Apart place m runs
apart_later place m [] h = refl
apart_later place m (run ∷ runs) h = joined-off place m run runs (goes_on-other place m run (λ e same. absurd (omega (arith, h.after run runs refl))))

pub runs_of-apart : (place : ℕ) (m : Mark) (marks : List (Option Mark)) → slice_get marks 0 ≢ Some (Some m) → Apart place m (runs_of (place + 1) marks)
runs_of-apart place m [] other = refl
runs_of-apart place m (None ∷ marks) other = let e : place + 2 ≡ place + 1 + 1 = omega arith in let P : ℕ → Type 0 = λ i. Begins i (runs_of (place + 1 + 1) marks) in apart_later place m _ (subst P (sym e) (runs_of-begins (place + 1 + 1) marks))
runs_of-apart place m (Some x ∷ marks) other = apart_joined place m x (runs_of (place + 1 + 1) marks) (λ e. other (ap (λ y. Some (Some y)) (sym e)))

-- ---- a stretch of a list

slice_get-drop : (marks : List (Option Mark)) (n k : ℕ) → slice_get (drop n marks) k ≡ slice_get marks (n + k)
slice_get-drop marks zero k = let e : k ≡ 0 + k = omega arith in ap (slice_get marks) e
slice_get-drop [] (suc n) k = refl
slice_get-drop (x ∷ marks) (suc n) k = let e : suc (n + k) ≡ suc n + k = omega arith in slice_get-drop marks n k ∙ ap (slice_get (x ∷ marks)) e

split_front : (k : ℕ) (x : Option Mark) (marks : List (Option Mark)) → ((i : ℕ) → i < k → slice_get marks i ≡ Some x) → marks ≡ replicate k x ++ drop k marks
split_front zero x marks h = refl
split_front (suc k) x [] h = absurd (let e : None ≡ Some x = h 0 (omega arith) in cc)
split_front (suc k) x (y ∷ marks) h =
    let e : Some y ≡ Some x = h 0 (omega arith) in
    let same : y ≡ x = cc in
    rw same (ap (λ l. x ∷ l) (split_front k x marks (λ i lt. h (suc i) (omega arith))))

drop_drop : (n k : ℕ) (marks : List (Option Mark)) → drop k (drop n marks) ≡ drop (n + k) marks
drop_drop zero k marks = let e : k ≡ 0 + k = omega arith in ap (λ i. drop i marks) e
drop_drop (suc n) k [] = drop_all k [] (omega arith) ∙ sym (drop_all (suc n + k) [] (omega arith))
drop_drop (suc n) k (x ∷ marks) = let e : suc (n + k) ≡ suc n + k = omega arith in drop_drop n k marks ∙ ap (λ i. drop i (x ∷ marks)) e

-- like places from a start to an end
pub record Stretch (marks : List (Option Mark)) (start end : ℕ) (x : Option Mark) : Type 0 where
  pub grows : start < end
  pub within : end ≤ length marks
  pub alike : (k : ℕ) → start ≤ k → k < end → slice_get marks k ≡ Some x
  pub differs : slice_get marks end ≢ Some x

cut : (marks : List (Option Mark)) (start end : ℕ) (x : Option Mark) → Stretch marks start end x → drop start marks ≡ replicate (end - start) x ++ drop end marks
cut marks start end x s =
    let e : start + (end - start) ≡ end = omega (arith, s.grows) in
    split_front (end - start) x (drop start marks) (λ i lt. slice_get-drop marks start i ∙ s.alike (start + i) (omega arith) (omega arith)) ∙ ap (λ l. replicate (end - start) x ++ l) (drop_drop start (end - start) marks ∙ ap (λ i. drop i marks) e)

pub Stretch-some : (marks : List (Option Mark)) (start end : ℕ) (m : Mark) → Stretch marks start end (Some m) → runs_of (start + 1) (drop start marks) ≡ run_from (start + 1) end m ∷ runs_of (end + 1) (drop end marks)
Stretch-some marks start end m s =
    let k = end - start - 1 in
    let size : end - start ≡ suc k = omega (arith, s.grows) in
    let next : start + 1 + suc k ≡ end + 1 = omega (arith, s.grows) in
    let last : start + 1 + k ≡ end = omega (arith, s.grows) in
    let zero_at : end + 0 ≡ end = omega arith in
    let here : slice_get (drop end marks) 0 ≢ Some (Some m) = λ e. s.differs (ap (slice_get marks) (sym zero_at) ∙ sym (slice_get-drop marks end 0) ∙ e) in
    let P : ℕ → Type 0 = λ i. Apart i m (runs_of (end + 1) (drop end marks)) in
    ap (runs_of (start + 1)) (cut marks start end (Some m) s ∙ ap (λ n. replicate n (Some m) ++ drop end marks) size)
    ∙ runs_of-alike k (start + 1) m (drop end marks) (runs_of (end + 1) (drop end marks)) (ap (λ i. runs_of i (drop end marks)) next) (subst P (sym last) (runs_of-apart end m (drop end marks) here))
    ∙ ap (λ i. run_from (start + 1) i m ∷ runs_of (end + 1) (drop end marks)) last

pub Stretch-none : (marks : List (Option Mark)) (start end : ℕ) → Stretch marks start end None → runs_of (start + 1) (drop start marks) ≡ runs_of (end + 1) (drop end marks)
Stretch-none marks start end s =
    let next : start + 1 + (end - start) ≡ end + 1 = omega (arith, s.grows) in
    ap (runs_of (start + 1)) (cut marks start end None s) ∙ runs_of-absent (end - start) (start + 1) (drop end marks) ∙ ap (λ i. runs_of i (drop end marks)) next

-- ---- runs that are parted are those of the marks that they give

not_true : (b : Bool) → not b ≡ true → b ≡ false
not_true true e = absurd cc
not_true false e = refl

less_from : (a b : ℕ) → nat_lt a b ≡ true → a < b
less_from a b e = grind arith

le_from : (a b : ℕ) → nat_le a b ≡ true → a ≤ b
le_from a b e = grind arith

four : (a b c d e : Bool) → (a && b && c && d && e) ≡ true → (a ≡ true) × (b ≡ true) × (c ≡ true) × (d ≡ true) × (e ≡ true)
four true true true true e h = (refl, refl, refl, refl, h)
four true true true false e h = absurd cc
four true true false d e h = absurd cc
four true false c d e h = absurd cc
four false b c d e h = absurd cc

pub parted_facts : (count : ℕ) (last : Option Run) (run : Run) (runs : List Run) → are_parted count last (run ∷ runs) ≡ true → (end_of last < run.first) × (run.first ≤ run.last) × (run.last ≤ count) × (touches last run ≡ false) × (are_parted count (Some run) runs ≡ true)
parted_facts count last run runs e =
    let f = four (nat_lt (end_of last) run.first) (nat_le run.first run.last) (nat_le run.last count) (not (touches last run)) (are_parted count (Some run) runs) e in
    (less_from _ _ f.0, le_from _ _ f.1, le_from _ _ f.2, not_true (touches last run) f.3, f.4)

parted_apart : (count : ℕ) (run : Run) (runs : List Run) → are_parted count (Some run) runs ≡ true → Apart run.last run.mark runs
parted_apart count run [] e = refl
parted_apart count run (next ∷ runs) e = joined-off run.last run.mark next runs (parted_facts count (Some run) next runs e).3

runs_back_none : (k place : ℕ) → runs_of place (replicate k None) ≡ []
runs_back_none zero place = refl
runs_back_none (suc k) place = runs_back_none k (place + 1)

pub runs_back : (count : ℕ) (last : Option Run) (runs : List Run) → are_parted count last runs ≡ true → runs_of (end_of last + 1) (marks_after count (end_of last) runs) ≡ runs
runs_back count last [] e = runs_back_none (count - end_of last) (end_of last + 1)
runs_back count last (run ∷ runs) e =
    let f = parted_facts count last run runs e in
    let at = end_of last in
    let gap = run.first - 1 - at in
    let k = run.last - run.first in
    let rest = marks_after count run.last runs in
    let size : run.last + 1 - run.first ≡ suc k = omega (arith, f.1) in
    let begin : at + 1 + gap ≡ run.first = omega (arith, f.0) in
    let next : run.first + suc k ≡ run.last + 1 = omega (arith, f.1) in
    let end : run.first + k ≡ run.last = omega (arith, f.1) in
    let P : ℕ → Type 0 = λ i. Apart i run.mark runs in
    ap (runs_of (at + 1)) (append_assoc (replicate gap None) (replicate (run.last + 1 - run.first) (Some run.mark)) rest)
    ∙ runs_of-absent gap (at + 1) (replicate (run.last + 1 - run.first) (Some run.mark) ++ rest)
    ∙ ap (λ i. runs_of i (replicate (run.last + 1 - run.first) (Some run.mark) ++ rest)) begin
    ∙ ap (λ n. runs_of run.first (replicate n (Some run.mark) ++ rest)) size
    ∙ runs_of-alike k run.first run.mark rest runs (ap (λ i. runs_of i rest) next ∙ runs_back count (Some run) runs f.4) (subst P (sym end) (parted_apart count run runs f.4))
    ∙ ap (λ i. run_from run.first i run.mark ∷ runs) end

-- ---- and the runs of marks give these marks, and are parted

pub marks_back : (count place : ℕ) (marks : List (Option Mark)) → place + length marks ≡ count → marks_after count place (runs_of (place + 1) marks) ≡ marks
marks_back count place [] e = let none : count - place ≡ 0 = omega arith in ap (λ n. replicate n None) none
marks_back count place (None ∷ marks) e =
    more (runs_of (place + 1 + 1) marks) (runs_of-begins (place + 1 + 1) marks) ∙ ap (λ l. None ∷ l) (marks_back count (place + 1) marks (omega arith))
  where
    more : (runs : List Run) → Begins (place + 1 + 1) runs → marks_after count place runs ≡ None ∷ marks_after count (place + 1) runs
    more [] h = let n : count - place ≡ suc (count - (place + 1)) = omega arith in ap (λ n. replicate n None) n
    more (run ∷ runs) h = let n : run.first - 1 - place ≡ suc (run.first - 1 - (place + 1)) = omega (arith, h.after run runs refl) in ap (λ n. replicate n None ++ replicate (run.last + 1 - run.first) (Some run.mark) ++ marks_after count run.last runs) n
marks_back count place (Some m ∷ marks) e =
    more (runs_of (place + 1 + 1) marks) (runs_of-begins (place + 1 + 1) marks) ∙ ap (λ l. Some m ∷ l) (marks_back count (place + 1) marks (omega arith))
  where
    alone : (runs : List Run) → marks_after count place (run_from (place + 1) (place + 1) m ∷ runs) ≡ Some m ∷ marks_after count (place + 1) runs
    alone runs =
        let none : place + 1 - 1 - place ≡ 0 = omega arith in
        let one : place + 1 + 1 - (place + 1) ≡ 1 = omega arith in
        ap (λ n. replicate n None ++ replicate (place + 1 + 1 - (place + 1)) (Some m) ++ marks_after count (place + 1) runs) none
        ∙ ap (λ n. replicate n (Some m) ++ marks_after count (place + 1) runs) one

    more : (runs : List Run) → Begins (place + 1 + 1) runs → marks_after count place (joined (place + 1) m runs) ≡ Some m ∷ marks_after count (place + 1) runs
    more [] h = alone []
    more (run ∷ runs) h = elim (goes_on (place + 1) m run) as (λ b. goes_on (place + 1) m run ≡ b → marks_after count place (joined (place + 1) m (run ∷ runs)) ≡ Some m ∷ marks_after count (place + 1) (run ∷ runs)) [
      | true ↦ λ on.
          let f = goes_on-facts (place + 1) m run on in
          let b = h.after run runs refl in
          let none : place + 1 - 1 - place ≡ 0 = omega arith in
          let gap : run.first - 1 - (place + 1) ≡ 0 = omega (arith, f.0) in
          let size : run.last + 1 - (place + 1) ≡ suc (run.last + 1 - run.first) = omega (arith, f.0, b.1) in
          let rest = marks_after count run.last runs in
          ap (marks_after count place) (joined-on (place + 1) m run runs on)
          ∙ ap (λ n. replicate n None ++ replicate (run.last + 1 - (place + 1)) (Some m) ++ rest) none
          ∙ ap (λ n. replicate n (Some m) ++ rest) size
          ∙ ap (λ x. Some m ∷ replicate (run.last + 1 - run.first) (Some x) ++ rest) f.1
          ∙ ap (λ n. Some m ∷ replicate n None ++ replicate (run.last + 1 - run.first) (Some run.mark) ++ rest) (sym gap)
      | false ↦ λ off. ap (marks_after count place) (joined-off (place + 1) m run runs off) ∙ alone (run ∷ runs)
    ] refl

-- the first of the runs goes on after another
abbrev pub first_touches : Option Run → List Run → Bool
first_touches last [] = false
first_touches last (run ∷ runs) = touches last run

pub follows-made : (count : ℕ) (last : Option Run) (run : Run) → end_of last < run.first → run.first ≤ run.last → run.last ≤ count → touches last run ≡ false → follows count last run ≡ true
follows-made count last run after grows within off =
    let a : nat_lt (end_of last) run.first ≡ true = grind arith in
    let b : nat_le run.first run.last ≡ true = grind arith in
    let c : nat_le run.last count ≡ true = grind arith in
    rw (a, b, c, off) refl

pub parted : (count place : ℕ) (last : Option Run) (marks : List (Option Mark)) → place + length marks ≤ count → end_of last ≤ place → first_touches last (runs_of (place + 1) marks) ≡ false → are_parted count last (runs_of (place + 1) marks) ≡ true
parted count place last [] le end off = refl
parted count place last (None ∷ marks) le end off = parted count (place + 1) last marks (omega arith) (omega arith) off
parted count place last (Some m ∷ marks) le end off =
    more (runs_of (place + 1 + 1) marks) (runs_of-begins (place + 1 + 1) marks) off (λ before ends first. parted count (place + 1) before marks (omega arith) ends first)
  where
    more : (runs : List Run) → Begins (place + 1 + 1) runs → first_touches last (joined (place + 1) m runs) ≡ false → ((before : Option Run) → end_of before ≤ place + 1 → first_touches before runs ≡ false → are_parted count before runs ≡ true) → are_parted count last (joined (place + 1) m runs) ≡ true
    more [] h off rest = ap (λ b. b && true) (follows-made count last (run_from (place + 1) (place + 1) m) (omega arith) (omega arith) (omega arith) off)
    more (run ∷ runs) h off rest = elim (goes_on (place + 1) m run) as (λ b. goes_on (place + 1) m run ≡ b → are_parted count last (joined (place + 1) m (run ∷ runs)) ≡ true) [
      | true ↦ λ on.
          let f = goes_on-facts (place + 1) m run on in
          let is = joined-on (place + 1) m run runs on in
          let own = run_from (place + 1) run.last m in
          let here : touches last own ≡ false = sym (ap (first_touches last) is) ∙ off in
          let below = parted_facts count None run runs (rest None (omega arith) refl) in
          let P : Mark → Type 0 = λ x. are_parted count (Some (run_from (place + 1) run.last x)) runs ≡ true in
          let later : are_parted count (Some own) runs ≡ true = subst P (sym f.1) (same_end (place + 1) run runs below.4) in
          ap (are_parted count last) is ∙ ap (λ b. b && are_parted count (Some own) runs) (follows-made count last own (omega arith) (omega (arith, f.0, below.1)) below.2 here) ∙ later
      | false ↦ λ no_more.
          let is = joined-off (place + 1) m run runs no_more in
          let own = run_from (place + 1) (place + 1) m in
          let here : touches last own ≡ false = sym (ap (first_touches last) is) ∙ off in
          ap (are_parted count last) is ∙ ap (λ b. b && are_parted count (Some own) (run ∷ runs)) (follows-made count last own (omega arith) (omega arith) (omega arith) here) ∙ rest (Some own) (omega arith) no_more
    ] refl
      where
        same_end : (first : ℕ) (run : Run) (runs : List Run) → are_parted count (Some run) runs ≡ true → are_parted count (Some (run_from first run.last run.mark)) runs ≡ true
        same_end first run [] e = refl
        same_end first run (x ∷ runs) e = e

-- ---- lawful runs are no fewer than those of the marks that they give

joined_length : (place : ℕ) (m : Mark) (runs : List Run) → length (joined place m runs) ≤ suc (length runs)
joined_length place m [] = omega arith
joined_length place m (run ∷ runs) = elim (goes_on place m run) as (λ b. length (cond b (run_from place run.last m ∷ runs) (run_from place place m ∷ run ∷ runs)) ≤ suc (suc (length runs))) [
  | true ↦ omega arith
  | false ↦ omega arith
]

-- a mark before places that begin with it adds no run
joined_again : (place : ℕ) (m : Mark) (runs : List Run) → length (joined place m (joined (place + 1) m runs)) ≡ length (joined (place + 1) m runs)
joined_again place m [] = ap length (joined-on place m (run_from (place + 1) (place + 1) m) [] (goes_on-next place m (run_from (place + 1) (place + 1) m) refl refl))
joined_again place m (run ∷ runs) = elim (goes_on (place + 1) m run) as (λ b. length (joined place m (cond b (run_from (place + 1) run.last m ∷ runs) (run_from (place + 1) (place + 1) m ∷ run ∷ runs))) ≡ length (cond b (run_from (place + 1) run.last m ∷ runs) (run_from (place + 1) (place + 1) m ∷ run ∷ runs))) [
  | true ↦ ap length (joined-on place m (run_from (place + 1) run.last m) runs (goes_on-next place m (run_from (place + 1) run.last m) refl refl))
  | false ↦ ap length (joined-on place m (run_from (place + 1) (place + 1) m) (run ∷ runs) (goes_on-next place m (run_from (place + 1) (place + 1) m) refl refl))
]

alike_length : (k place : ℕ) (m : Mark) (marks : List (Option Mark)) → length (runs_of place (replicate k (Some m) ++ marks)) ≤ suc (length (runs_of (place + k) marks))
alike_length zero place m marks = let e : place ≡ place + 0 = omega arith in let f = ap (λ i. length (runs_of i marks)) e in omega (arith, f)
alike_length (suc zero) place m marks = joined_length place m (runs_of (place + 1) marks)
alike_length (suc (suc k)) place m marks =
    let e : place + 1 + suc k ≡ place + suc (suc k) = omega arith in
    let f = ap (λ i. length (runs_of i marks)) e in
    omega (arith, f, alike_length (suc k) (place + 1) m marks, joined_again place m (runs_of (place + 1 + 1) (replicate k (Some m) ++ marks)))

fewer : (count place : ℕ) (others : List Run) → AreRunsAfter count place others → length (runs_of (place + 1) (marks_after count place others)) ≤ length others
fewer count place [] h = omega (arith, ap length (runs_back_none (count - place) (place + 1)))
fewer count place (run ∷ others) h =
    let gap = run.first - 1 - place in
    let n = run.last + 1 - run.first in
    let rest = marks_after count run.last others in
    let begin : place + 1 + gap ≡ run.first = omega (arith, h.0) in
    let next : run.first + n ≡ run.last + 1 = omega (arith, h.1) in
    let is : length (runs_of (place + 1) (marks_after count place (run ∷ others))) ≡ length (runs_of run.first (replicate n (Some run.mark) ++ rest)) = ap length (ap (runs_of (place + 1)) (append_assoc (replicate gap None) (replicate n (Some run.mark)) rest) ∙ runs_of-absent gap (place + 1) (replicate n (Some run.mark) ++ rest) ∙ ap (λ i. runs_of i (replicate n (Some run.mark) ++ rest)) begin) in
    let then = ap (λ i. length (runs_of i rest)) next in
    omega (arith, is, then, alike_length n run.first run.mark rest, fewer count run.last others h.3)

-- ---- the runs of marks are lawful

none_touched : (runs : List Run) → first_touches None runs ≡ false
none_touched [] = refl
none_touched (run ∷ runs) = refl

lawful_from : (count : ℕ) (last : Option Run) (runs : List Run) → are_parted count last runs ≡ true → AreRunsAfter count (end_of last) runs
lawful_from count last [] e = tt
lawful_from count last (run ∷ runs) e =
    let f = parted_facts count last run runs e in
    (f.0, f.1, f.2, lawful_from count (Some run) runs f.4)

pub lawful_runs : (count : ℕ) (marks : List (Option Mark)) → length marks ≡ count → AreRunsAfter count 0 (runs_of 1 marks)
lawful_runs count marks len = lawful_from count None (runs_of 1 marks) (parted count 0 None marks (omega (arith, len)) (omega arith) (none_touched (runs_of 1 marks)))

-- ---- the marks that runs give to intervals, by their lengths and one by one

-- a front of intervals that have one mark, or are a gap
front : (f : ℕ → Option Mark) (x : Option Mark) (k a n : ℕ) → ((i : ℕ) → a ≤ i → i < a + k → f i ≡ x) → map f (range_with_len a (k + n)) ≡ replicate k x ++ map f (range_with_len (a + k) n)
front f x zero a n h =
    let e : 0 + n ≡ n = omega arith in
    let g : a ≡ a + 0 = omega arith in
    ap (λ j. map f (range_with_len a j)) e ∙ ap (λ i. map f (range_with_len i n)) g
front f x (suc k) a n h =
    let e : suc k + n ≡ suc (k + n) = omega arith in
    let g : a + 1 + k ≡ a + suc k = omega arith in
    let later = front f x k (a + 1) n (λ i lo hi. h i (omega arith) (omega arith)) in
    ap (λ j. map f (range_with_len a j)) e
    ∙ ap (λ y. y ∷ map f (range_with_len (a + 1) (k + n))) (h a (omega arith) (omega arith))
    ∙ ap (λ ys. x ∷ ys) (later ∙ ap (λ i. replicate k x ++ map f (range_with_len i n)) g)

alike_from : (f g : ℕ → Option Mark) (a n : ℕ) → ((i : ℕ) → a ≤ i → f i ≡ g i) → map f (range_with_len a n) ≡ map g (range_with_len a n)
alike_from f g a zero h = refl
alike_from f g a (suc n) h =
    ap (λ y. y ∷ map f (range_with_len (a + 1) n)) (h a (omega arith))
    ∙ ap (λ ys. g a ∷ ys) (alike_from f g (a + 1) n (λ i lo. h i (omega arith)))

-- the mark of a run
abbrev mark_of_run : Option Run → Option Mark
mark_of_run o = option_map (λ (run : Run). run.mark) o

spread_after : (count start : ℕ) (runs : List Run) → AreRunsAfter count start runs → map (mark_held runs) (range_with_len (start + 1) (count - start)) ≡ marks_after count start runs
spread_after count start [] h =
    let e : count - start ≡ count - start + 0 = omega arith in
    ap (λ j. map (mark_held []) (range_with_len (start + 1) j)) e
    ∙ front (mark_held []) None (count - start) (start + 1) 0 (λ i lo hi. refl)
    ∙ append-nil (replicate (count - start) None)
spread_after count start (run ∷ runs) h =
    let f = mark_held (run ∷ runs) in
    let gap = run.first - 1 - start in
    let n = run.last + 1 - run.first in
    let left = count - run.last in
    let size : count - start ≡ gap + (n + left) = omega (arith, h.0, h.1, h.2) in
    let begin : start + 1 + gap ≡ run.first = omega (arith, h.0) in
    let next : run.first + n ≡ run.last + 1 = omega (arith, h.1) in
    let before : (i : ℕ) → start + 1 ≤ i → i < start + 1 + gap → f i ≡ None = λ i lo hi.
    let lt : i < run.first = omega (arith, h.0) in
    let le : i ≤ run.last = omega (arith, h.1) in
    ap mark_of_run (run_at-later i run runs (holds-before i run lt) ∙ run_at-before count run.last i runs h.3 le) in
    let inside : (i : ℕ) → run.first ≤ i → i < run.first + n → f i ≡ Some run.mark = λ i lo hi.
    let le : i ≤ run.last = omega (arith, h.1) in
    ap mark_of_run (run_at-here i run runs (holds-from i run lo le)) in
    let after : (i : ℕ) → run.last + 1 ≤ i → f i ≡ mark_held runs i = λ i lo.
    let lt : run.last < i = omega arith in
    ap mark_of_run (run_at-later i run runs (holds-past i run lt)) in
    ap (λ j. map f (range_with_len (start + 1) j)) size
    ∙ front f None gap (start + 1) (n + left) before
    ∙ ap (λ i. replicate gap None ++ map f (range_with_len i (n + left))) begin
    ∙ ap (λ l. replicate gap None ++ l) (front f (Some run.mark) n run.first left inside)
    ∙ ap (λ i. replicate gap None ++ (replicate n (Some run.mark) ++ map f (range_with_len i left))) next
    ∙ ap (λ l. replicate gap None ++ (replicate n (Some run.mark) ++ l)) (alike_from f (mark_held runs) (run.last + 1) left after ∙ spread_after count run.last runs h.3)
    ∙ sym (append_assoc (replicate gap None) (replicate n (Some run.mark)) (marks_after count run.last runs))

pub spread_is : (count : ℕ) (runs : List Run) → AreRuns count runs → spread_with_gaps count runs ≡ marks_after count 0 runs
spread_is count runs h =
    let e : count ≡ count - 0 = omega arith in
    let g : 1 ≡ 0 + 1 = omega arith in
    ap (λ j. map (mark_held runs) (range_with_len 1 j)) e
    ∙ ap (λ i. map (mark_held runs) (range_with_len i (count - 0))) g
    ∙ spread_after count 0 runs h

-- ---- a list of marks and gaps: its runs give it, and are the fewest

pub spread_back : (count : ℕ) (marks : List (Option Mark)) → length marks ≡ count → spread_with_gaps count (runs_of 1 marks) ≡ marks
spread_back count marks len = spread_is count (runs_of 1 marks) (lawful_runs count marks len) ∙ marks_back count 0 marks (omega (arith, len))

pub least_runs : (count : ℕ) (marks : List (Option Mark)) → length marks ≡ count → IsLeastWithGaps count (runs_of 1 marks)
least_runs count marks len others lawful e =
    let same : marks_after count 0 others ≡ marks = sym (spread_is count others lawful) ∙ e ∙ spread_back count marks len in
    let f = ap (λ ms. length (runs_of 1 ms)) same in
    omega (arith, f, fewer count 0 others lawful)

-- ---- a loop over stretches

pub stretch_is : (marks : List (Option Mark)) (start end : ℕ) (x : Option Mark) → Stretch marks start end x → runs_of (start + 1) (drop start marks) ≡ stretch_of (start + 1) end x ++ runs_of (end + 1) (drop end marks)
stretch_is marks start end None s = Stretch-none marks start end s
stretch_is marks start end (Some m) s = Stretch-some marks start end m s

held_by-append : (xs ys : List Run) → held_by (xs ++ ys) ≡ held_by xs + held_by ys
held_by-append [] ys = omega arith
held_by-append (x ∷ xs) ys = omega (arith, held_by-append xs ys)

pub runs_go_on : (marks : List (Option Mark)) (start end : ℕ) (x : Option Mark) (runs new all : List Run) → Stretch marks start end x → new ≡ runs ++ stretch_of (start + 1) end x → runs ++ runs_of (start + 1) (drop start marks) ≡ all → new ++ runs_of (end + 1) (drop end marks) ≡ all
runs_go_on marks start end x runs new all s is so_far =
    let own = stretch_of (start + 1) end x in
    ap (λ l. l ++ runs_of (end + 1) (drop end marks)) is ∙ append_assoc runs own (runs_of (end + 1) (drop end marks)) ∙ ap (λ l. runs ++ l) (sym (stretch_is marks start end x s)) ∙ so_far

pub held_goes_on : (marks : List (Option Mark)) (start end : ℕ) (x : Option Mark) (held more all : ℕ) → Stretch marks start end x → more ≡ held_by (stretch_of (start + 1) end x) → held + held_by (runs_of (start + 1) (drop start marks)) ≡ all → held + more + held_by (runs_of (end + 1) (drop end marks)) ≡ all
held_goes_on marks start end x held more all s is so_far =
    let own = stretch_of (start + 1) end x in
    let e : held_by (runs_of (start + 1) (drop start marks)) ≡ held_by own + held_by (runs_of (end + 1) (drop end marks)) = ap held_by (stretch_is marks start end x s) ∙ held_by-append own (runs_of (end + 1) (drop end marks)) in
    omega (arith, e, is, so_far)

pub held_few : (count : ℕ) (marks : List (Option Mark)) → length marks ≡ count → held_by (runs_of 1 marks) ≤ count
held_few count marks len =
    let lawful = lawful_runs count marks len in
    omega (arith, held_by-le count 0 (runs_of 1 marks) lawful, end_of-le count 0 (runs_of 1 marks) lawful (omega arith))

pub none_left : (marks : List (Option Mark)) (place : ℕ) → length marks ≤ place → runs_of (place + 1) (drop place marks) ≡ []
none_left marks place le = ap (runs_of (place + 1)) (drop_all place marks le)
