-- Runs that hold each interval up to an end, of which no two beside each other have one mark.
use Rattle.std.proofs.Common.{◌≡◌, ◌≢◌, ◌<◌, ◌≤◌, ◌+◌, ◌-◌, ℕ, zero, suc, true, false, Bool, IsTrue, ◌↔◌, Option, Some, None, option_map, List, [], ◌∷◌, ◌++◌, length, map, get_or, slice_get, set, replicate, refl, sym, ap, subst, true≢false, ◌∙◌, arith, append_assoc}
use Rattle.std.proofs.lemmas.List.{append-nil, length-append, length-replicate, map-append, replicate-append-replicate}
use Rattle.mds_marks.specs.declared.mark.Mark.{Mark}
use Rattle.mds_runs.specs.declared.cover.Run.{Run}
use Rattle.mds_runs.specs.Runs.{last_end}
use Rattle.mds_runs.specs.RunSteps.{end_of}
use Rattle.mds_runs.specs.Gaps.{goes_on, joined, runs_of}
use Rattle.mds_runs.specs.GapSteps.{marks_after, are_parted, end_of as gap_end}
use Rattle.mds_runs.specs.KeptReadings.{AreClose, EndBefore, IsOther, lengthened, marks_in}
use Rattle.mds_runs.proofs.RunFacts.{last_end-is}
use Rattle.mds_runs.proofs.Tilings.{Tile, Tiles}
use Rattle.mds_runs.proofs.GapRuns.{first_touches, follows-made, goes_on-facts, goes_on-next, goes_on-other, joined-off, joined-on, runs_back}

-- ---- their end, and the marks of their intervals

pub close-le : (interval : ℕ) (runs : List Run) (end : ℕ) → AreClose interval runs end → interval ≤ end
close-le interval [] end h = omega arith
close-le interval (run ∷ runs) end h = omega (arith, close-le run.last runs end h.3)

pub length-marks : (interval : ℕ) (runs : List Run) (end : ℕ) → AreClose interval runs end → length (marks_in interval runs) + interval ≡ end
length-marks interval [] end h = omega arith
length-marks interval (run ∷ runs) end h =
    omega (arith, length-append (replicate (run.last - interval) run.mark) (marks_in run.last runs), length-replicate (run.last - interval) run.mark, length-marks run.last runs end h.3)

end_of-close : (interval : ℕ) (runs : List Run) (end : ℕ) → AreClose interval runs end → end_of interval runs ≡ end
end_of-close interval [] end h = h
end_of-close interval (run ∷ runs) end h = end_of-close run.last runs end h.3

pub last_end-close : (runs : List Run) (end : ℕ) → AreClose 0 runs end → last_end runs ≡ end
last_end-close runs end h = last_end-is runs ∙ end_of-close 0 runs end h

-- there is a run where there is an interval
pub some_run : (runs : List Run) (end : ℕ) → AreClose 0 runs end → 0 < length runs → 0 < end
some_run [] end h some = absurd (omega arith)
some_run (run ∷ runs) end h some = omega (arith, close-le run.last runs end h.3)

-- ---- the run that holds an interval

front_at : (n : ℕ) (x : Mark) (rest : List Mark) (i : ℕ) → i < n → slice_get (replicate n x ++ rest) i ≡ Some x
front_at zero x rest i lt = absurd (omega arith)
front_at (suc n) x rest zero lt = refl
front_at (suc n) x rest (suc i) lt = front_at n x rest i (omega arith)

behind_at : (n : ℕ) (x : Mark) (rest : List Mark) (i : ℕ) → slice_get (replicate n x ++ rest) (n + i) ≡ slice_get rest i
behind_at zero x rest i = let e : 0 + i ≡ i = omega arith in ap (slice_get rest) e
behind_at (suc n) x rest i = let e : suc n + i ≡ suc (n + i) = omega arith in ap (slice_get (x ∷ (replicate n x ++ rest))) e ∙ behind_at n x rest i

pub first_holds : (runs : List Run) (run : Run) (at : ℕ) → 1 ≤ length runs → run ≡ get_or runs 0 run → at < run.last → slice_get (marks_in 0 runs) at ≡ Some run.mark
first_holds [] run at some is lt = absurd (omega arith)
first_holds (x ∷ runs) run at some is lt =
    let same : run.last ≡ x.last = ap (λ (r : Run). r.last) is in
    front_at (x.last - 0) x.mark (marks_in x.last runs) at (omega arith) ∙ ap (λ (r : Run). Some r.mark) (sym is)

-- it is the first that ends behind the index
later_end : (run : Run) (runs : List Run) (at place : ℕ) → EndBefore (run ∷ runs) at (suc place) → EndBefore runs at place
later_end run runs at place e = record {
  within = omega (arith, e.within);
  before = λ k d below. e.before (suc k) d (omega arith);
  after = λ k d from within. e.after (suc k) d (omega arith) (omega arith);
}

pub found_within : (interval : ℕ) (runs : List Run) (end at place : ℕ) → AreClose interval runs end → at < end → interval ≤ at → EndBefore runs at place → place < length runs
found_within interval [] end at place h lt le e = absurd (omega arith)
found_within interval (run ∷ runs) end at zero h lt le e = omega arith
found_within interval (run ∷ runs) end at (suc place) h lt le e =
    let past : run.last ≤ at = e.before 0 run (omega arith) in
    omega (arith, found_within run.last runs end at place h.3 lt past (later_end run runs at place e))

pub found : (interval : ℕ) (runs : List Run) (end at place i : ℕ) (d : Run) → AreClose interval runs end → interval + i ≡ at → at < end → EndBefore runs at place → slice_get (marks_in interval runs) i ≡ Some (get_or runs place d).mark
found interval [] end at place i d h is lt e = absurd (omega arith)
found interval (run ∷ runs) end at zero i d h is lt e =
    let here : at < run.last = e.after 0 d (omega arith) (omega arith) in
    front_at (run.last - interval) run.mark (marks_in run.last runs) i (omega arith)
found interval (run ∷ runs) end at (suc place) i d h is lt e =
    let past : run.last ≤ at = e.before 0 d (omega arith) in
    let n = run.last - interval in
    let j = at - run.last in
    let sum : n + j ≡ i = omega (arith, h.1) in
    let next : run.last + j ≡ at = omega arith in
    ap (slice_get (replicate n run.mark ++ marks_in run.last runs)) (sym sum)
    ∙ behind_at n run.mark (marks_in run.last runs) j
    ∙ found run.last runs end at place j d h.3 next lt (later_end run runs at place e)

-- where each run ends
pub ends_rise : (interval : ℕ) (runs : List Run) (end : ℕ) (i j : ℕ) (d : Run) → AreClose interval runs end → i ≤ j → j < length runs → (get_or runs i d).last ≤ (get_or runs j d).last
ends_rise interval [] end i j d h le lt = absurd (omega arith)
ends_rise interval (run ∷ runs) end zero zero d h le lt = omega arith
ends_rise interval (run ∷ runs) end zero (suc j) d h le lt = let e = first_before run.last runs end j d h.3 (omega arith) in omega arith
  where
    first_before : (interval : ℕ) (runs : List Run) (end j : ℕ) (d : Run) → AreClose interval runs end → j < length runs → interval < (get_or runs j d).last
    first_before interval [] end j d h lt = absurd (omega arith)
    first_before interval (run ∷ runs) end zero d h lt = h.1
    first_before interval (run ∷ runs) end (suc j) d h lt = let e = first_before run.last runs end j d h.3 (omega arith) in omega (arith, h.1)
ends_rise interval (run ∷ runs) end (suc i) zero d h le lt = absurd (omega arith)
ends_rise interval (run ∷ runs) end (suc i) (suc j) d h le lt = ends_rise run.last runs end i j d h.3 (omega arith) (omega arith)

-- ---- they are the runs of their marks

map-replicate : (n : ℕ) (x : Mark) → map (λ (m : Mark). Some m) (replicate n x) ≡ replicate n (Some x)
map-replicate zero x = refl
map-replicate (suc n) x = ap (λ l. Some x ∷ l) (map-replicate n x)

marks-same : (interval : ℕ) (runs : List Run) (end : ℕ) → AreClose interval runs end → marks_after end interval runs ≡ map (λ (m : Mark). Some m) (marks_in interval runs)
marks-same interval [] end h = let none : end - interval ≡ 0 = omega arith in ap (λ n. replicate n None) none
marks-same interval (run ∷ runs) end h =
    let none : run.first - 1 - interval ≡ 0 = omega (arith, h.0) in
    let size : run.last + 1 - run.first ≡ run.last - interval = omega (arith, h.0, h.1) in
    let own = replicate (run.last - interval) run.mark in
    ap (λ n. replicate n None ++ replicate (run.last + 1 - run.first) (Some run.mark) ++ marks_after end run.last runs) none
    ∙ ap (λ n. replicate n (Some run.mark) ++ marks_after end run.last runs) size
    ∙ ap (λ l. l ++ marks_after end run.last runs) (sym (map-replicate (run.last - interval) run.mark))
    ∙ ap (λ l. map (λ (m : Mark). Some m) own ++ l) (marks-same run.last runs end h.3)
    ∙ sym (map-append (λ (m : Mark). Some m) own (marks_in run.last runs))

other_touches : (run : Run) (runs : List Run) → IsOther run.mark runs → first_touches (Some run) runs ≡ false
other_touches run [] other = refl
other_touches run (next ∷ runs) other = goes_on-other run.last run.mark next (λ e same. other same)

parted_from : (end : ℕ) (last : Option Run) (interval : ℕ) (runs : List Run) → gap_end last ≡ interval → AreClose interval runs end → first_touches last runs ≡ false → are_parted end last runs ≡ true
parted_from end last interval [] is h off = refl
parted_from end last interval (run ∷ runs) is h off =
    let within = close-le run.last runs end h.3 in
    rw (follows-made end last run (omega (arith, h.0)) (omega (arith, h.0, h.1)) within off) (parted_from end (Some run) run.last runs refl h.3 (other_touches run runs h.2))

pub runs-back : (runs : List Run) (end : ℕ) → AreClose 0 runs end → runs_of 1 (map (λ (m : Mark). Some m) (marks_in 0 runs)) ≡ runs
runs-back runs end h =
    ap (runs_of 1) (sym (marks-same 0 runs end h)) ∙ runs_back end None runs (parted_from end None 0 runs refl h (none_touched runs))
  where
    none_touched : (runs : List Run) → first_touches None runs ≡ false
    none_touched [] = refl
    none_touched (run ∷ runs) = refl

-- ---- the runs of marks

-- the first of other marks is another one
first_other : (mark : Mark) (place : ℕ) (runs : List Run) (end : ℕ) → IsOther mark runs → AreClose place runs end
    → slice_get (marks_in place runs) 0 ≡ Some mark → ⊥
first_other mark place [] end other h e = cc
first_other mark place (run ∷ runs) end other h e =
    let own = front_at (run.last - place) run.mark (marks_in run.last runs) 0 (omega (arith, h.1)) in
    other (some_same mark run.mark (sym e ∙ own))
  where
    some_same : (m n : Mark) → Some m ≡ Some n → m ≡ n
    some_same m n e = cc

-- each is as long as the mark stays the same
pub Tiles-close : (marks : List Mark) (place : ℕ) (runs : List Run) (end : ℕ) → AreClose place runs end
    → ((k : ℕ) → slice_get marks (place + k) ≡ slice_get (marks_in place runs) k) → Tiles marks place runs end
Tiles-close marks place [] end h same = h
Tiles-close marks place (run ∷ runs) end h same =
    let n = run.last - place in
    let later : (k : ℕ) → slice_get marks (run.last + k) ≡ slice_get (marks_in run.last runs) k = λ k.
    let at : place + (n + k) ≡ run.last + k = omega (arith, h.1) in
    ap (slice_get marks) (sym at) ∙ same (n + k) ∙ behind_at n run.mark (marks_in run.last runs) k in
    let tile : Tile marks place run = record {
      first = h.0;
      grows = h.1;
      alike = λ k lo hi.
          let at : place + (k - place) ≡ k = omega arith in
          ap (slice_get marks) (sym at) ∙ same (k - place) ∙ front_at n run.mark (marks_in run.last runs) (k - place) (omega arith);
      differs = λ e.
          let at : run.last + 0 ≡ run.last = omega arith in
          first_other run.mark run.last runs end h.2 h.3 (sym (later 0) ∙ ap (slice_get marks) at ∙ e);
    } in
    (tile, Tiles-close marks run.last runs end h.3 later)

-- runs of the intervals after a place that have these marks
pub record AreRunsFor (place : ℕ) (marks : List Mark) (runs : List Run) : Type 0 where
  pub close : AreClose place runs (place + length marks)
  pub spread : marks_in place runs ≡ marks

joined-close : (place : ℕ) (m : Mark) (ms : List Mark) (runs : List Run) → AreRunsFor (place + 1) ms runs
    → AreRunsFor place (m ∷ ms) (joined (place + 1) m runs)
joined-close place m ms [] h =
    let one : place + 1 - place ≡ 1 = omega arith in
    record {
      close = (refl, omega arith, tt, omega (arith, h.close));
      spread = ap (λ n. replicate n m ++ []) one ∙ ap (λ l. m ∷ l) h.spread;
    }
joined-close place m ms (run ∷ runs) h = elim (goes_on (place + 1) m run) as (λ b. goes_on (place + 1) m run ≡ b → AreRunsFor place (m ∷ ms) (joined (place + 1) m (run ∷ runs))) [
  | true ↦ λ e.
      let same = (goes_on-facts (place + 1) m run e).1 in
      let size : run.last - place ≡ suc (run.last - (place + 1)) = omega (arith, h.close.1) in
      subst (AreRunsFor place (m ∷ ms)) (sym (joined-on (place + 1) m run runs e)) (record {
        close = (
          refl,
          omega (arith, h.close.1),
          subst (λ x. IsOther x runs) (sym same) h.close.2,
          subst (AreClose run.last runs) end h.close.3,
        );
        spread = ap (λ n. replicate n m ++ marks_in run.last runs) size
            ∙ ap (λ x. m ∷ (replicate (run.last - (place + 1)) x ++ marks_in run.last runs)) same
            ∙ ap (λ l. m ∷ l) h.spread;
      })
  | false ↦ λ e.
      let one : place + 1 - place ≡ 1 = omega arith in
      let other : m ≢ run.mark = λ same. true≢false (sym (goes_on-next (place + 1) m run h.close.0 (sym same)) ∙ e) in
      subst (AreRunsFor place (m ∷ ms)) (sym (joined-off (place + 1) m run runs e)) (record {
        close = (refl, omega arith, other, (h.close.0, h.close.1, h.close.2, subst (AreClose run.last runs) end h.close.3));
        spread = ap (λ n. replicate n m ++ marks_in (place + 1) (run ∷ runs)) one ∙ ap (λ l. m ∷ l) h.spread;
      })
] refl
  where
    end : place + 1 + length ms ≡ place + suc (length ms)
    end = omega arith

pub runs_of-close : (place : ℕ) (marks : List Mark) → AreRunsFor place marks (runs_of (place + 1) (map (λ (m : Mark). Some m) marks))
runs_of-close place [] = record { close = omega arith; spread = refl }
runs_of-close place (m ∷ ms) = joined-close place m ms (runs_of (place + 1 + 1) (map (λ (x : Mark). Some x) ms)) (runs_of-close (place + 1) ms)

-- ---- more intervals behind their end

-- the last of the runs has a mark
abbrev pub EndsWith : List Run → Mark → Type 0
EndsWith [] mark = ⊥
EndsWith (run ∷ []) mark = run.mark ≡ mark
EndsWith (run ∷ next ∷ runs) mark = EndsWith (next ∷ runs) mark

abbrev pub last_mark : List Run → Option Mark
last_mark runs = option_map (λ (run : Run). run.mark) (slice_get runs (length runs - 1))

-- a test of the last run tells it
pub last-mark : (runs : List Run) (run : Run) (mark : Mark) (same : Bool) → slice_get runs (length runs - 1) ≡ Some run → IsTrue same ↔ (run.mark ≡ mark) → IsTrue same ↔ (last_mark runs ≡ Some mark)
last-mark runs run mark same is h = (λ t. own ∙ ap (λ (m : Mark). Some m) (h.0 t), λ e. h.1 (some_mark run.mark mark (sym own ∙ e)))
  where
    own : last_mark runs ≡ Some run.mark
    own = ap (option_map (λ (r : Run). r.mark)) is

    some_mark : (m n : Mark) → Some m ≡ Some n → m ≡ n
    some_mark m n e = cc

later_mark : (run next : Run) (runs : List Run) → last_mark (run ∷ next ∷ runs) ≡ last_mark (next ∷ runs)
later_mark run next runs =
    let a : length (run ∷ next ∷ runs) - 1 ≡ suc (length runs) = omega arith in
    let b : length (next ∷ runs) - 1 ≡ length runs = omega arith in
    ap (λ i. option_map (λ (r : Run). r.mark) (slice_get (run ∷ next ∷ runs) i)) a ∙ sym (ap (λ i. option_map (λ (r : Run). r.mark) (slice_get (next ∷ runs) i)) b)

pub ends-from : (runs : List Run) (mark : Mark) → last_mark runs ≡ Some mark → EndsWith runs mark
ends-from [] mark e = cc
ends-from (run ∷ []) mark e = cc
ends-from (run ∷ next ∷ runs) mark e = ends-from (next ∷ runs) mark (sym (later_mark run next runs) ∙ e)

pub ends-to : (runs : List Run) (mark : Mark) → EndsWith runs mark → last_mark runs ≡ Some mark
ends-to [] mark e = absurd e
ends-to (run ∷ []) mark e = ap (λ (m : Mark). Some m) e
ends-to (run ∷ next ∷ runs) mark e = later_mark run next runs ∙ ends-to (next ∷ runs) mark e

other_lengthened : (mark : Mark) (end : ℕ) (runs : List Run) → IsOther mark runs → IsOther mark (lengthened end runs)
other_lengthened mark end [] h = h
other_lengthened mark end (run ∷ []) h = h
other_lengthened mark end (run ∷ next ∷ runs) h = h

pub lengthened-close : (interval : ℕ) (runs : List Run) (old end : ℕ) (mark : Mark) → AreClose interval runs old → EndsWith runs mark → old < end → AreClose interval (lengthened end runs) end
lengthened-close interval [] old end mark h e lt = absurd e
lengthened-close interval (run ∷ []) old end mark h e lt = (h.0, omega (arith, h.1, h.3), tt, refl)
lengthened-close interval (run ∷ next ∷ runs) old end mark h e lt =
    (h.0, h.1, other_lengthened run.mark end (next ∷ runs) h.2, lengthened-close run.last (next ∷ runs) old end mark h.3 e lt)

pub lengthened-marks : (interval : ℕ) (runs : List Run) (old end : ℕ) (mark : Mark) → AreClose interval runs old → EndsWith runs mark → old < end → marks_in interval (lengthened end runs) ≡ marks_in interval runs ++ replicate (end - old) mark
lengthened-marks interval [] old end mark h e lt = absurd e
lengthened-marks interval (run ∷ []) old end mark h e lt =
    let sum : end - interval ≡ (run.last - interval) + (end - old) = omega (arith, h.1, h.3) in
    let own = replicate (run.last - interval) run.mark in
    append-nil (replicate (end - interval) run.mark)
    ∙ ap (λ n. replicate n run.mark) sum
    ∙ sym (replicate-append-replicate (run.last - interval) (end - old) run.mark)
    ∙ ap (λ m. own ++ replicate (end - old) m) e
    ∙ ap (λ l. l ++ replicate (end - old) mark) (sym (append-nil own))
lengthened-marks interval (run ∷ next ∷ runs) old end mark h e lt =
    let own = replicate (run.last - interval) run.mark in
    ap (λ l. own ++ l) (lengthened-marks run.last (next ∷ runs) old end mark h.3 e lt)
    ∙ sym (append_assoc own (marks_in run.last (next ∷ runs)) (replicate (end - old) mark))

-- which is a write at the last place
pub set-last : (runs : List Run) (k end : ℕ) (run : Run) → k + 1 ≡ length runs → run ≡ get_or runs k run → set runs k (record { first = run.first; last = end; mark = run.mark }) ≡ lengthened end runs
set-last [] k end run e is = absurd (omega arith)
set-last (x ∷ []) zero end run e is = ap (λ (r : Run). record { first = r.first; last = end; mark = r.mark } ∷ []) is
set-last (x ∷ []) (suc k) end run e is = absurd (omega arith)
set-last (x ∷ y ∷ runs) zero end run e is = absurd (omega arith)
set-last (x ∷ y ∷ runs) (suc k) end run e is = ap (λ l. x ∷ l) (set-last (y ∷ runs) k end run (omega arith) is)

-- the run of the intervals after one, up to an end
abbrev pub run_behind : ℕ → ℕ → Mark → Run
run_behind old end mark = record { first = old + 1; last = end; mark = mark }

pub push-close : (interval : ℕ) (runs : List Run) (old end : ℕ) (mark : Mark) → AreClose interval runs old → (EndsWith runs mark → ⊥) → old < end → AreClose interval (runs ++ run_behind old end mark ∷ []) end
push-close interval [] old end mark h other lt = (omega arith, omega arith, tt, refl)
push-close interval (run ∷ []) old end mark h other lt = (h.0, h.1, other, push-close run.last [] old end mark h.3 (λ e. e) lt)
push-close interval (run ∷ next ∷ runs) old end mark h other lt = (h.0, h.1, h.2, push-close run.last (next ∷ runs) old end mark h.3 other lt)

pub push-marks : (interval : ℕ) (runs : List Run) (old end : ℕ) (mark : Mark) → AreClose interval runs old → marks_in interval (runs ++ run_behind old end mark ∷ []) ≡ marks_in interval runs ++ replicate (end - old) mark
push-marks interval [] old end mark h = append-nil (replicate (end - interval) mark) ∙ ap (λ i. replicate (end - i) mark) h
push-marks interval (run ∷ runs) old end mark h =
    let own = replicate (run.last - interval) run.mark in
    ap (λ l. own ++ l) (push-marks run.last runs old end mark h.3)
    ∙ sym (append_assoc own (marks_in run.last runs) (replicate (end - old) mark))
