-- Readings of which each is held, as they are read.
use Rattle.std.proofs.Common.{◌≡◌, ℕ, ℤ, zero, suc, ◌-◌, ◌+◌, ◌≤◌, ◌<◌, Bool, true, false, cond, not, ◌&&◌, nat_eq, List, [], ◌∷◌, ◌++◌, length, map, replicate, drop, get_or, Option, Some, None, is_none, is_some, IsTrue, refl, sym, ap, subst, ◌∙◌, inl, inr, append_assoc, arith}
use Rattle.std.specs.Int.{w64, cast_signed}
use Rattle.std.proofs.lemmas.Bool.{cases_lt, eqb-true, eq-eqb}
use Rattle.std.proofs.lemmas.List.{append-nil, drop_all, length-map, length-replicate, map-append}
use Rattle.mds_marks.specs.Quality.{null, variable}
use Rattle.mds_marks.specs.Reading.{ReadingValue, is_reading, joined}
use Rattle.mds_marks.specs.declared.mark.Mark.{Mark}
use Rattle.mds_runs.specs.Marked.{reading_by}
use Rattle.mds_runs.specs.declared.cover.Run.{Run}
use Rattle.mds_runs.specs.GapSteps.{are_parted, marks_after}
use Rattle.mds_runs.proofs.KeptLemmas.{AllGo, goes}
use Rattle.mds_packs.specs.LoopSteps.{ReadsWhole, held_by, with_front}
use Rattle.mds_packs.specs.Unpacked.{◌>>=◌, number_at, value_at, reading_at, readings_at, head_at, unpacked}
use Rattle.mds_packs.proofs.Fields.{bind_some, passed_some, some_is, step}
use Rattle.mds_packs.proofs.Values.{small, v1}
use Rattle.mds_packs.proofs.Loops.{Behind, Behind-facts, Held, Left, g1, g2, held_done, held_no_value, held_on, last_turn, left_is, none_from, readings_length, turn, turn_ends, with_front-none}
use Rattle.mds_packs.proofs.DayPacks.{held, held-length}
use Rattle.mds_packs.proofs.Whole.{q1, q2}

-- ---- values under a mark

-- under V no value makes a reading
pub variable_none : (m : Mark) (n : ℕ) (bytes : List ℕ) → 0 < n → m.quality.flag ≡ variable → None ≡ readings_at (replicate n (Some m)) bytes
unfolding reading_at
variable_none m zero bytes some is = absurd (omega arith)
variable_none m (suc n) bytes some is = sym (none_from (reading_at m bytes) (g2 (replicate n (Some m))) (own (value_at m.quality.flag bytes)))
  where
    not_joined : (v : Option ℤ) → joined m v ≡ None
    not_joined v = ap (λ b. cond (not b && cond (nat_eq m.quality.flag null) (is_none v) (is_some v)) (Some (record { mark = m; value = v })) None) (eq-eqb m.quality.flag variable is)

    own : (read : Option (Option ℤ × List ℕ)) → (read >>= g1 m) ≡ None
    own None = refl
    own (Some x) = none_from (joined m x.0) (λ r. Some (r, x.1)) (not_joined x.0)

-- a value is absent where the flag is N, and only there
abbrev Shape : Bool → Option ℤ → Type 0
Shape null v = (cond null (is_none v) (is_some v) ≡ true) × (cond null None v ≡ v)

value_shape : (flag : ℕ) (bytes after : List ℕ) (v : Option ℤ) → value_at flag bytes ≡ Some (v, after) → Shape (nat_eq flag null) v
unfolding value_at
value_shape flag bytes after v e = elim (nat_eq flag null) as (λ b. cond b (Some (None, bytes)) (number_at w64 bytes >>= v1) ≡ Some (v, after) → Shape b v) [
  | true ↦ λ f. subst (Shape true) (ap (λ (x : Option ℤ × List ℕ). x.0) (some_is (None, bytes) (v, after) f)) (refl, refl)
  | false ↦ λ f.
      let a = bind_some (number_at w64 bytes) v1 (v, after) f in
      let g = passed_some (small a.0.0) (Some (cast_signed w64 a.0.0), a.0.1) (v, after) a.2 in
      subst (Shape false) (ap (λ (x : Option ℤ × List ℕ). x.0) g.1) (refl, refl)
] e

not_equal : (a b : ℕ) → (a ≡ b → ⊥) → nat_eq a b ≡ false
not_equal a b other = elim (nat_eq a b) as (λ c. nat_eq a b ≡ c → c ≡ false) [
  | true ↦ λ e. absurd (other (eqb-true a b e))
  | false ↦ λ e. refl
] refl

-- under another flag each value that is read makes one
value_joins : (m : Mark) (bytes after : List ℕ) (v : Option ℤ) → (m.quality.flag ≡ variable → ⊥) → value_at m.quality.flag bytes ≡ Some (v, after) → (joined m v ≡ held_by m v) × (goes m v ≡ true)
value_joins m bytes after v other e =
    let shape = value_shape m.quality.flag bytes after v e in
    let fits : is_reading m.quality.flag v ≡ true = ap (λ b. not b && cond (nat_eq m.quality.flag null) (is_none v) (is_some v)) (not_equal m.quality.flag variable other) ∙ shape.0 in (
      ap (λ b. cond b (Some (record { mark = m; value = v })) None) fits ∙ ap (λ (x : Option ℤ). Some (record { mark = m; value = x })) (sym shape.1),
      ap (is_reading m.quality.flag) shape.1 ∙ fits,
    )

-- so many values were read, and all make readings
pub record AreUnder (m : Mark) (n i : ℕ) (values : List (Option ℤ)) (bytes : List ℕ) (total : Held) : Type 0 where
  pub read : with_front (map (held_by m) values) (readings_at (replicate (n - i) (Some m)) bytes) ≡ total
  pub together : AllGo m values

pub under_begun : (m : Mark) (n : ℕ) (values : List (Option ℤ)) (bytes : List ℕ) → values ≡ [] → AreUnder m n 0 values bytes (readings_at (replicate n (Some m)) bytes)
under_begun m n [] bytes e =
    let size : n - 0 ≡ n = omega arith in
    record { read = with_front-none (readings_at (replicate (n - 0) (Some m)) bytes) ∙ ap (λ k. readings_at (replicate k (Some m)) bytes) size; together = λ k lt. absurd (omega arith) }
under_begun m n (v ∷ values) bytes e = absurd cc

all_on : (m : Mark) (values : List (Option ℤ)) (v : Option ℤ) → AllGo m values → goes m v ≡ true → (k : ℕ) → k < length (values ++ v ∷ []) → IsTrue (goes m (get_or (values ++ v ∷ []) k None))
all_on m [] v h e zero lt = e
all_on m [] v h e (suc k) lt = absurd (omega arith)
all_on m (x ∷ values) v h e zero lt = h 0 (omega arith)
all_on m (x ∷ values) v h e (suc k) lt = all_on m values v (λ j below. h (suc j) (omega arith)) e k (omega arith)

pub under_on : (m : Mark) (n i : ℕ) (values new : List (Option ℤ)) (v : Option ℤ) (bytes after : List ℕ) (total : Held) → i < n → (m.quality.flag ≡ variable → ⊥) → value_at m.quality.flag bytes ≡ Some (v, after) → new ≡ values ++ v ∷ [] → AreUnder m n i values bytes total → AreUnder m n (i + 1) new after total
under_on m n i values new v bytes after total lt other e is u =
    let j = value_joins m bytes after v other e in
    let front : map (held_by m) values ++ held_by m v ∷ [] ≡ map (held_by m) new = sym (ap (map (held_by m)) is ∙ map-append (held_by m) values (v ∷ [])) in
    record {
      read = ap (λ l. with_front l (readings_at (replicate (n - (i + 1)) (Some m)) after)) (sym front) ∙ held_on (map (held_by m) values) n i m bytes after v (reading_by m v) total lt e j.0 u.read;
      together = subst (AllGo m) (sym is) (all_on m values v u.together j.1);
    }

pub under_none : (m : Mark) (n i : ℕ) (values : List (Option ℤ)) (bytes : List ℕ) (total : Held) → i < n → value_at m.quality.flag bytes ≡ None → AreUnder m n i values bytes total → None ≡ total
under_none m n i values bytes total lt e u = held_no_value (map (held_by m) values) n i m bytes total lt e u.read

pub under_done : (m : Mark) (n i : ℕ) (values : List (Option ℤ)) (bytes : List ℕ) (total : Held) → n ≤ i → AreUnder m n i values bytes total → Some (map (held_by m) values, bytes) ≡ total
under_done m n i values bytes total le u = held_done (map (held_by m) values) n i m bytes total le u.read

-- ---- the readings of a run

pub values_length : (m : Mark) (n : ℕ) (values : List (Option ℤ)) (bytes rest : List ℕ) → readings_at (replicate n (Some m)) bytes ≡ Some (map (held_by m) values, rest) → length values ≡ n
values_length m n values bytes rest read =
    sym (length-map values (held_by m)) ∙ readings_length (replicate n (Some m)) bytes (map (held_by m) values, rest) read ∙ length-replicate n (Some m)

pub run_read : (run : Run) (last first : ℕ) (values : List (Option ℤ)) (bytes rest : List ℕ) → last ≡ run.last → first ≡ run.first → readings_at (replicate (last + 1 - first) (Some run.mark)) bytes ≡ Some (map (held_by run.mark) values, rest) → readings_at (replicate (run.last + 1 - run.first) (Some run.mark)) bytes ≡ Some (map (held_by run.mark) values, rest)
run_read run last first values bytes rest l f read =
    let n : last + 1 - first ≡ run.last + 1 - run.first = omega arith in
    ap (λ k. readings_at (replicate k (Some run.mark)) bytes) (sym n) ∙ read

held_values : (m : Mark) (values : List (Option ℤ)) → held (map (reading_by m) values) ≡ map (held_by m) values
held_values m [] = refl
held_values m (v ∷ values) = ap (λ l. held_by m v ∷ l) (held_values m values)

pub put_behind : (m : Mark) (old new : List ReadingValue) (values : List (Option ℤ)) (rest : List ℕ) (read : Held) → read ≡ Some (map (held_by m) values, rest) → new ≡ old ++ map (reading_by m) values → Some (held new, rest) ≡ with_front (held old) read
put_behind m old new values rest read e is =
    let all : held new ≡ held old ++ map (held_by m) values = ap held is ∙ map-append (λ (r : ReadingValue). Some r) old (map (reading_by m) values) ∙ ap (λ l. held old ++ l) (held_values m values) in
    ap (λ (l : List (Option ReadingValue)). Some (l, rest)) all ∙ sym (ap (with_front (held old)) e)

-- ---- the readings of several runs

no_gap : (front readings : List ReadingValue) (more : List (Option ReadingValue)) → held front ++ None ∷ more ≡ held readings → ⊥
no_gap [] [] more e = cc
no_gap [] (r ∷ readings) more e = cc
no_gap (x ∷ front) [] more e = cc
no_gap (x ∷ front) (r ∷ readings) more e = no_gap front readings more (ap (drop 1) e)

-- where a gap comes next, no readings are all that is read
gap_next : (front : List ReadingValue) (n : ℕ) (marks : List (Option Mark)) (bytes : List ℕ) (total : Held) → 0 < n → with_front (held front) (readings_at (replicate n None ++ marks) bytes) ≡ total → ReadsWhole total None
gap_next front zero marks bytes total some so_far = absurd (omega arith)
gap_next front (suc n) marks bytes total some so_far = λ readings rest e. stop readings rest (readings_at (replicate n None ++ marks) bytes) (so_far ∙ e)
  where
    stop : (readings : List ReadingValue) (rest : List ℕ) (read : Held) → with_front (held front) (read >>= λ y. Some (None ∷ y.0, y.1)) ≡ Some (held readings, rest) → ⊥
    stop readings rest None f = cc
    stop readings rest (Some x) f = no_gap front readings x.0 (ap (λ (y : List (Option ReadingValue) × List ℕ). y.0) (some_is (held front ++ None ∷ x.0, x.1) (held readings, rest) f))

-- readings were read, and the runs that are left lie behind them
pub record AreOver (count : ℕ) (readings : List ReadingValue) (runs : List Run) (bytes : List ℕ) (total : Held) : Type 0 where
  pub behind : Behind count (length (held readings)) runs
  pub read : Left (held readings) count runs bytes total

pub over_begun : (count : ℕ) (readings : List ReadingValue) (runs : List Run) (bytes : List ℕ) → readings ≡ [] → are_parted count None runs ≡ true → AreOver count readings (drop 0 runs) bytes (readings_at (marks_after count 0 runs) bytes)
over_begun count [] runs bytes e parted = record { behind = record { last = None; ends = refl; parted = parted }; read = with_front-none (readings_at (marks_after count 0 runs) bytes) }
over_begun count (r ∷ readings) runs bytes e parted = absurd cc

-- the next run
next_run : (count : ℕ) (readings : List ReadingValue) (runs : List Run) (k : ℕ) (run : Run) (bytes : List ℕ) (total : Held) → k < length runs → run ≡ get_or runs k run → AreOver count readings (drop k runs) bytes total → AreOver count readings (run ∷ drop (k + 1) runs) bytes total
next_run count readings runs k run bytes total lt is o = subst (λ (l : List Run). AreOver count readings l bytes total) (left_is runs k run lt is) o

pub run_within : (count : ℕ) (readings : List ReadingValue) (runs : List Run) (k : ℕ) (run : Run) (bytes : List ℕ) (total : Held) → k < length runs → run ≡ get_or runs k run → AreOver count readings (drop k runs) bytes total → (length readings < run.first) × (run.first ≤ run.last) × (run.last ≤ count)
run_within count readings runs k run bytes total lt is o =
    let b = Behind-facts count (length (held readings)) run (drop (k + 1) runs) (next_run count readings runs k run bytes total lt is o).behind in
    (omega (arith, b.0, held-length readings), b.1, b.2)

no_places : (readings : List ReadingValue) (n : ℕ) → n ≡ 0 → held readings ≡ held readings ++ replicate n None
no_places readings n e = sym (ap (λ m. held readings ++ replicate m None) e ∙ append-nil (held readings))

pub over_on : (count : ℕ) (readings new : List ReadingValue) (runs : List Run) (k : ℕ) (run : Run) (bytes after : List ℕ) (total : Held) → k < length runs → run ≡ get_or runs k run → AreOver count readings (drop k runs) bytes total → run.first ≡ length readings + 1 → with_front (held readings) (readings_at (replicate (run.last + 1 - run.first) (Some run.mark)) bytes) ≡ Some (held new, after) → AreOver count new (drop (k + 1) runs) after total
over_on count readings new runs k run bytes after total lt is o next read =
    let none : run.first - 1 - length (held readings) ≡ 0 = omega (arith, next, held-length readings) in
    let both = turn (held readings) (held readings) (held new) count runs k run bytes after total lt is o.behind o.read (no_places readings _ none) read in
    record { behind = both.0; read = both.1 }

none_reads : (total : Held) → None ≡ total → ReadsWhole total None
none_reads None e = λ others rest f. cc
none_reads (Some x) e = absurd cc

pub over_unread : (count : ℕ) (readings : List ReadingValue) (runs : List Run) (k : ℕ) (run : Run) (bytes : List ℕ) (total : Held) → k < length runs → run ≡ get_or runs k run → AreOver count readings (drop k runs) bytes total → run.first ≡ length readings + 1 → with_front (held readings) (readings_at (replicate (run.last + 1 - run.first) (Some run.mark)) bytes) ≡ None → ReadsWhole total None
over_unread count readings runs k run bytes total lt is o next read =
    let none : run.first - 1 - length (held readings) ≡ 0 = omega (arith, next, held-length readings) in
    none_reads total (turn_ends (held readings) (held readings) count runs k run bytes total lt is o.read (no_places readings _ none) read)

-- a gap before the next run
pub over_gap : (count : ℕ) (readings : List ReadingValue) (runs : List Run) (k : ℕ) (run : Run) (bytes : List ℕ) (total : Held) → k < length runs → run ≡ get_or runs k run → AreOver count readings (drop k runs) bytes total → (run.first ≡ length readings + 1 → ⊥) → ReadsWhole total None
over_gap count readings runs k run bytes total lt is o other =
    let within = run_within count readings runs k run bytes total lt is o in
    let n = run.first - 1 - length (held readings) in
    let some : 0 < n = elim (cases_lt (length readings + 1) run.first) [
      | inl more ↦ omega (arith, more, held-length readings)
      | inr le ↦ absurd (other (omega (arith, le, within.0)))
    ] in
    let own = replicate (run.last + 1 - run.first) (Some run.mark) in
    let later = marks_after count run.last (drop (k + 1) runs) in
    let so_far = (next_run count readings runs k run bytes total lt is o).read in
    gap_next readings n (own ++ later) bytes total some (ap (λ ms. with_front (held readings) (readings_at ms bytes)) (sym (append_assoc (replicate n None) own later)) ∙ so_far)

-- a gap behind the last run
pub over_short : (count : ℕ) (readings : List ReadingValue) (runs : List Run) (k : ℕ) (bytes : List ℕ) (total : Held) → length runs ≤ k → AreOver count readings (drop k runs) bytes total → length readings < count → ReadsWhole total None
over_short count readings runs k bytes total le o lt =
    let n = count - length (held readings) in
    let some : 0 < n = omega (arith, lt, held-length readings) in
    let so_far : Left (held readings) count [] bytes total = subst (λ (l : List Run). Left (held readings) count l bytes total) (drop_all k runs le) o.read in
    gap_next readings n [] bytes total some (ap (λ ms. with_front (held readings) (readings_at ms bytes)) (append-nil (replicate n None)) ∙ so_far)

pub over_done : (count : ℕ) (readings : List ReadingValue) (runs : List Run) (k : ℕ) (bytes : List ℕ) (total : Held) → length runs ≤ k → AreOver count readings (drop k runs) bytes total → count ≤ length readings → total ≡ Some (held readings, bytes)
over_done count readings runs k bytes total le o all =
    let none : count - length (held readings) ≡ 0 = omega (arith, all, held-length readings) in
    sym (last_turn (held readings) (held readings) count runs k bytes total le o.read (no_places readings _ none))

-- ---- all of it

pub whole_no_head : (count : ℕ) (bytes : List ℕ) → head_at count bytes ≡ None → (readings : List ReadingValue) → unpacked count bytes ≡ Some (held readings) → ⊥
unfolding unpacked
whole_no_head count bytes none readings e = let f : None ≡ Some (held readings) = sym (none_from (head_at count bytes) (q1 count) none) ∙ e in cc

pub whole_unread : (count : ℕ) (bytes rest : List ℕ) (runs : List Run) → head_at count bytes ≡ Some (runs, rest) → ReadsWhole (readings_at (marks_after count 0 runs) rest) None → (readings : List ReadingValue) → unpacked count bytes ≡ Some (held readings) → ⊥
unfolding unpacked
whole_unread count bytes rest runs head never readings e =
    let a = bind_some (readings_at (marks_after count 0 runs) rest) q2 (held readings) (sym (step (head_at count bytes) (q1 count) (runs, rest) head) ∙ e) in
    let g = passed_some (nat_eq (length a.0.1) 0) a.0.0 (held readings) a.2 in
    never readings a.0.1 (a.1 ∙ ap (λ (l : List (Option ReadingValue)). Some (l, a.0.1)) g.1)

whole_so_far : (count : ℕ) (bytes rest left : List ℕ) (runs : List Run) (readings : List ReadingValue) → head_at count bytes ≡ Some (runs, rest) → readings_at (marks_after count 0 runs) rest ≡ Some (held readings, left) → unpacked count bytes ≡ q2 (held readings, left)
unfolding unpacked
whole_so_far count bytes rest left runs readings head read =
    step (head_at count bytes) (q1 count) (runs, rest) head ∙ step (readings_at (marks_after count 0 runs) rest) q2 (held readings, left) read

pub whole_left : (count : ℕ) (bytes rest left : List ℕ) (runs : List Run) (readings : List ReadingValue) → head_at count bytes ≡ Some (runs, rest) → readings_at (marks_after count 0 runs) rest ≡ Some (held readings, left) → false ≡ nat_eq (length left) 0 → (others : List ReadingValue) → unpacked count bytes ≡ Some (held others) → ⊥
whole_left count bytes rest left runs readings head read some others e =
    let g = passed_some (nat_eq (length left) 0) (held readings) (held others) (sym (whole_so_far count bytes rest left runs readings head read) ∙ e) in
    let both : false ≡ true = some ∙ g.0 in
    cc

pub whole_read : (count : ℕ) (bytes rest left : List ℕ) (runs : List Run) (readings : List ReadingValue) → head_at count bytes ≡ Some (runs, rest) → readings_at (marks_after count 0 runs) rest ≡ Some (held readings, left) → true ≡ nat_eq (length left) 0 → unpacked count bytes ≡ Some (held readings)
whole_read count bytes rest left runs readings head read none =
    whole_so_far count bytes rest left runs readings head read ∙ ap (λ b. cond b (Some (held readings)) None) (sym none)
