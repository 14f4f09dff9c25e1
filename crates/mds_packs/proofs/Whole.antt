-- A body as a whole, both ways.
use Rattle.std.proofs.Common.{◌≡◌, ◌≢◌, ℕ, zero, suc, ◌+◌, ◌-◌, ◌^◌, ◌<◌, ◌≤◌, Bool, true, false, cond, not, ◌&&◌, nat_eq, nat_lt, List, [], ◌∷◌, ◌++◌, length, replicate, Option, Some, None, refl, sym, ap, subst, ◌∙◌, length-append, arith}
use Rattle.std.specs.List.{flat_map, list_all, list_any, AllByRecursion}
use Rattle.std.specs.Int.{w16}
use Rattle.std.specs.Prelude.{IfOk, IfSome, Result, Ok, Err, option_map, is_some}
use Rattle.std.proofs.lemmas.Bool.{eqb-true, eq-eqb}
use Rattle.std.proofs.lemmas.List.{append-nil, nil_from_length, length-replicate}
use Rattle.mds_marks.specs.Mark.{is_mark}
use Rattle.mds_marks.specs.Reading.{ReadingValue, is_lawful}
use Rattle.mds_marks.specs.declared.mark.Mark.{Mark}
use Rattle.mds_runs.specs.declared.cover.Run.{Run}
use Rattle.mds_runs.specs.Gaps.{joined, goes_on, runs_of}
use Rattle.mds_runs.specs.GapSteps.{marks_after, end_of, are_parted}
use Rattle.mds_runs.proofs.GapRuns.{parted_facts, runs_back, marks_back, parted, first_touches}
use Rattle.mds_packs.specs.Body.{two, run_bytes, reading_bytes, marks_of, runs_in, body_of, is_held_lawful, IsDay}
use Rattle.mds_packs.specs.Unpacked.{◌>>=◌, number_at, byte_at, runs_at, readings_at, head_at, unpacked}
use Rattle.mds_packs.proofs.Fields.{IsBytes, bind_some, step, passed_some, Takes, Takes-then, two_takes, two_again, byte_takes}
use Rattle.mds_packs.proofs.RunBytes.{and_both, RunFits, runs_take, runs_again}
use Rattle.mds_packs.proofs.Values.{AreMarks, lawful_parts, readings_take, readings_again}

-- ---- the places that runs mark

abbrev absent : Option Mark
absent = None

pub marks_length : (readings : List (Option ReadingValue)) → length (marks_of readings) ≡ length readings
marks_length [] = refl
marks_length (r ∷ readings) = ap suc (marks_length readings)

pub length-marks_after : (count : ℕ) (last : Option Run) (runs : List Run) → are_parted count last runs ≡ true → end_of last ≤ count → length (marks_after count (end_of last) runs) + end_of last ≡ count
length-marks_after count last [] e le = let n : length (marks_after count (end_of last) []) ≡ count - end_of last = length-replicate (count - end_of last) absent in omega arith
length-marks_after count last (run ∷ runs) e le =
    let f = parted_facts count last run runs e in
    let later = length-marks_after count (Some run) runs f.4 f.2 in
    let gap = replicate (run.first - 1 - end_of last) absent in
    let own = replicate (run.last + 1 - run.first) (Some run.mark) in
    let rest = marks_after count run.last runs in
    let whole : length (marks_after count (end_of last) (run ∷ runs)) ≡ length (gap ++ own) + length rest = length-append (gap ++ own) rest in
    let front : length (gap ++ own) ≡ length gap + length own = length-append gap own in
    let m : length gap ≡ run.first - 1 - end_of last = length-replicate (run.first - 1 - end_of last) absent in
    let n : length own ≡ run.last + 1 - run.first = length-replicate (run.last + 1 - run.first) (Some run.mark) in
    omega (arith, whole, front, m, n, later, f.0, f.1)

AreMarks-append : (xs ys : List (Option Mark)) → AreMarks xs → AreMarks ys → AreMarks (xs ++ ys)
AreMarks-append [] ys h k = k
AreMarks-append (x ∷ xs) ys h k = (h.0, AreMarks-append xs ys h.1 k)

AreMarks-absent : (n : ℕ) → AreMarks (replicate n None)
AreMarks-absent zero = tt
AreMarks-absent (suc n) = (tt, AreMarks-absent n)

AreMarks-same : (n : ℕ) (m : Mark) → is_mark m ≡ true → AreMarks (replicate n (Some m))
AreMarks-same zero m e = tt
AreMarks-same (suc n) m e = (e, AreMarks-same n m e)

pub AreMarks-after : (count place : ℕ) (runs : List Run) → AllByRecursion (λ run. is_mark run.mark ≡ true) runs → AreMarks (marks_after count place runs)
AreMarks-after count place [] h = AreMarks-absent (count - place)
AreMarks-after count place (run ∷ runs) h =
    AreMarks-append (replicate (run.first - 1 - place) None ++ replicate (run.last + 1 - run.first) (Some run.mark)) (marks_after count run.last runs) (AreMarks-append (replicate (run.first - 1 - place) None) (replicate (run.last + 1 - run.first) (Some run.mark)) (AreMarks-absent _) (AreMarks-same _ run.mark h.0)) (AreMarks-after count run.last runs h.1)

-- ---- the marks of lawful readings' runs

abbrev HasMark : Run → Type 0
HasMark run = is_mark run.mark ≡ true

joined_marks : (place : ℕ) (m : Mark) (runs : List Run) → is_mark m ≡ true → AllByRecursion HasMark runs → AllByRecursion HasMark (joined place m runs)
joined_marks place m [] e h = (e, tt)
joined_marks place m (run ∷ runs) e h = elim (goes_on place m run) as (λ b. AllByRecursion HasMark (cond b (record { first = place; last = run.last; mark = m } ∷ runs) (record { first = place; last = place; mark = m } ∷ run ∷ runs))) [
  | true ↦ (e, h.1)
  | false ↦ (e, h)
]

pub runs_marks : (place : ℕ) (readings : List (Option ReadingValue)) → list_all is_held_lawful readings ≡ true → AllByRecursion HasMark (runs_of place (marks_of readings))
runs_marks place [] e = tt
runs_marks place (None ∷ readings) e = runs_marks (place + 1) readings (and_both true (list_all is_held_lawful readings) e).1
runs_marks place (Some r ∷ readings) e =
    let f = and_both (is_lawful r) (list_all is_held_lawful readings) e in
    joined_marks place r.mark (runs_of (place + 1) (marks_of readings)) (lawful_parts r f.0).0 (runs_marks (place + 1) readings f.1)

runs_fit : (count : ℕ) (last : Option Run) (runs : List Run) → count < 2 ^ 16 → are_parted count last runs ≡ true → AllByRecursion HasMark runs → AllByRecursion RunFits runs
runs_fit count last [] lt e h = tt
runs_fit count last (run ∷ runs) lt e h =
    let f = parted_facts count last run runs e in
    (record { first = omega (arith, f.1, f.2); last = omega (arith, f.2); mark = h.0 }, runs_fit count (Some run) runs lt f.4 h.1)

-- runs are no more than the places
pub length-runs : (count : ℕ) (last : Option Run) (runs : List Run) → are_parted count last runs ≡ true → end_of last ≤ count → length runs + end_of last ≤ count
length-runs count last [] e le = omega arith
length-runs count last (run ∷ runs) e le =
    let f = parted_facts count last run runs e in
    let later = length-runs count (Some run) runs f.4 f.2 in
    omega (arith, f.0, f.1)

pub runs_in_parted : (readings : List (Option ReadingValue)) → are_parted (length readings) None (runs_in readings) ≡ true
runs_in_parted readings =
    let n : 0 + length (marks_of readings) ≤ length readings = omega (arith, marks_length readings) in
    parted (length readings) 0 None (marks_of readings) n (omega arith) (none_touched (runs_in readings))
  where
    none_touched : (runs : List Run) → first_touches None runs ≡ false
    none_touched [] = refl
    none_touched (run ∷ runs) = refl

-- ---- readings have runs where one is held

joined_some : (place : ℕ) (m : Mark) (runs : List Run) → joined place m runs ≢ []
joined_some place m [] e = absurd cc
joined_some place m (run ∷ runs) e = two_cases (goes_on place m run) _ _ _ _ e
  where
    two_cases : (b : Bool) (x y : Run) (xs ys : List Run) → cond b (x ∷ xs) (y ∷ ys) ≡ [] → ⊥
    two_cases true x y xs ys e = cc
    two_cases false x y xs ys e = cc

abbrev pub any_held : List (Option ReadingValue) → Bool
any_held readings = list_any (λ reading. is_some reading) readings

runs_from_held : (place : ℕ) (readings : List (Option ReadingValue)) → any_held readings ≡ true → runs_of place (marks_of readings) ≢ []
runs_from_held place [] e = absurd cc
runs_from_held place (None ∷ readings) e = runs_from_held (place + 1) readings e
runs_from_held place (Some r ∷ readings) e = joined_some place r.mark (runs_of (place + 1) (marks_of readings))

held_from_runs : (place : ℕ) (readings : List (Option ReadingValue)) → runs_of place (marks_of readings) ≢ [] → any_held readings ≡ true
held_from_runs place [] some = absurd (some refl)
held_from_runs place (None ∷ readings) some = held_from_runs (place + 1) readings some
held_from_runs place (Some r ∷ readings) some = refl

-- ---- the head

abbrev p4 : ℕ → List Run × List ℕ → Option (List Run × List ℕ)
p4 count x = cond (are_parted count None x.0) (Some x) None

abbrev p3 : ℕ → ℕ → ℕ → ℕ × List ℕ → Option (List Run × List ℕ)
p3 count version places n = cond (not (nat_eq version 1 && nat_eq places count && nat_lt 0 n.0)) None (runs_at n.0 n.1 >>= p4 count)

abbrev p2 : ℕ → ℕ → ℕ × List ℕ → Option (List Run × List ℕ)
p2 count version x = number_at w16 x.1 >>= p3 count version x.0

abbrev p1 : ℕ → ℕ × List ℕ → Option (List Run × List ℕ)
p1 count x = number_at w16 x.1 >>= p2 count x.0

pub record TakesHead (count : ℕ) (bytes : List ℕ) (x : List Run × List ℕ) : Type 0 where
  pub takes : Takes bytes ((1 ∷ []) ++ (two count ++ (two (length x.0) ++ flat_map run_bytes x.0))) x.1
  pub some : 0 < length x.0
  pub parted : are_parted count None x.0 ≡ true
  pub marks : AllByRecursion HasMark x.0

head_made : (bytes rest runs : List ℕ) (v p n count m : ℕ) → v ≡ 1 → p ≡ count → m ≡ n → Takes bytes ((v ∷ []) ++ (two p ++ (two n ++ runs))) rest → Takes bytes ((1 ∷ []) ++ (two count ++ (two m ++ runs))) rest
head_made bytes rest runs v p n count m ev ep em t = rw (← ev, ← ep, em) t

passed_on : {A : Type 0} (b : Bool) (r : Option A) (y : A) → cond (not b) None r ≡ Some y → (b ≡ true) × (r ≡ Some y)
passed_on true r y e = (refl, e)
passed_on false r y e = absurd cc

pub head_takes : (count : ℕ) (bytes : List ℕ) (x : List Run × List ℕ) → IsBytes bytes → head_at count bytes ≡ Some x → TakesHead count bytes x
unfolding head_at
head_takes count bytes x fits e =
    let a = bind_some (byte_at bytes) (p1 count) x e in
    let b = bind_some (number_at w16 a.0.1) (p2 count a.0.0) x a.2 in
    let c = bind_some (number_at w16 b.0.1) (p3 count a.0.0 b.0.0) x b.2 in
    let d = passed_on (nat_eq a.0.0 1 && nat_eq b.0.0 count && nat_lt 0 c.0.0) (runs_at c.0.0 c.0.1 >>= p4 count) x c.2 in
    let f = bind_some (runs_at c.0.0 c.0.1) (p4 count) x d.1 in
    let g = passed_some (are_parted count None f.0.0) f.0 x f.2 in
    let tests = three (nat_eq a.0.0 1) (nat_eq b.0.0 count) (nat_lt 0 c.0.0) d.0 in
    let version : a.0.0 ≡ 1 = eqb-true a.0.0 1 tests.0 in
    let places : b.0.0 ≡ count = eqb-true b.0.0 count tests.1 in
    let number : 0 < c.0.0 = lt_from 0 c.0.0 tests.2 in
    let t0 = byte_takes bytes a.0 fits a.1 in
    let t1 = two_takes a.0.1 b.0 t0.rest_fits b.1 in
    let t2 = two_takes b.0.1 c.0 t1.0.rest_fits c.1 in
    let t3 = runs_take c.0.0 c.0.1 f.0 t2.0.rest_fits f.1 in
    let e2 = Takes-then b.0.1 (two c.0.0) c.0.1 (flat_map run_bytes f.0.0) f.0.1 t2.0 t3.0 in
    let e1 = Takes-then a.0.1 (two b.0.0) b.0.1 (two c.0.0 ++ flat_map run_bytes f.0.0) f.0.1 t1.0 e2 in
    let e0 = Takes-then bytes (a.0.0 ∷ []) a.0.1 (two b.0.0 ++ (two c.0.0 ++ flat_map run_bytes f.0.0)) f.0.1 t0 e1 in
    let takes = head_made bytes f.0.1 (flat_map run_bytes f.0.0) a.0.0 b.0.0 c.0.0 count (length f.0.0) version places t3.1 e0 in
    subst (TakesHead count bytes) g.1 (record { takes = takes; some = omega (arith, number, t3.1); parted = g.0; marks = t3.2 })
  where
    three : (a b c : Bool) → (a && b && c) ≡ true → (a ≡ true) × (b ≡ true) × (c ≡ true)
    three true true c e = (refl, refl, e)
    three true false c e = absurd cc
    three false b c e = absurd cc

    lt_from : (a b : ℕ) → nat_lt a b ≡ true → a < b
    lt_from a b e = grind arith

head_again : (count : ℕ) (runs : List Run) (rest : List ℕ) → count < 2 ^ 16 → 0 < length runs → are_parted count None runs ≡ true → AllByRecursion HasMark runs → head_at count (1 ∷ (two count ++ (two (length runs) ++ (flat_map run_bytes runs ++ rest)))) ≡ Some (runs, rest)
unfolding head_at
head_again count runs rest lt some lawful marks =
    let tail = flat_map run_bytes runs ++ rest in
    let two_more = two (length runs) ++ tail in
    let few : length runs < 2 ^ 16 = omega (arith, length-runs count None runs lawful (omega arith)) in
    let same : nat_eq count count ≡ true = eq-eqb count count refl in
    let any : nat_lt 0 (length runs) ≡ true = lt_true 0 (length runs) some in
    let test : not (nat_eq 1 1 && nat_eq count count && nat_lt 0 (length runs)) ≡ false = rw (same, any) refl in
    step (number_at w16 (two count ++ two_more)) (p2 count 1) (count, two_more) (two_again count two_more lt)
    ∙ step (number_at w16 two_more) (p3 count 1 count) (length runs, tail) (two_again (length runs) tail few)
    ∙ ap (λ b. cond b None (runs_at (length runs) tail >>= p4 count)) test
    ∙ step (runs_at (length runs) tail) (p4 count) (runs, rest) (runs_again runs rest (runs_fit count None runs lt lawful marks))
    ∙ ap (λ b. cond b (Some (runs, rest)) None) lawful
  where
    lt_true : (a b : ℕ) → a < b → nat_lt a b ≡ true
    lt_true a b lt = grind arith

-- ---- all of it

abbrev pub q2 : List (Option ReadingValue) × List ℕ → Option (List (Option ReadingValue))
q2 x = cond (nat_eq (length x.1) 0) (Some x.0) None

abbrev pub q1 : ℕ → List Run × List ℕ → Option (List (Option ReadingValue))
q1 count head = readings_at (marks_after count 0 head.0) head.1 >>= q2

body_is : (count : ℕ) (readings : List (Option ReadingValue)) (runs : List Run) → length readings ≡ count → runs_in readings ≡ runs → body_of readings ≡ ((1 ∷ []) ++ (two count ++ (two (length runs) ++ flat_map run_bytes runs))) ++ flat_map reading_bytes readings
unfolding body_of
body_is count readings runs len is =
    ap (λ (n : ℕ). ((1 ∷ []) ++ (two n ++ (two (length (runs_in readings)) ++ flat_map run_bytes (runs_in readings)))) ++ flat_map reading_bytes readings) len
    ∙ ap (λ (rs : List Run). ((1 ∷ []) ++ (two count ++ (two (length rs) ++ flat_map run_bytes rs))) ++ flat_map reading_bytes readings) is

-- a list that is read from bytes is a day, and they are its body
pub readings_takes : (count : ℕ) (bytes : List ℕ) (readings : List (Option ReadingValue)) → IsBytes bytes → unpacked count bytes ≡ Some readings → IsDay count readings × (bytes ≡ body_of readings)
unfolding unpacked
readings_takes count bytes readings fits e =
    let a = bind_some (head_at count bytes) (q1 count) readings e in
    let runs = a.0.0 in
    let b = bind_some (readings_at (marks_after count 0 runs) a.0.1) q2 readings a.2 in
    let g = passed_some (nat_eq (length b.0.1) 0) b.0.0 readings b.2 in
    let head = head_takes count bytes a.0 fits a.1 in
    let values = readings_take (marks_after count 0 runs) a.0.1 b.0 head.takes.rest_fits (AreMarks-after count 0 runs head.marks) b.1 in
    let nothing : b.0.1 ≡ [] = nil_from_length b.0.1 (eqb-true _ _ g.0) in
    let front = (1 ∷ []) ++ (two count ++ (two (length runs) ++ flat_map run_bytes runs)) in
    let both = (Takes-then bytes front a.0.1 (flat_map reading_bytes b.0.0) b.0.1 head.takes values.0).parts in
    let is : runs_in b.0.0 ≡ runs = ap (runs_of 1) values.1 ∙ runs_back count None runs head.parted in
    let len : length b.0.0 ≡ count = sym (marks_length b.0.0) ∙ ap length values.1 ∙ omega (arith, length-marks_after count None runs head.parted (omega arith)) in
    let whole : bytes ≡ body_of b.0.0 = both ∙ ap (λ (r : List ℕ). (front ++ flat_map reading_bytes b.0.0) ++ r) nothing ∙ append-nil (front ++ flat_map reading_bytes b.0.0) ∙ sym (body_is count b.0.0 runs len is) in
    let day : IsDay count b.0.0 = record { places = len; lawful = values.2; held = held_from_runs 1 b.0.0 (λ none. some_run runs head.some (sym is ∙ none)) } in
    subst (λ (v : List (Option ReadingValue)). IsDay count v × (bytes ≡ body_of v)) g.1 (day, whole)
  where
    some_run : (runs : List Run) → 0 < length runs → runs ≡ [] → ⊥
    some_run [] some e = absurd (omega arith)
    some_run (run ∷ runs) some e = cc

-- the body of a day is read as that day
pub readings_again_all : (count : ℕ) (readings : List (Option ReadingValue)) → count < 2 ^ 16 → IsDay count readings → unpacked count (body_of readings) ≡ Some readings
unfolding unpacked
readings_again_all count readings lt day =
    let runs = runs_in readings in
    let len : length (marks_of readings) ≡ count = marks_length readings ∙ day.places in
    let P : ℕ → Type 0 = λ n. are_parted n None runs ≡ true in
    let lawful = subst P day.places (runs_in_parted readings) in
    let marks = runs_marks 1 readings day.lawful in
    let values = flat_map reading_bytes readings in
    let some : 0 < length runs = not_empty runs (runs_from_held 1 readings day.held) in
    let given : marks_after count 0 runs ≡ marks_of readings = marks_back count 0 (marks_of readings) (omega (arith, len)) in
    let bytes : body_of readings ≡ 1 ∷ (two count ++ (two (length runs) ++ (flat_map run_bytes runs ++ values))) = body_is count readings runs day.places refl in
    let no_more : values ≡ values ++ [] = sym (append-nil values) in
    ap (λ (b : List ℕ). head_at count b >>= q1 count) bytes
    ∙ step (head_at count (1 ∷ (two count ++ (two (length runs) ++ (flat_map run_bytes runs ++ values))))) (q1 count) (runs, values) (head_again count runs values lt some lawful marks)
    ∙ ap (λ (m : List (Option Mark)). readings_at m values >>= q2) given
    ∙ ap (λ (v : List ℕ). readings_at (marks_of readings) v >>= q2) no_more
    ∙ step (readings_at (marks_of readings) (values ++ [])) q2 (readings, []) (readings_again readings [] day.lawful)
  where
    not_empty : (runs : List Run) → runs ≢ [] → 0 < length runs
    not_empty [] some = absurd (some refl)
    not_empty (run ∷ runs) some = omega arith

-- ---- what a call gives

pub all_found : {V E : Type 0} (view : V → List (Option ReadingValue)) (count : ℕ) (bytes : List ℕ) (r : Result (Option V) E) → IsBytes bytes → IfOk r (λ o. option_map view o ≡ unpacked count bytes) → IfOk r (λ o. IfSome o (λ v. IsDay count (view v) × (bytes ≡ body_of (view v))))
all_found view count bytes (Ok (Some v)) fits e = readings_takes count bytes (view v) fits (sym e)
all_found view count bytes (Ok None) fits e = tt
all_found view count bytes (Err x) fits e = tt

pub all_read : {V E : Type 0} (view : V → List (Option ReadingValue)) (count : ℕ) (bytes : List ℕ) (r : Result (Option V) E) → count < 2 ^ 16 → IfOk r (λ o. option_map view o ≡ unpacked count bytes) → IfOk r (λ o. (readings : List (Option ReadingValue)) → IsDay count readings → bytes ≡ body_of readings → option_map view o ≡ Some readings)
all_read view count bytes (Ok o) lt e = λ readings day is. e ∙ ap (unpacked count) is ∙ readings_again_all count readings lt day
all_read view count bytes (Err x) lt e = tt
