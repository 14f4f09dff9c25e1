-- A body has as many bytes of values as its runs say.
use Rattle.std.proofs.Common.{◌≡◌, ℕ, ℤ, zero, suc, ◌+◌, ◌-◌, ◌*◌, ◌≤◌, ◌<◌, Bool, true, false, cond, not, ◌&&◌, nat_eq, nat_lt, List, [], ◌∷◌, ◌++◌, length, drop, take, replicate, Option, Some, None, refl, sym, ap, ◌∙◌, arith}
use Rattle.std.specs.Int.{w16, w64, cast_signed, from_be_bytes}
use Rattle.std.proofs.lemmas.Bool.{eqb-true, eq-eqb}
use Rattle.std.proofs.lemmas.List.{length-drop}
use Rattle.mds_marks.specs.Quality.{null}
use Rattle.mds_marks.specs.Mark.{is_mark}
use Rattle.mds_marks.specs.Reading.{ReadingValue, joined}
use Rattle.mds_marks.specs.declared.mark.Mark.{Mark}
use Rattle.mds_runs.specs.declared.cover.Run.{Run}
use Rattle.mds_runs.specs.GapSteps.{marks_after, are_parted}
use Rattle.mds_packs.specs.Sizes.{parts_size, sizes_at, values_size}
use Rattle.mds_packs.specs.Unpacked.{◌>>=◌, PartsValue, byte_at, head_at, mark_said, number_at, parts_at, reading_at, readings_at, run_in, runs_at, unpacked, value_at}
use Rattle.mds_packs.proofs.Fields.{bind_some, guard_some, passed_some, some_is, step}
use Rattle.mds_packs.proofs.Loops.{g1, g2}
use Rattle.mds_packs.proofs.Values.{small, v1}
use Rattle.mds_packs.proofs.Whole.{q1, q2}

-- ---- the loop over the runs

abbrev Sizes : Type 0
Sizes = Option (ℕ × List ℕ)

-- so many bytes more
abbrev pub with_size : ℕ → Sizes → Sizes
with_size size read = read >>= λ x. Some (size + x.0, x.1)

abbrev s1 : ℕ → PartsValue × List ℕ → Sizes
s1 n parts = sizes_at n parts.1 >>= λ others. Some (parts_size parts.0 + others.0, others.1)

pub sizes_begun : (read : Sizes) → with_size 0 read ≡ read
sizes_begun None = refl
sizes_begun (Some x) = let sum : 0 + x.0 ≡ x.0 = omega arith in ap (λ m. Some (m, x.1)) sum

pub sizes_on : (size count i : ℕ) (bytes after : List ℕ) (p : PartsValue) (total : Sizes) → i < count → parts_at bytes ≡ Some (p, after)
    → with_size size (sizes_at (count - i) bytes) ≡ total → with_size (size + parts_size p) (sizes_at (count - (i + 1)) after) ≡ total
sizes_on size count i bytes after p total lt e so_far =
    let k : count - i ≡ suc (count - (i + 1)) = omega arith in
    let n = count - (i + 1) in
    same (sizes_at n after)
    ∙ sym (ap (with_size size) (ap (λ j. sizes_at j bytes) k ∙ step (parts_at bytes) (s1 n) (p, after) e)) ∙ so_far
  where
    same : (read : Sizes) → with_size (size + parts_size p) read ≡ with_size size (read >>= λ others. Some (parts_size p + others.0, others.1))
    same None = refl
    same (Some x) =
        let sum : size + parts_size p + x.0 ≡ size + (parts_size p + x.0) = omega arith in
        ap (λ m. Some (m, x.1)) sum

pub sizes_no_parts : (size count i : ℕ) (bytes : List ℕ) (total : Sizes) → i < count → parts_at bytes ≡ None
    → with_size size (sizes_at (count - i) bytes) ≡ total → None ≡ total
sizes_no_parts size count i bytes total lt e so_far =
    let k : count - i ≡ suc (count - (i + 1)) = omega arith in
    let n = count - (i + 1) in
    sym (ap (λ o. with_size size (o >>= s1 n)) e) ∙ sym (ap (with_size size) (ap (λ j. sizes_at j bytes) k)) ∙ so_far

pub sizes_done : (size count i : ℕ) (bytes : List ℕ) (total : Sizes) → count ≤ i → with_size size (sizes_at (count - i) bytes) ≡ total
    → Some (size, bytes) ≡ total
sizes_done size count i bytes total le so_far =
    let k : count - i ≡ 0 = omega arith in
    let sum : size ≡ size + 0 = omega arith in
    ap (λ m. Some (m, bytes)) sum ∙ sym (ap (with_size size) (ap (λ j. sizes_at j bytes) k)) ∙ so_far

-- ---- what runs say

mark_size : Mark → ℕ
mark_size m = cond (nat_eq m.quality.flag null) 0 8

run_size : Run → ℕ
run_size run = cond (nat_eq run.mark.quality.flag null) 0 (8 * (run.last + 1 - run.first))

runs_size : List Run → ℕ
runs_size [] = 0
runs_size (run ∷ runs) = run_size run + runs_size runs

runs_sized : (n : ℕ) (bytes : List ℕ) (x : List Run × List ℕ) → runs_at n bytes ≡ Some x → sizes_at n bytes ≡ Some (runs_size x.0, x.1)
unfolding runs_at run_in runs_size run_size
runs_sized zero bytes x e = ap (λ (y : List Run × List ℕ). Some (runs_size y.0, y.1)) (some_is ([], bytes) x e)
runs_sized (suc n) bytes x e =
    let a = bind_some (parts_at bytes) (λ parts. run_in parts.0 >>= λ run. runs_at n parts.1 >>= λ others. Some (run ∷ others.0, others.1)) x e in
    let b = bind_some (run_in a.0.0) (λ run. runs_at n a.0.1 >>= λ others. Some (run ∷ others.0, others.1)) x a.2 in
    let c = bind_some (runs_at n a.0.1) (λ others. Some (b.0 ∷ others.0, others.1)) x b.2 in
    let made = passed_some (is_mark (mark_said a.0.0)) (record { first = a.0.0.first; last = a.0.0.last; mark = mark_said a.0.0 }) b.0 b.1 in
    let size : parts_size a.0.0 ≡ run_size b.0 = ap run_size made.1 in
    step (parts_at bytes) (s1 n) a.0 a.1
    ∙ step (sizes_at n a.0.1) (λ others. Some (parts_size a.0.0 + others.0, others.1)) (runs_size c.0.0, c.0.1) (runs_sized n a.0.1 c.0 c.1)
    ∙ ap (λ m. Some (m + runs_size c.0.0, c.0.1)) size
    ∙ ap (λ (y : List Run × List ℕ). Some (runs_size y.0, y.1)) (some_is (b.0 ∷ c.0.0, c.0.1) x c.2)

-- ---- how many bytes are read

number_size : (bytes : List ℕ) (x : ℕ × List ℕ) → number_at w64 bytes ≡ Some x → length bytes ≡ 8 + length x.1
number_size bytes x e =
    let g = guard_some (nat_lt (length bytes) 8) (from_be_bytes w64 (take 8 bytes), drop 8 bytes) x e in
    let long = not_less (length bytes) 8 g.0 in
    let left = length-drop 8 bytes in
    omega (arith, long, left, ap (λ (y : ℕ × List ℕ). length y.1) g.1)
  where
    not_less : (a b : ℕ) → nat_lt a b ≡ false → b ≤ a
    not_less a b e = grind arith

value_size : (flag : ℕ) (bytes : List ℕ) (x : Option ℤ × List ℕ) → value_at flag bytes ≡ Some x → length bytes ≡ cond (nat_eq flag null) 0 8 + length x.1
unfolding value_at
value_size flag bytes x e = elim (nat_eq flag null) as (λ b. cond b (Some (None, bytes)) (number_at w64 bytes >>= v1) ≡ Some x → length bytes ≡ cond b 0 8 + length x.1) [
  | true ↦ λ f. let none : length x.1 ≡ 0 + length x.1 = omega arith in ap (λ (y : Option ℤ × List ℕ). length y.1) (some_is (None, bytes) x f) ∙ none
  | false ↦ λ f.
      let a = bind_some (number_at w64 bytes) v1 x f in
      let g = passed_some (small a.0.0) (Some (cast_signed w64 a.0.0), a.0.1) x a.2 in
      number_size bytes a.0 a.1 ∙ ap (λ (y : Option ℤ × List ℕ). 8 + length y.1) g.1
] e

reading_size : (m : Mark) (bytes : List ℕ) (x : ReadingValue × List ℕ) → reading_at m bytes ≡ Some x → length bytes ≡ mark_size m + length x.1
unfolding reading_at mark_size
reading_size m bytes x e =
    let a = bind_some (value_at m.quality.flag bytes) (g1 m) x e in
    let b = bind_some (joined m a.0.0) (λ r. Some (r, a.0.1)) x a.2 in
    value_size m.quality.flag bytes a.0 a.1 ∙ ap (λ (y : ReadingValue × List ℕ). mark_size m + length y.1) (some_is (b.0, a.0.1) x b.2)

marks_size : List (Option Mark) → ℕ
marks_size [] = 0
marks_size (None ∷ marks) = marks_size marks
marks_size (Some m ∷ marks) = mark_size m + marks_size marks

readings_size : (marks : List (Option Mark)) (bytes : List ℕ) (x : List (Option ReadingValue) × List ℕ) → readings_at marks bytes ≡ Some x
    → length bytes ≡ marks_size marks + length x.1
unfolding marks_size
readings_size [] bytes x e =
    let none : length x.1 ≡ 0 + length x.1 = omega arith in
    ap (λ (y : List (Option ReadingValue) × List ℕ). length y.1) (some_is ([], bytes) x e) ∙ none
readings_size (None ∷ marks) bytes x e =
    let a = bind_some (readings_at marks bytes) (λ y. Some (None ∷ y.0, y.1)) x e in
    readings_size marks bytes a.0 a.1 ∙ ap (λ (y : List (Option ReadingValue) × List ℕ). marks_size marks + length y.1) (some_is (None ∷ a.0.0, a.0.1) x a.2)
readings_size (Some m ∷ marks) bytes x e =
    let a = bind_some (reading_at m bytes) (g2 marks) x e in
    let b = bind_some (readings_at marks a.0.1) (λ y. Some (Some a.0.0 ∷ y.0, y.1)) x a.2 in
    let own = reading_size m bytes a.0 a.1 in
    let later = readings_size marks a.0.1 b.0 b.1 in
    let left = ap (λ (y : List (Option ReadingValue) × List ℕ). length y.1) (some_is (Some a.0.0 ∷ b.0.0, b.0.1) x b.2) in
    let both : marks_size (Some m ∷ marks) ≡ mark_size m + marks_size marks = refl in
    omega (arith, own, later, left, both)

-- ---- the marks of runs

marks_both : (xs ys : List (Option Mark)) → marks_size (xs ++ ys) ≡ marks_size xs + marks_size ys
unfolding marks_size
marks_both [] ys = let none : marks_size ys ≡ 0 + marks_size ys = omega arith in none
marks_both (None ∷ xs) ys = marks_both xs ys
marks_both (Some m ∷ xs) ys =
    let sum : mark_size m + (marks_size xs + marks_size ys) ≡ mark_size m + marks_size xs + marks_size ys = omega arith in
    ap (λ n. mark_size m + n) (marks_both xs ys) ∙ sum

marks_none : (n : ℕ) → marks_size (replicate n None) ≡ 0
unfolding marks_size
marks_none zero = refl
marks_none (suc n) = marks_none n

marks_same : (n : ℕ) (m : Mark) → marks_size (replicate n (Some m)) ≡ cond (nat_eq m.quality.flag null) 0 (8 * n)
unfolding marks_size mark_size
marks_same zero m = none (nat_eq m.quality.flag null) where
  none : (b : Bool) → 0 ≡ cond b 0 (8 * 0)
  none true = refl
  none false = refl
marks_same (suc n) m = ap (λ k. mark_size m + k) (marks_same n m) ∙ one (nat_eq m.quality.flag null) where
  one : (b : Bool) → cond b 0 8 + cond b 0 (8 * n) ≡ cond b 0 (8 * suc n)
  one true = refl
  one false = omega arith

marks_of_runs : (count place : ℕ) (runs : List Run) → marks_size (marks_after count place runs) ≡ runs_size runs
unfolding runs_size run_size
marks_of_runs count place [] = marks_none (count - place)
marks_of_runs count place (run ∷ runs) =
    let gap = replicate (run.first - 1 - place) None in
    let own = replicate (run.last + 1 - run.first) (Some run.mark) in
    let later = marks_of_runs count run.last runs in
    let all = marks_both (gap ++ own) (marks_after count run.last runs) in
    let front = marks_both gap own in
    let no = marks_none (run.first - 1 - place) in
    let here : marks_size own ≡ run_size run = marks_same (run.last + 1 - run.first) run.mark in
    let sum : marks_size (gap ++ own) + marks_size (marks_after count run.last runs) ≡ run_size run + runs_size runs =
    omega (arith, later, front, no, here) in
    all ∙ sum

-- ---- a whole body

abbrev t4 : ℕ × List ℕ → Option ℕ
t4 x = cond (nat_eq (length x.1) x.0) (Some x.0) None

abbrev t3 : ℕ → ℕ → ℕ → ℕ × List ℕ → Option ℕ
t3 count version places n = cond (not (nat_eq version 1 && nat_eq places count && nat_lt 0 n.0)) None (sizes_at n.0 n.1 >>= t4)

abbrev t2 : ℕ → ℕ → ℕ × List ℕ → Option ℕ
t2 count version x = number_at w16 x.1 >>= t3 count version x.0

abbrev t1 : ℕ → ℕ × List ℕ → Option ℕ
t1 count x = number_at w16 x.1 >>= t2 count x.0

abbrev p4 : ℕ → List Run × List ℕ → Option (List Run × List ℕ)
p4 count x = cond (are_parted count None x.0) (Some x) None

abbrev p3 : ℕ → ℕ → ℕ → ℕ × List ℕ → Option (List Run × List ℕ)
p3 count version places n = cond (not (nat_eq version 1 && nat_eq places count && nat_lt 0 n.0)) None (runs_at n.0 n.1 >>= p4 count)

abbrev p2 : ℕ → ℕ → ℕ × List ℕ → Option (List Run × List ℕ)
p2 count version x = number_at w16 x.1 >>= p3 count version x.0

abbrev p1 : ℕ → ℕ × List ℕ → Option (List Run × List ℕ)
p1 count x = number_at w16 x.1 >>= p2 count x.0

passed_on : {A : Type 0} (b : Bool) (r : Option A) (y : A) → cond (not b) None r ≡ Some y → (b ≡ true) × (r ≡ Some y)
passed_on true r y e = (refl, e)
passed_on false r y e = absurd cc

head_sized : (count : ℕ) (bytes : List ℕ) (x : List Run × List ℕ) → head_at count bytes ≡ Some x → length x.1 ≡ runs_size x.0
    → values_size count bytes ≡ Some (runs_size x.0)
unfolding head_at values_size
head_sized count bytes x e size =
    let a = bind_some (byte_at bytes) (p1 count) x e in
    let b = bind_some (number_at w16 a.0.1) (p2 count a.0.0) x a.2 in
    let c = bind_some (number_at w16 b.0.1) (p3 count a.0.0 b.0.0) x b.2 in
    let d = passed_on (nat_eq a.0.0 1 && nat_eq b.0.0 count && nat_lt 0 c.0.0) (runs_at c.0.0 c.0.1 >>= p4 count) x c.2 in
    let f = bind_some (runs_at c.0.0 c.0.1) (p4 count) x d.1 in
    let g = passed_some (are_parted count None f.0.0) f.0 x f.2 in
    let sized : sizes_at c.0.0 c.0.1 ≡ Some (runs_size x.0, x.1) = runs_sized c.0.0 c.0.1 x (f.1 ∙ ap (λ (y : List Run × List ℕ). Some y) g.1) in
    step (byte_at bytes) (t1 count) a.0 a.1
    ∙ step (number_at w16 a.0.1) (t2 count a.0.0) b.0 b.1
    ∙ step (number_at w16 b.0.1) (t3 count a.0.0 b.0.0) c.0 c.1
    ∙ ap (λ t. cond (not t) None (sizes_at c.0.0 c.0.1 >>= t4)) d.0
    ∙ step (sizes_at c.0.0 c.0.1) t4 (runs_size x.0, x.1) sized
    ∙ ap (λ t. cond t (Some (runs_size x.0)) None) (eq-eqb (length x.1) (runs_size x.0) size)

-- a body has the size that its runs say
sized : (count : ℕ) (bytes : List ℕ) (readings : List (Option ReadingValue)) → unpacked count bytes ≡ Some readings
    → (size : ℕ) × (values_size count bytes ≡ Some size)
unfolding unpacked
sized count bytes readings e =
    let a = bind_some (head_at count bytes) (q1 count) readings e in
    let b = bind_some (readings_at (marks_after count 0 a.0.0) a.0.1) q2 readings a.2 in
    let c = passed_some (nat_eq (length b.0.1) 0) b.0.0 readings b.2 in
    let none : length b.0.1 ≡ 0 = eqb-true (length b.0.1) 0 c.0 in
    let read = readings_size (marks_after count 0 a.0.0) a.0.1 b.0 b.1 in
    let said = marks_of_runs count 0 a.0.0 in
    (runs_size a.0.0, head_sized count bytes a.0 a.1 (omega (arith, none, read, said)))

-- bytes of another size are no body
pub unsized : (count : ℕ) (bytes : List ℕ) → values_size count bytes ≡ None → None ≡ unpacked count bytes
unsized count bytes e = at (unpacked count bytes) refl where
  at : (o : Option (List (Option ReadingValue))) → unpacked count bytes ≡ o → None ≡ o
  at None f = refl
  at (Some readings) f =
      let it = sized count bytes readings f in
      absurd (let no = sym e ∙ it.1 in cc)
