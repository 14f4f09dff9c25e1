-- Runs and readings read one after the other, as loops do.
use Rattle.std.proofs.Common.{◌≡◌, ℕ, ℤ, zero, suc, ◌-◌, ◌+◌, ◌≤◌, ◌<◌, Bool, true, false, cond, List, [], ◌∷◌, ◌++◌, length, replicate, drop, get_or, Option, Some, None, refl, sym, ap, subst, ◌∙◌, append_assoc, length-append, arith}
use Rattle.std.proofs.lemmas.List.{append-nil, length-replicate, drop_all}
use Rattle.mds_marks.specs.Reading.{ReadingValue, joined, is_reading}
use Rattle.mds_marks.specs.declared.mark.Mark.{Mark}
use Rattle.mds_runs.specs.declared.cover.Run.{Run}
use Rattle.mds_runs.specs.GapSteps.{marks_after, end_of, are_parted}
use Rattle.mds_packs.specs.Unpacked.{◌>>=◌, PartsValue, parts_at, run_in, runs_at, value_at, reading_at, readings_at}
use Rattle.mds_packs.specs.LoopSteps.{with_front}
use Rattle.mds_runs.proofs.GapRuns.{parted_facts}
use Rattle.std.proofs.Math.Seq.{drop-cons}
use Rattle.mds_packs.proofs.Fields.{step, bind_some, some_is}

pub none_from : {A B : Type 0} (r : Option A) (f : A → Option B) → r ≡ None → (r >>= f) ≡ None
none_from r f e = ap (λ o. o >>= f) e

-- one more at the end of what was read before
push_front : {A : Type 0} (front : List A) (x : A) (read : Option (List A × List ℕ)) → with_front front (read >>= λ y. Some (x ∷ y.0, y.1)) ≡ with_front (front ++ x ∷ []) read
push_front front x None = refl
push_front front x (Some y) = ap (λ l. Some (l, y.1)) (sym (append_assoc front (x ∷ []) y.0))

abbrev Read : Type 0
Read = Option (List Run × List ℕ)

abbrev r2 : ℕ → List ℕ → Run → Read
r2 n rest run = runs_at n rest >>= λ x. Some (run ∷ x.0, x.1)

abbrev r1 : ℕ → PartsValue × List ℕ → Read
r1 n x = run_in x.0 >>= r2 n x.1

pub runs_on : (front : List Run) (count i : ℕ) (bytes after : List ℕ) (p : PartsValue) (run : Run) (total : Read) → i < count → parts_at bytes ≡ Some (p, after) → run_in p ≡ Some run → with_front front (runs_at (count - i) bytes) ≡ total → with_front (front ++ run ∷ []) (runs_at (count - (i + 1)) after) ≡ total
unfolding runs_at
runs_on front count i bytes after p run total lt e f so_far =
    let k : count - i ≡ suc (count - (i + 1)) = omega arith in
    let n = count - (i + 1) in
    let one : runs_at (count - i) bytes ≡ r2 n after run = ap (λ j. runs_at j bytes) k ∙ step (parts_at bytes) (r1 n) (p, after) e ∙ step (run_in p) (r2 n after) run f in
    sym (push_front front run (runs_at n after)) ∙ ap (with_front front) (sym one) ∙ so_far

pub runs_no_parts : (front : List Run) (count i : ℕ) (bytes : List ℕ) (total : Read) → i < count → parts_at bytes ≡ None → with_front front (runs_at (count - i) bytes) ≡ total → None ≡ total
unfolding runs_at
runs_no_parts front count i bytes total lt e so_far =
    let k : count - i ≡ suc (count - (i + 1)) = omega arith in
    sym (ap (with_front front) (ap (λ j. runs_at j bytes) k ∙ none_from (parts_at bytes) (r1 (count - (i + 1))) e)) ∙ so_far

pub runs_no_run : (front : List Run) (count i : ℕ) (bytes after : List ℕ) (p : PartsValue) (total : Read) → i < count → parts_at bytes ≡ Some (p, after) → run_in p ≡ None → with_front front (runs_at (count - i) bytes) ≡ total → None ≡ total
unfolding runs_at
runs_no_run front count i bytes after p total lt e f so_far =
    let k : count - i ≡ suc (count - (i + 1)) = omega arith in
    let n = count - (i + 1) in
    sym (ap (with_front front) (ap (λ j. runs_at j bytes) k ∙ step (parts_at bytes) (r1 n) (p, after) e ∙ none_from (run_in p) (r2 n after) f)) ∙ so_far

pub runs_done : (front : List Run) (count i : ℕ) (bytes : List ℕ) (total : Read) → count ≤ i → with_front front (runs_at (count - i) bytes) ≡ total → Some (front, bytes) ≡ total
unfolding runs_at
runs_done front count i bytes total le so_far =
    let k : count - i ≡ 0 = omega arith in
    sym (ap (with_front front) (ap (λ j. runs_at j bytes) k) ∙ ap (λ l. Some (l, bytes)) (append-nil front)) ∙ so_far

-- ---- readings of one mark

abbrev pub Held : Type 0
Held = Option (List (Option ReadingValue) × List ℕ)

abbrev pub g2 : List (Option Mark) → ReadingValue × List ℕ → Held
g2 marks x = readings_at marks x.1 >>= λ y. Some (Some x.0 ∷ y.0, y.1)

abbrev pub g1 : Mark → Option ℤ × List ℕ → Option (ReadingValue × List ℕ)
g1 mark x = joined mark x.0 >>= λ r. Some (r, x.1)

pub held_on : (front : List (Option ReadingValue)) (count i : ℕ) (mark : Mark) (bytes after : List ℕ) (value : Option ℤ) (r : ReadingValue) (total : Held) → i < count → value_at mark.quality.flag bytes ≡ Some (value, after) → joined mark value ≡ Some r → with_front front (readings_at (replicate (count - i) (Some mark)) bytes) ≡ total → with_front (front ++ Some r ∷ []) (readings_at (replicate (count - (i + 1)) (Some mark)) after) ≡ total
unfolding reading_at
held_on front count i mark bytes after value r total lt e f so_far =
    let k : count - i ≡ suc (count - (i + 1)) = omega arith in
    let marks = replicate (count - (i + 1)) (Some mark) in
    let own : reading_at mark bytes ≡ Some (r, after) = step (value_at mark.quality.flag bytes) (g1 mark) (value, after) e ∙ step (joined mark value) (λ x. Some (x, after)) r f in
    let one : readings_at (replicate (count - i) (Some mark)) bytes ≡ g2 marks (r, after) = ap (λ j. readings_at (replicate j (Some mark)) bytes) k ∙ step (reading_at mark bytes) (g2 marks) (r, after) own in
    sym (push_front front (Some r) (readings_at marks after)) ∙ ap (with_front front) (sym one) ∙ so_far

pub held_no_value : (front : List (Option ReadingValue)) (count i : ℕ) (mark : Mark) (bytes : List ℕ) (total : Held) → i < count → value_at mark.quality.flag bytes ≡ None → with_front front (readings_at (replicate (count - i) (Some mark)) bytes) ≡ total → None ≡ total
unfolding reading_at
held_no_value front count i mark bytes total lt e so_far =
    let k : count - i ≡ suc (count - (i + 1)) = omega arith in
    let marks = replicate (count - (i + 1)) (Some mark) in
    let own : reading_at mark bytes ≡ None = none_from (value_at mark.quality.flag bytes) (g1 mark) e in
    sym (ap (with_front front) (ap (λ j. readings_at (replicate j (Some mark)) bytes) k ∙ none_from (reading_at mark bytes) (g2 marks) own)) ∙ so_far

pub held_not_joined : (front : List (Option ReadingValue)) (count i : ℕ) (mark : Mark) (bytes after : List ℕ) (value : Option ℤ) (total : Held) → i < count → value_at mark.quality.flag bytes ≡ Some (value, after) → joined mark value ≡ None → with_front front (readings_at (replicate (count - i) (Some mark)) bytes) ≡ total → None ≡ total
unfolding reading_at
held_not_joined front count i mark bytes after value total lt e f so_far =
    let k : count - i ≡ suc (count - (i + 1)) = omega arith in
    let marks = replicate (count - (i + 1)) (Some mark) in
    let own : reading_at mark bytes ≡ None = step (value_at mark.quality.flag bytes) (g1 mark) (value, after) e ∙ none_from (joined mark value) (λ x. Some (x, after)) f in
    sym (ap (with_front front) (ap (λ j. readings_at (replicate j (Some mark)) bytes) k ∙ none_from (reading_at mark bytes) (g2 marks) own)) ∙ so_far

pub held_done : (front : List (Option ReadingValue)) (count i : ℕ) (mark : Mark) (bytes : List ℕ) (total : Held) → count ≤ i → with_front front (readings_at (replicate (count - i) (Some mark)) bytes) ≡ total → Some (front, bytes) ≡ total
held_done front count i mark bytes total le so_far =
    let k : count - i ≡ 0 = omega arith in
    sym (ap (with_front front) (ap (λ j. readings_at (replicate j (Some mark)) bytes) k) ∙ ap (λ l. Some (l, bytes)) (append-nil front)) ∙ so_far

-- ---- readings of several runs

with_front-then : (front more : List (Option ReadingValue)) (read : Held) → with_front front (with_front more read) ≡ with_front (front ++ more) read
with_front-then front more None = refl
with_front-then front more (Some x) = ap (λ l. Some (l, x.1)) (sym (append_assoc front more x.0))

pub with_front-none : (read : Held) → with_front [] read ≡ read
with_front-none None = refl
with_front-none (Some x) = refl

pub read_absent : (n : ℕ) (marks : List (Option Mark)) (bytes : List ℕ) → readings_at (replicate n None ++ marks) bytes ≡ with_front (replicate n None) (readings_at marks bytes)
read_absent zero marks bytes = sym (with_front-none (readings_at marks bytes))
read_absent (suc n) marks bytes =
    ap (λ r. r >>= λ y. Some (None ∷ y.0, y.1)) (read_absent n marks bytes) ∙ same (readings_at marks bytes)
  where
    same : (read : Held) → (with_front (replicate n None) read >>= λ y. Some (None ∷ y.0, y.1)) ≡ with_front (None ∷ replicate n None) read
    same None = refl
    same (Some x) = refl

-- readings of some places, and then of others
abbrev then_read : List (Option Mark) → List (Option ReadingValue) × List ℕ → Held
then_read marks x = with_front x.0 (readings_at marks x.1)

pub read_append : (own marks : List (Option Mark)) (bytes : List ℕ) → readings_at (own ++ marks) bytes ≡ (readings_at own bytes >>= then_read marks)
read_append [] marks bytes = sym (with_front-none (readings_at marks bytes))
read_append (None ∷ own) marks bytes =
    ap (λ r. r >>= λ y. Some (None ∷ y.0, y.1)) (read_append own marks bytes) ∙ same (readings_at own bytes)
  where
    inner : (front : List (Option ReadingValue)) (read : Held) → (with_front front read >>= λ y. Some (None ∷ y.0, y.1)) ≡ with_front (None ∷ front) read
    inner front None = refl
    inner front (Some x) = refl

    same : (read : Held) → ((read >>= then_read marks) >>= λ y. Some (None ∷ y.0, y.1)) ≡ ((read >>= λ y. Some (None ∷ y.0, y.1)) >>= then_read marks)
    same None = refl
    same (Some x) = inner x.0 (readings_at marks x.1)
read_append (Some m ∷ own) marks bytes = first (λ rest. read_append own marks rest) (reading_at m bytes)
  where
    inner : (r : ReadingValue) (front : List (Option ReadingValue)) (read : Held) → (with_front front read >>= λ y. Some (Some r ∷ y.0, y.1)) ≡ with_front (Some r ∷ front) read
    inner r front None = refl
    inner r front (Some x) = refl

    same : (r : ReadingValue) (read : Held) → ((read >>= then_read marks) >>= λ y. Some (Some r ∷ y.0, y.1)) ≡ ((read >>= λ y. Some (Some r ∷ y.0, y.1)) >>= then_read marks)
    same r None = refl
    same r (Some x) = inner r x.0 (readings_at marks x.1)

    first : ((rest : List ℕ) → readings_at (own ++ marks) rest ≡ (readings_at own rest >>= then_read marks)) → (o : Option (ReadingValue × List ℕ)) → (o >>= g2 (own ++ marks)) ≡ ((o >>= g2 own) >>= then_read marks)
    first later None = refl
    first later (Some x) = ap (λ r. r >>= λ y. Some (Some x.0 ∷ y.0, y.1)) (later x.1) ∙ same x.0 (readings_at own x.1)

-- a run's readings were read, or not, behind the places that no run holds before it
pub run_on : (front gap now : List (Option ReadingValue)) (count : ℕ) (run : Run) (runs : List Run) (bytes after : List ℕ) (total : Held) → gap ≡ front ++ replicate (run.first - 1 - length front) None → with_front gap (readings_at (replicate (run.last + 1 - run.first) (Some run.mark)) bytes) ≡ Some (now, after) → with_front front (readings_at (marks_after count (length front) (run ∷ runs)) bytes) ≡ total → with_front now (readings_at (marks_after count run.last runs) after) ≡ total
run_on front gap now count run runs bytes after total is read so_far =
    let n = run.first - 1 - length front in
    let own = replicate (run.last + 1 - run.first) (Some run.mark) in
    let rest = marks_after count run.last runs in
    let split : readings_at (marks_after count (length front) (run ∷ runs)) bytes ≡ with_front (replicate n None) (readings_at own bytes >>= then_read rest) = ap (λ ms. readings_at ms bytes) (append_assoc (replicate n None) own rest) ∙ read_absent n (own ++ rest) bytes ∙ ap (with_front (replicate n None)) (read_append own rest bytes) in
    let before : with_front gap (readings_at own bytes >>= then_read rest) ≡ total = ap (λ g. with_front g (readings_at own bytes >>= then_read rest)) is ∙ sym (with_front-then front (replicate n None) (readings_at own bytes >>= then_read rest)) ∙ ap (with_front front) (sym split) ∙ so_far in
    sym (ap (λ r. r >>= then_read rest) read) ∙ swap gap rest (readings_at own bytes) ∙ before
  where
    swap : (front : List (Option ReadingValue)) (rest : List (Option Mark)) (read : Held) → (with_front front read >>= then_read rest) ≡ with_front front (read >>= then_read rest)
    swap front rest None = refl
    swap front rest (Some x) = sym (with_front-then front x.0 (readings_at rest x.1))

pub run_ends : (front gap : List (Option ReadingValue)) (count : ℕ) (run : Run) (runs : List Run) (bytes : List ℕ) (total : Held) → gap ≡ front ++ replicate (run.first - 1 - length front) None → with_front gap (readings_at (replicate (run.last + 1 - run.first) (Some run.mark)) bytes) ≡ None → with_front front (readings_at (marks_after count (length front) (run ∷ runs)) bytes) ≡ total → None ≡ total
run_ends front gap count run runs bytes total is read so_far =
    let n = run.first - 1 - length front in
    let own = replicate (run.last + 1 - run.first) (Some run.mark) in
    let rest = marks_after count run.last runs in
    let split : readings_at (marks_after count (length front) (run ∷ runs)) bytes ≡ with_front (replicate n None) (readings_at own bytes >>= then_read rest) = ap (λ ms. readings_at ms bytes) (append_assoc (replicate n None) own rest) ∙ read_absent n (own ++ rest) bytes ∙ ap (with_front (replicate n None)) (read_append own rest bytes) in
    none_first gap rest (readings_at own bytes) read ∙ ap (λ g. with_front g (readings_at own bytes >>= then_read rest)) is ∙ sym (with_front-then front (replicate n None) (readings_at own bytes >>= then_read rest)) ∙ ap (with_front front) (sym split) ∙ so_far
  where
    none_first : (front : List (Option ReadingValue)) (rest : List (Option Mark)) (read : Held) → with_front front read ≡ None → None ≡ with_front front (read >>= then_read rest)
    none_first front rest None e = refl
    none_first front rest (Some x) e = absurd cc

pub runs_ended : (front all : List (Option ReadingValue)) (count : ℕ) (bytes : List ℕ) (total : Held) → all ≡ front ++ replicate (count - length front) None → with_front front (readings_at (marks_after count (length front) []) bytes) ≡ total → Some (all, bytes) ≡ total
runs_ended front all count bytes total is so_far =
    let n = count - length front in
    let read : readings_at (replicate n None) bytes ≡ Some (replicate n None, bytes) = ap (λ ms. readings_at ms bytes) (sym (append-nil (replicate n None))) ∙ read_absent n [] bytes ∙ ap (λ l. Some (l, bytes)) (append-nil (replicate n None)) in
    ap (λ l. Some (l, bytes)) is ∙ sym (ap (with_front front) read) ∙ so_far

-- ---- lawful runs behind a place

-- the runs that are left lie behind a place, and are lawful
pub record Behind (count place : ℕ) (runs : List Run) : Type 0 where
  pub last : Option Run
  pub ends : end_of last ≡ place
  pub parted : are_parted count last runs ≡ true

pub Behind-facts : (count place : ℕ) (run : Run) (runs : List Run) → Behind count place (run ∷ runs) → (place < run.first) × (run.first ≤ run.last) × (run.last ≤ count) × Behind count run.last runs
Behind-facts count place run runs b =
    let f = parted_facts count b.last run runs b.parted in
    (omega (arith, b.ends, f.0), f.1, f.2, record { last = Some run; ends = refl; parted = f.4 })

pub left_is : (runs : List Run) (k : ℕ) (run : Run) → k < length runs → run ≡ get_or runs k run → drop k runs ≡ run ∷ drop (k + 1) runs
left_is runs k run lt is =
    let next : suc k ≡ k + 1 = omega arith in
    drop-cons runs k run lt ∙ ap (λ r. r ∷ drop (suc k) runs) (sym is) ∙ ap (λ j. run ∷ drop j runs) next

-- as many readings as marks
pub readings_length : (marks : List (Option Mark)) (bytes : List ℕ) (x : List (Option ReadingValue) × List ℕ) → readings_at marks bytes ≡ Some x → length x.0 ≡ length marks
readings_length [] bytes x e = sym (ap (λ (y : List (Option ReadingValue) × List ℕ). length y.0) (some_is ([], bytes) x e))
readings_length (None ∷ marks) bytes x e =
    let a = bind_some (readings_at marks bytes) (λ y. Some (None ∷ y.0, y.1)) x e in
    sym (ap (λ (y : List (Option ReadingValue) × List ℕ). length y.0) (some_is (None ∷ a.0.0, a.0.1) x a.2)) ∙ ap suc (readings_length marks bytes a.0 a.1)
readings_length (Some m ∷ marks) bytes x e =
    let a = bind_some (reading_at m bytes) (g2 marks) x e in
    let b = bind_some (readings_at marks a.0.1) (λ y. Some (Some a.0.0 ∷ y.0, y.1)) x a.2 in
    sym (ap (λ (y : List (Option ReadingValue) × List ℕ). length y.0) (some_is (Some a.0.0 ∷ b.0.0, b.0.1) x b.2)) ∙ ap suc (readings_length marks a.0.1 b.0 b.1)

front_length : (front : List (Option ReadingValue)) (marks : List (Option Mark)) (bytes : List ℕ) (x : List (Option ReadingValue) × List ℕ) → with_front front (readings_at marks bytes) ≡ Some x → length x.0 ≡ length front + length marks
front_length front marks bytes x e =
    let a = bind_some (readings_at marks bytes) (λ y. Some (front ++ y.0, y.1)) x e in
    sym (ap (λ (y : List (Option ReadingValue) × List ℕ). length y.0) (some_is (front ++ a.0.0, a.0.1) x a.2)) ∙ length-append front a.0.0 ∙ ap (λ n. length front + n) (readings_length marks bytes a.0 a.1)

abbrev none_held : Option ReadingValue
none_held = None

-- after a run so many places are read as its last
pub now_length : (front gap now : List (Option ReadingValue)) (run : Run) (bytes after : List ℕ) → gap ≡ front ++ replicate (run.first - 1 - length front) None → with_front gap (readings_at (replicate (run.last + 1 - run.first) (Some run.mark)) bytes) ≡ Some (now, after) → length front < run.first → run.first ≤ run.last → length now ≡ run.last
now_length front gap now run bytes after is read lt le =
    let own : length now ≡ length gap + length (replicate (run.last + 1 - run.first) (Some run.mark)) = front_length gap (replicate (run.last + 1 - run.first) (Some run.mark)) bytes (now, after) read in
    let n : length (replicate (run.last + 1 - run.first) (Some run.mark)) ≡ run.last + 1 - run.first = length-replicate (run.last + 1 - run.first) (Some run.mark) in
    let m : length (replicate (run.first - 1 - length front) none_held) ≡ run.first - 1 - length front = length-replicate (run.first - 1 - length front) none_held in
    let g : length gap ≡ length front + length (replicate (run.first - 1 - length front) none_held) = ap length is ∙ length-append front (replicate (run.first - 1 - length front) none_held) in
    omega (arith, own, n, m, g)

-- ---- a reading made

pub joined_not : (mark own : Mark) (value : Option ℤ) → own ≡ mark → (is_reading own.quality.flag value ≡ true → ⊥) → joined mark value ≡ None
joined_not mark own value same h = ap (λ b. cond b (Some (record { mark = mark; value = value })) None) (no_more (is_reading mark.quality.flag value) (λ e. h (ap (λ (m : Mark). is_reading m.quality.flag value) same ∙ e)))
  where
    no_more : (b : Bool) → (b ≡ true → ⊥) → b ≡ false
    no_more true h = absurd (h refl)
    no_more false h = refl

pub joined_so : (mark own : Mark) (value : Option ℤ) (r : ReadingValue) → own ≡ mark → is_reading own.quality.flag value ≡ true → r ≡ record { mark = own; value = value } → joined mark value ≡ Some r
joined_so mark own value r same e is =
    ap (λ b. cond b (Some (record { mark = mark; value = value })) None) (ap (λ (m : Mark). is_reading m.quality.flag value) (sym same) ∙ e)
    ∙ ap (λ (m : Mark). Some (record { mark = m; value = value })) (sym same) ∙ ap (λ (x : ReadingValue). Some x) (sym is)

-- ---- one turn of the loop over the runs

abbrev pub Left : List (Option ReadingValue) → ℕ → List Run → List ℕ → Held → Type 0
Left front count runs bytes total = with_front front (readings_at (marks_after count (length front) runs) bytes) ≡ total

pub turn : (front gap now : List (Option ReadingValue)) (count : ℕ) (runs : List Run) (k : ℕ) (run : Run) (bytes after : List ℕ) (total : Held) → k < length runs → run ≡ get_or runs k run → Behind count (length front) (drop k runs) → Left front count (drop k runs) bytes total → gap ≡ front ++ replicate (run.first - 1 - length front) None → with_front gap (readings_at (replicate (run.last + 1 - run.first) (Some run.mark)) bytes) ≡ Some (now, after) → Behind count (length now) (drop (k + 1) runs) × Left now count (drop (k + 1) runs) after total
turn front gap now count runs k run bytes after total lt is behind so_far gapped read =
    let left = left_is runs k run lt is in
    let b = Behind-facts count (length front) run (drop (k + 1) runs) (subst (Behind count (length front)) left behind) in
    let before = subst (λ (l : List Run). Left front count l bytes total) left so_far in
    let len : run.last ≡ length now = sym (now_length front gap now run bytes after gapped read b.0 b.1) in (
      subst (λ (n : ℕ). Behind count n (drop (k + 1) runs)) len b.3,
      subst (λ (n : ℕ). with_front now (readings_at (marks_after count n (drop (k + 1) runs)) after) ≡ total) len (run_on front gap now count run (drop (k + 1) runs) bytes after total gapped read before),
    )

pub turn_ends : (front gap : List (Option ReadingValue)) (count : ℕ) (runs : List Run) (k : ℕ) (run : Run) (bytes : List ℕ) (total : Held) → k < length runs → run ≡ get_or runs k run → Left front count (drop k runs) bytes total → gap ≡ front ++ replicate (run.first - 1 - length front) None → with_front gap (readings_at (replicate (run.last + 1 - run.first) (Some run.mark)) bytes) ≡ None → None ≡ total
turn_ends front gap count runs k run bytes total lt is so_far gapped read =
    run_ends front gap count run (drop (k + 1) runs) bytes total gapped read (subst (λ (l : List Run). Left front count l bytes total) (left_is runs k run lt is) so_far)

pub last_turn : (front all : List (Option ReadingValue)) (count : ℕ) (runs : List Run) (k : ℕ) (bytes : List ℕ) (total : Held) → length runs ≤ k → Left front count (drop k runs) bytes total → all ≡ front ++ replicate (count - length front) None → Some (all, bytes) ≡ total
last_turn front all count runs k bytes total le so_far is =
    runs_ended front all count bytes total is (subst (λ (l : List Run). Left front count l bytes total) (drop_all k runs le) so_far)
