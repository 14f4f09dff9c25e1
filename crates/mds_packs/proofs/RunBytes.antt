-- Runs as bytes, both ways.
use Rattle.std.proofs.Common.{◌≡◌, ℕ, zero, suc, ◌^◌, ◌<◌, Bool, true, false, cond, ◌&&◌, nat_eq, List, [], ◌∷◌, ◌++◌, length, Option, Some, None, refl, sym, ap, subst, ◌∙◌, append_assoc, arith}
use Rattle.std.specs.List.{flat_map, AllByRecursion}
use Rattle.std.specs.Int.{w16}
use Rattle.std.proofs.lemmas.Bool.{eqb-true}
use Rattle.std.proofs.lemmas.List.Concat.{flat_map-cons}
use Rattle.mds_marks.specs.Mark.{is_mark}
use Rattle.mds_marks.specs.Reason.{is_code, is_reason, is_reason_text}
use Rattle.mds_marks.specs.Quality.{is_quality}
use Rattle.mds_marks.specs.declared.mark.Mark.{Mark}
use Rattle.mds_runs.specs.declared.cover.Run.{Run}
use Rattle.mds_packs.specs.Body.{two, code_number, run_bytes}
use Rattle.mds_packs.specs.Unpacked.{◌>>=◌, number_at, byte_at, text_at, PartsValue, parts_at, code_in, mark_said, run_in, runs_at}
use Rattle.mds_packs.proofs.Fields.{IsBytes, bind_some, step, passed_some, some_is, Takes, Takes-then, two_takes, two_again, byte_takes, text_takes, text_again, reason_text_fits}

pub and_both : (b c : Bool) → (b && c) ≡ true → (b ≡ true) × (c ≡ true)
and_both true c e = (refl, e)
and_both false c e = absurd cc

-- ---- the fields of a run

abbrev parts_made : ℕ → ℕ → ℕ → ℕ → ℕ → List ℕ → PartsValue
parts_made a b c d e t = record { first = a; last = b; flag = c; method = d; code = e; text = t }

abbrev k6 : ℕ → ℕ → ℕ → ℕ → ℕ → List ℕ × List ℕ → Option (PartsValue × List ℕ)
k6 a b c d e x = Some (parts_made a b c d e x.0, x.1)

abbrev k5 : ℕ → ℕ → ℕ → ℕ → ℕ × List ℕ → Option (PartsValue × List ℕ)
k5 a b c d x = text_at x.1 >>= k6 a b c d x.0

abbrev k4 : ℕ → ℕ → ℕ → ℕ × List ℕ → Option (PartsValue × List ℕ)
k4 a b c x = number_at w16 x.1 >>= k5 a b c x.0

abbrev k3 : ℕ → ℕ → ℕ × List ℕ → Option (PartsValue × List ℕ)
k3 a b x = byte_at x.1 >>= k4 a b x.0

abbrev k2 : ℕ → ℕ × List ℕ → Option (PartsValue × List ℕ)
k2 a x = byte_at x.1 >>= k3 a x.0

abbrev k1 : ℕ × List ℕ → Option (PartsValue × List ℕ)
k1 x = number_at w16 x.1 >>= k2 x.0

abbrev pub parts_bytes : PartsValue → List ℕ
parts_bytes p = two p.first ++ (two p.last ++ ((p.flag ∷ []) ++ ((p.method ∷ []) ++ (two p.code ++ (two (length p.text) ++ p.text)))))

parts_take : (bytes : List ℕ) (x : PartsValue × List ℕ) → IsBytes bytes → parts_at bytes ≡ Some x → Takes bytes (parts_bytes x.0) x.1
unfolding parts_at
parts_take bytes x fits e =
    let a = bind_some (number_at w16 bytes) k1 x e in
    let b = bind_some (number_at w16 a.0.1) (k2 a.0.0) x a.2 in
    let c = bind_some (byte_at b.0.1) (k3 a.0.0 b.0.0) x b.2 in
    let d = bind_some (byte_at c.0.1) (k4 a.0.0 b.0.0 c.0.0) x c.2 in
    let f = bind_some (number_at w16 d.0.1) (k5 a.0.0 b.0.0 c.0.0 d.0.0) x d.2 in
    let g = bind_some (text_at f.0.1) (k6 a.0.0 b.0.0 c.0.0 d.0.0 f.0.0) x f.2 in
    let t0 = two_takes bytes a.0 fits a.1 in
    let t1 = two_takes a.0.1 b.0 t0.0.rest_fits b.1 in
    let t2 = byte_takes b.0.1 c.0 t1.0.rest_fits c.1 in
    let t3 = byte_takes c.0.1 d.0 t2.rest_fits d.1 in
    let t4 = two_takes d.0.1 f.0 t3.rest_fits f.1 in
    let t5 = text_takes f.0.1 g.0 t4.0.rest_fits g.1 in
    let e4 = Takes-then d.0.1 (two f.0.0) f.0.1 (two (length g.0.0) ++ g.0.0) g.0.1 t4.0 t5 in
    let e3 = Takes-then c.0.1 (d.0.0 ∷ []) d.0.1 (two f.0.0 ++ (two (length g.0.0) ++ g.0.0)) g.0.1 t3 e4 in
    let e2 = Takes-then b.0.1 (c.0.0 ∷ []) c.0.1 ((d.0.0 ∷ []) ++ (two f.0.0 ++ (two (length g.0.0) ++ g.0.0))) g.0.1 t2 e3 in
    let e1 = Takes-then a.0.1 (two b.0.0) b.0.1 ((c.0.0 ∷ []) ++ ((d.0.0 ∷ []) ++ (two f.0.0 ++ (two (length g.0.0) ++ g.0.0)))) g.0.1 t1.0 e2 in
    let e0 = Takes-then bytes (two a.0.0) a.0.1 (two b.0.0 ++ ((c.0.0 ∷ []) ++ ((d.0.0 ∷ []) ++ (two f.0.0 ++ (two (length g.0.0) ++ g.0.0))))) g.0.1 t0.0 e1 in
    subst (λ (y : PartsValue × List ℕ). Takes bytes (parts_bytes y.0) y.1) (some_is (parts_made a.0.0 b.0.0 c.0.0 d.0.0 f.0.0 g.0.0, g.0.1) x g.2) e0

pub record PartsFit (p : PartsValue) : Type 0 where
  pub first : p.first < 2 ^ 16
  pub last : p.last < 2 ^ 16
  pub code : p.code < 2 ^ 16
  pub text : length p.text < 2 ^ 16

parts_again : (p : PartsValue) (rest : List ℕ) → PartsFit p → parts_at (two p.first ++ (two p.last ++ (p.flag ∷ p.method ∷ (two p.code ++ (two (length p.text) ++ (p.text ++ rest)))))) ≡ Some (p, rest)
unfolding parts_at
parts_again p rest fits =
    let r5 = two (length p.text) ++ (p.text ++ rest) in
    let r4 = two p.code ++ r5 in
    let r2 = p.flag ∷ p.method ∷ r4 in
    let r1 = two p.last ++ r2 in
    step (number_at w16 (two p.first ++ r1)) k1 (p.first, r1) (two_again p.first r1 fits.first)
    ∙ step (number_at w16 r1) (k2 p.first) (p.last, r2) (two_again p.last r2 fits.last)
    ∙ step (number_at w16 r4) (k5 p.first p.last p.flag p.method) (p.code, r5) (two_again p.code r5 fits.code)
    ∙ step (text_at r5) (k6 p.first p.last p.flag p.method p.code) (p.text, rest) (text_again p.text rest fits.text)

-- ---- codes

code_back : (n : ℕ) → code_number (code_in n) ≡ n
code_back n = elim (nat_eq n 0xFFFF) as (λ b. nat_eq n 0xFFFF ≡ b → code_number (cond b None (Some n)) ≡ n) [
  | true ↦ λ e. sym (eqb-true n 0xFFFF e)
  | false ↦ λ e. refl
] refl

code_again : (code : Option ℕ) → is_code code ≡ true → (code_in (code_number code) ≡ code) × (code_number code < 2 ^ 16)
code_again None e = (refl, omega arith)
code_again (Some n) e =
    let small : n < 1000 = grind arith in
    let other : nat_eq n 0xFFFF ≡ false = grind arith in
    (ap (λ b. cond b None (Some n)) other, omega arith)

-- ---- runs

-- a run whose places fit in two bytes, and whose mark is lawful
pub record RunFits (run : Run) : Type 0 where
  pub first : run.first < 2 ^ 16
  pub last : run.last < 2 ^ 16
  pub mark : is_mark run.mark ≡ true

bytes_said : (p : PartsValue) (rest : List ℕ) → run_bytes (record { first = p.first; last = p.last; mark = mark_said p }) ≡ parts_bytes p
bytes_said p rest = ap (λ (n : ℕ). parts_bytes (parts_made p.first p.last p.flag p.method n p.text)) (code_back p.code)

run_takes : (p : PartsValue) (run : Run) → run_in p ≡ Some run → (parts_bytes p ≡ run_bytes run) × (is_mark run.mark ≡ true)
unfolding run_in
run_takes p run e =
    let g = passed_some (is_mark (mark_said p)) (record { first = p.first; last = p.last; mark = mark_said p }) run e in
    subst (λ (r : Run). (parts_bytes p ≡ run_bytes r) × (is_mark r.mark ≡ true)) g.1 (sym (bytes_said p []), g.0)

-- the fields that say a run
abbrev parts_of : Run → PartsValue
parts_of run = parts_made run.first run.last run.mark.quality.flag run.mark.quality.method (code_number run.mark.reason.code) run.mark.reason.text

abbrev run_coded : Run → Option ℕ → Run
run_coded run code = record { first = run.first; last = run.last; mark = record { quality = run.mark.quality; reason = record { code = code; text = run.mark.reason.text } } }

mark_facts : (m : Mark) → is_mark m ≡ true → (is_code m.reason.code ≡ true) × (length m.reason.text < 2 ^ 16)
mark_facts m e =
    let p = and_both (is_quality m.quality.flag m.quality.method) (is_reason m.reason.code m.reason.text) e in
    let q = and_both (is_code m.reason.code) (is_reason_text m.reason.text) p.1 in
    (q.0, omega (arith, reason_text_fits m.reason.text q.1))

pub text_fits : (m : Mark) → is_mark m ≡ true → length m.reason.text < 2 ^ 16
text_fits m e = (mark_facts m e).1

run_again : (run : Run) → RunFits run → (run_in (parts_of run) ≡ Some run) × PartsFit (parts_of run)
unfolding run_in
run_again run fits =
    let f = mark_facts run.mark fits.mark in
    let c = code_again run.mark.reason.code f.0 in
    let P : Option ℕ → Type 0 = λ code. cond (is_mark (run_coded run code).mark) (Some (run_coded run code)) None ≡ Some run in
    let own : P run.mark.reason.code = ap (λ b. cond b (Some run) None) fits.mark in
    (subst P (sym c.0) own, record { first = fits.first; last = fits.last; code = c.1; text = f.1 })

abbrev r3 : Run → List Run × List ℕ → Option (List Run × List ℕ)
r3 run x = Some (run ∷ x.0, x.1)

abbrev r2 : ℕ → List ℕ → Run → Option (List Run × List ℕ)
r2 n rest run = runs_at n rest >>= r3 run

abbrev r1 : ℕ → PartsValue × List ℕ → Option (List Run × List ℕ)
r1 n x = run_in x.0 >>= r2 n x.1

pub runs_take : (n : ℕ) (bytes : List ℕ) (x : List Run × List ℕ) → IsBytes bytes → runs_at n bytes ≡ Some x → Takes bytes (flat_map run_bytes x.0) x.1 × (length x.0 ≡ n) × AllByRecursion (λ run. is_mark run.mark ≡ true) x.0
unfolding runs_at
runs_take zero bytes x fits e =
    subst (λ (y : List Run × List ℕ). Takes bytes (flat_map run_bytes y.0) y.1 × (length y.0 ≡ 0) × AllByRecursion (λ run. is_mark run.mark ≡ true) y.0) (some_is ([], bytes) x e) (record { parts = refl; rest_fits = fits }, refl, tt)
runs_take (suc n) bytes x fits e =
    let a = bind_some (parts_at bytes) (r1 n) x e in
    let b = bind_some (run_in a.0.0) (r2 n a.0.1) x a.2 in
    let c = bind_some (runs_at n a.0.1) (r3 b.0) x b.2 in
    let first = parts_take bytes a.0 fits a.1 in
    let run = run_takes a.0.0 b.0 b.1 in
    let own : Takes bytes (run_bytes b.0) a.0.1 = subst (λ (t : List ℕ). Takes bytes t a.0.1) run.0 first in
    let second = runs_take n a.0.1 c.0 first.rest_fits c.1 in
    let both = Takes-then bytes (run_bytes b.0) a.0.1 (flat_map run_bytes c.0.0) c.0.1 own second.0 in
    let whole : Takes bytes (flat_map run_bytes (b.0 ∷ c.0.0)) c.0.1 = subst (λ (t : List ℕ). Takes bytes t c.0.1) (sym (flat_map-cons run_bytes b.0 c.0.0)) both in
    subst (λ (y : List Run × List ℕ). Takes bytes (flat_map run_bytes y.0) y.1 × (length y.0 ≡ suc n) × AllByRecursion (λ run. is_mark run.mark ≡ true) y.0) (some_is (b.0 ∷ c.0.0, c.0.1) x c.2) (whole, ap suc second.1, (run.1, second.2))

regrouped : (run : Run) (rest : List ℕ) → run_bytes run ++ rest ≡ two run.first ++ (two run.last ++ (run.mark.quality.flag ∷ run.mark.quality.method ∷ (two (code_number run.mark.reason.code) ++ (two (length run.mark.reason.text) ++ (run.mark.reason.text ++ rest)))))
regrouped run rest = refl

pub runs_again : (runs : List Run) (rest : List ℕ) → AllByRecursion RunFits runs → runs_at (length runs) (flat_map run_bytes runs ++ rest) ≡ Some (runs, rest)
unfolding runs_at
runs_again [] rest fits = refl
runs_again (run ∷ runs) rest fits =
    let tail = flat_map run_bytes runs ++ rest in
    let p = run_again run fits.0 in
    let bytes : flat_map run_bytes (run ∷ runs) ++ rest ≡ run_bytes run ++ tail = ap (λ (x : List ℕ). x ++ rest) (flat_map-cons run_bytes run runs) ∙ append_assoc (run_bytes run) (flat_map run_bytes runs) rest in
    ap (runs_at (suc (length runs))) (bytes ∙ regrouped run tail)
    ∙ step (parts_at (two run.first ++ (two run.last ++ (run.mark.quality.flag ∷ run.mark.quality.method ∷ (two (code_number run.mark.reason.code) ++ (two (length run.mark.reason.text) ++ (run.mark.reason.text ++ tail))))))) (r1 (length runs)) (parts_of run, tail) (parts_again (parts_of run) tail p.1)
    ∙ step (run_in (parts_of run)) (r2 (length runs) tail) run p.0
    ∙ step (runs_at (length runs) tail) (r3 run) (runs, rest) (runs_again runs rest fits.1)
