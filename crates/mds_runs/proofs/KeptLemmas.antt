-- Readings as they are kept.
use Rattle.std.proofs.Common.{◌≡◌, ◌≢◌, ◌<◌, ◌+◌, ◌-◌, ◌^◌, ◌↔◌, ℕ, zero, suc, true, false, cond, Bool, not, ◌==◌, ◌&&◌, ◌||◌, nat_lt, IsTrue, Result, Ok, Err, IsOk, OnOk, Option, Some, None, IfNone, IfSome, IsSome, option_map, List, [], ◌∷◌, ◌++◌, length, map, get_or, slice_get, replicate, take, append_assoc, ℤ, pos, negsuc, unsigned_abs, unwrap_or, is_none, is_some, refl, sym, ap, subst, ◌∙◌, arith, of_z, to_z, w64}
use Rattle.std.specs.List.{list_all, zip}
use Rattle.std.specs.Option.{SomeIff}
use Rattle.std.proofs.lemmas.Bool.{eqb-true, and_from}
use Rattle.std.proofs.lemmas.Int.{fits_signed_from_abs, to_z-of_z}
use Rattle.std.proofs.lemmas.List.{get_or_default, length-append, length-map, map-append, take_more}
use Rattle.std.proofs.lemmas.List.Folds.{list_all-append, list_all_more}
use Rattle.std.proofs.lemmas.Option.{get_or_from_slice_get, slice_get-map, slice_get_read}
use Rattle.std.proofs.lemmas.Slice.Zip.{firsts-zip, length-zip}
use Rattle.mds_quantity.specs.Quantity.{limit}
use Rattle.mds_marks.specs.Mark.{is_mark}
use Rattle.mds_marks.specs.Quality.{null, variable}
use Rattle.mds_marks.specs.Reading.{ReadingValue, is_lawful, is_reading}
use Rattle.mds_marks.specs.ReadingSteps.{is_kept, kept_value}
use Rattle.mds_marks.specs.declared.mark.Mark.{Mark}
use Rattle.mds_runs.specs.declared.cover.Run.{Run}
use Rattle.mds_runs.specs.Gaps.{runs_of}
use Rattle.mds_runs.specs.KeptReadings.{AreClose, AreKept, is_pair_kept, is_small, marks_in, number_of, pairs_kept, reading_kept, readings_kept}
use Rattle.mds_runs.specs.Marked.{reading_by}
use Rattle.mds_runs.specs.Runs.{last_end}
use Rattle.mds_runs.proofs.CloseRuns.{last_end-close, length-marks, runs-back}

both : (b c : Bool) → (b && c) ≡ true → (b ≡ true) × (c ≡ true)
both true c e = (refl, e)
both false c e = absurd cc

-- ---- how many they are

pub kept-length : (runs : List Run) (zs : List ℤ) → AreClose 0 runs (length zs) → length (readings_kept runs zs) ≡ length zs
kept-length runs zs h =
    let n = length-marks 0 runs (length zs) h in
    let m : length (marks_in 0 runs) ≡ length zs = omega arith in
    length-map (pairs_kept runs zs) reading_kept ∙ length-zip (marks_in 0 runs) zs ∙ omega (arith, m)

pub kept-length-in : (runs : List Run) (zs : List ℤ) (v : List ReadingValue) → AreKept runs zs → readings_kept runs zs ≡ v → length zs ≡ length v
kept-length-in runs zs v kept is = sym (kept-length runs zs kept.close) ∙ ap length is

-- ---- one of them

zip_at : (ms : List Mark) (zs : List ℤ) (i : ℕ) (m : Mark) (z : ℤ) → slice_get ms i ≡ Some m → slice_get zs i ≡ Some z → slice_get (zip ms zs) i ≡ Some (m, z)
zip_at [] zs i m z e f = cc
zip_at (x ∷ ms) [] i m z e f = cc
zip_at (x ∷ ms) (y ∷ zs) zero m z e f = cc
zip_at (x ∷ ms) (y ∷ zs) (suc i) m z e f = zip_at ms zs i m z e f

pub kept-at : (runs : List Run) (zs : List ℤ) (at : ℕ) (m : Mark) (z : ℤ) → slice_get (marks_in 0 runs) at ≡ Some m → slice_get zs at ≡ Some z → slice_get (readings_kept runs zs) at ≡ Some (reading_kept (m, z))
kept-at runs zs at m z e f =
    slice_get-map reading_kept (pairs_kept runs zs) at ∙ ap (λ o. option_map reading_kept o) (zip_at (marks_in 0 runs) zs at m z e f)

-- an index of the readings is one of the intervals
pub holds-at : (runs now : List Run) (zs : List ℤ) (v : List ReadingValue) (at : ℕ) → AreKept runs zs → readings_kept runs zs ≡ v → now ≡ runs → at < length v → (count : ℕ) × AreClose 0 now count × (at < count)
holds-at runs now zs v at kept is same lt =
    (length zs, subst (λ (l : List Run). AreClose 0 l (length zs)) (sym same) kept.close, omega (arith, kept-length-in runs zs v kept is))

pub view-at : (runs now : List Run) (zs : List ℤ) (v : List ReadingValue) (at : ℕ) (m : Mark) (z : ℤ) → AreKept runs zs → readings_kept runs zs ≡ v → now ≡ runs → at < length v → slice_get (marks_in 0 now) at ≡ Some m → z ≡ get_or zs at z → slice_get v at ≡ Some (reading_kept (m, z))
view-at runs now zs v at m z kept is same lt e f =
    let within : at < length zs = omega (arith, kept-length-in runs zs v kept is) in
    ap (λ l. slice_get l at) (sym is)
    ∙ kept-at runs zs at m z (ap (λ l. slice_get (marks_in 0 l) at) (sym same) ∙ e) (slice_get_read zs (length zs) at z refl within f)

pub get-at : (v : List ReadingValue) (at : ℕ) (r d : ReadingValue) → slice_get v at ≡ Some r → r ≡ get_or v at d
get-at v at r d e = sym (get_or_from_slice_get v at r d e)

pub mark-in : (runs now : List Run) (zs : List ℤ) (v : List ReadingValue) (at : ℕ) (m : Mark) (d : ReadingValue) → AreKept runs zs → readings_kept runs zs ≡ v → now ≡ runs → at < length v → slice_get (marks_in 0 now) at ≡ Some m → m ≡ (get_or v at d).mark
mark-in runs now zs v at m d kept is same lt e =
    let z = get_or zs at (pos 0) in
    let within : at < length zs = omega (arith, kept-length-in runs zs v kept is) in
    ap (λ (r : ReadingValue). r.mark) (get-at v at (reading_kept (m, z)) d (view-at runs now zs v at m z kept is same lt e (get_or_default zs at (pos 0) z within)))

-- some mark is that of an interval
pub some-mark : (runs : List Run) (zs : List ℤ) (v : List ReadingValue) (at : ℕ) → AreKept runs zs → readings_kept runs zs ≡ v → at < length v → (m : Mark) × (slice_get (marks_in 0 runs) at ≡ Some m)
some-mark runs zs v at kept is lt =
    let n = length-marks 0 runs (length zs) kept.close in
    some_at (marks_in 0 runs) at (omega (arith, n, kept-length-in runs zs v kept is))
  where
    some_at : (ms : List Mark) (i : ℕ) → i < length ms → (m : Mark) × (slice_get ms i ≡ Some m)
    some_at [] i lt = absurd (omega arith)
    some_at (m ∷ ms) zero lt = (m, refl)
    some_at (m ∷ ms) (suc i) lt = some_at ms i (omega arith)

all-at : (ps : List (Mark × ℤ)) (at : ℕ) (p : Mark × ℤ) → list_all is_pair_kept ps ≡ true → slice_get ps at ≡ Some p → is_pair_kept p ≡ true
all-at [] at p e f = cc
all-at (x ∷ ps) zero p e f =
    let same : x ≡ p = cc in
    ap is_pair_kept (sym same) ∙ (both (is_pair_kept x) (list_all is_pair_kept ps) e).0
all-at (x ∷ ps) (suc at) p e f = all-at ps at p (both (is_pair_kept x) (list_all is_pair_kept ps) e).1 f

-- a mark and the millionths beside it are lawful together
pub pair-at : (runs now : List Run) (zs : List ℤ) (v : List ReadingValue) (at : ℕ) (m : Mark) (z : ℤ) → AreKept runs zs → readings_kept runs zs ≡ v → now ≡ runs → at < length v → slice_get (marks_in 0 now) at ≡ Some m → z ≡ get_or zs at z → is_pair_kept (m, z) ≡ true
pair-at runs now zs v at m z kept is same lt e f =
    let within : at < length zs = omega (arith, kept-length-in runs zs v kept is) in
    all-at (pairs_kept runs zs) at (m, z) kept.lawful (zip_at (marks_in 0 runs) zs at m z (ap (λ l. slice_get (marks_in 0 l) at) (sym same) ∙ e) (slice_get_read zs (length zs) at z refl within f))

-- ---- their runs

pub kept-runs : (runs : List Run) (zs : List ℤ) → AreClose 0 runs (length zs) → runs ≡ runs_of 1 (map (λ (r : ReadingValue). Some r.mark) (readings_kept runs zs))
kept-runs runs zs h =
    let n = length-marks 0 runs (length zs) h in
    let m : length zs ≡ length (marks_in 0 runs) = omega arith in
    sym (runs-back runs (length zs) h)
    ∙ ap (λ ms. runs_of 1 (map (λ (x : Mark). Some x) ms)) (sym (firsts-zip (marks_in 0 runs) zs m))
    ∙ ap (runs_of 1) (fused (pairs_kept runs zs))
  where
    fused : (ps : List (Mark × ℤ)) → map (λ (x : Mark). Some x) (map (λ (p : Mark × ℤ). p.0) ps) ≡ map (λ (r : ReadingValue). Some r.mark) (map reading_kept ps)
    fused [] = refl
    fused (p ∷ ps) = ap (λ l. Some p.0 ∷ l) (fused ps)

-- ---- the law of each

pub pair_lawful : (p : Mark × ℤ) → is_pair_kept p ≡ true → is_lawful (reading_kept p) ≡ true
pair_lawful p e = grind arith

pub all_lawful : (ps : List (Mark × ℤ)) → list_all is_pair_kept ps ≡ true → list_all is_lawful (map reading_kept ps) ≡ true
all_lawful [] e = refl
all_lawful (p ∷ ps) e =
    let q = both (is_pair_kept p) (list_all is_pair_kept ps) e in
    rw (pair_lawful p q.0) (all_lawful ps q.1)

pub reading-goes : (v : List ReadingValue) (at : ℕ) (d : ReadingValue) → list_all is_lawful v ≡ true → at < length v → is_reading (get_or v at d).mark.quality.flag (get_or v at d).value ≡ true
reading-goes [] at d e lt = absurd (omega arith)
reading-goes (r ∷ v) zero d e lt = (both _ (is_reading r.mark.quality.flag r.value) (both (is_lawful r) (list_all is_lawful v) e).0).1
reading-goes (r ∷ v) (suc at) d e lt = reading-goes v at d (both (is_lawful r) (list_all is_lawful v) e).1 (omega arith)

pub some-new : (r : Option ReadingValue) (P : Type 0) (x : ReadingValue) → SomeIff r P x → P → IsSome r
some-new None P x h p = absurd (h p)
some-new (Some y) P x h p = refl

-- ---- their millionths

lt_from : (a b : ℕ) → nat_lt a b ≡ true → a < b
lt_from a b e = grind arith

pub small-from : (m : Mark) (z : ℤ) → is_pair_kept (m, z) ≡ true → unsigned_abs z < limit
small-from m z e =
    let a = both (is_mark m) (is_kept m.quality.flag z) e in
    lt_from (unsigned_abs z) limit (middle (not (m.quality.flag == variable)) (nat_lt (unsigned_abs z) limit) (not (m.quality.flag == null) || (unsigned_abs z == 0)) a.1)
  where
    middle : (a b c : Bool) → (a && b && c) ≡ true → b ≡ true
    middle true true c e = refl
    middle true false c e = cc
    middle false b c e = absurd cc

no_size : (z : ℤ) → (unsigned_abs z == 0) ≡ true → z ≡ pos 0
no_size (pos n) e = ap (λ (k : ℕ). pos k) (eqb-true n 0 e)
no_size (negsuc n) e = absurd (let f : suc n ≡ 0 = eqb-true (suc n) 0 e in omega arith)

-- under N they are 0
pub zero-from : (m : Mark) (z : ℤ) → is_pair_kept (m, z) ≡ true → (m.quality.flag == null) ≡ true → z ≡ pos 0
zero-from m z e is =
    let a = both (is_mark m) (is_kept m.quality.flag z) e in
    no_size z (last (not (m.quality.flag == variable)) (nat_lt (unsigned_abs z) limit) (m.quality.flag == null) (unsigned_abs z == 0) a.1 is)
  where
    last : (a b c d : Bool) → (a && b && (not c || d)) ≡ true → c ≡ true → d ≡ true
    last true true true d e f = e
    last true true false d e f = absurd cc
    last true false c d e f = absurd cc
    last false b c d e f = absurd cc

-- as a machine holds them
pub back : (z : ℤ) → unsigned_abs z < limit → to_z w64 (of_z w64 z) ≡ z
back z small = to_z-of_z w64 z (fits_signed_from_abs w64 z (omega arith))

pub same-bits : (y z : ℤ) → unsigned_abs y < limit → unsigned_abs z < limit → of_z w64 y ≡ of_z w64 z → y ≡ z
same-bits y z a b e = sym (back y a) ∙ ap (to_z w64) e ∙ back z b

pub zero-bits : (z : ℤ) → unsigned_abs z < limit → of_z w64 z ≡ 0 → z ≡ pos 0
zero-bits z a e = sym (back z a) ∙ ap (to_z w64) e

-- the value that they keep
pub value-nonzero : (m : Mark) (z : ℤ) → is_pair_kept (m, z) ≡ true → (of_z w64 z ≡ 0 → ⊥) → kept_value m.quality.flag z ≡ Some z
value-nonzero m z e some = elim (m.quality.flag == null) as (λ b. (m.quality.flag == null) ≡ b → cond b None (Some z) ≡ Some z) [
  | true ↦ λ is. absurd (some (ap (of_z w64) (zero-from m z e is)))
  | false ↦ λ is. refl
] refl

pub from-some : (r : Option ℤ) (z w : ℤ) → SomeIff r (unsigned_abs w < limit) w → w ≡ z → unsigned_abs z < limit → r ≡ Some z
from-some None z w h same small = absurd (h (subst (λ (x : ℤ). unsigned_abs x < limit) (sym same) small))
from-some (Some x) z w h same small = ap (λ (y : ℤ). Some y) (h.1 ∙ same)

-- readings are the same exactly where the marks and the millionths are
pub same-kept : (m n : Mark) (y z : ℤ) → is_pair_kept (m, y) ≡ true → is_pair_kept (n, z) ≡ true → reading_kept (m, y) ≡ reading_kept (n, z) → (m ≡ n) × (y ≡ z)
same-kept m n y z a b e =
    let mark : m ≡ n = ap (λ (r : ReadingValue). r.mark) e in
    let value : kept_value m.quality.flag y ≡ kept_value n.quality.flag z = ap (λ (r : ReadingValue). r.value) e in
    let flag : (m.quality.flag == null) ≡ (n.quality.flag == null) = ap (λ (x : Mark). x.quality.flag == null) mark in (
      mark,
      elim (n.quality.flag == null) as (λ c. (n.quality.flag == null) ≡ c → y ≡ z) [
        | true ↦ λ is. zero-from m y a (flag ∙ is) ∙ sym (zero-from n z b is)
        | false ↦ λ is.
            let left : kept_value m.quality.flag y ≡ Some y = ap (λ c. cond c None (Some y)) (flag ∙ is) in
            let right : kept_value n.quality.flag z ≡ Some z = ap (λ c. cond c None (Some z)) is in
            some_same y z (sym left ∙ value ∙ right)
      ] refl,
    )
  where
    some_same : (y z : ℤ) → Some y ≡ Some z → y ≡ z
    some_same y z e = cc

-- the value of each reading, or 0
value-number : (m : Mark) (z : ℤ) → is_pair_kept (m, z) ≡ true → unwrap_or (kept_value m.quality.flag z) (pos 0) ≡ z
value-number m z e = elim (m.quality.flag == null) as (λ b. (m.quality.flag == null) ≡ b → unwrap_or (cond b None (Some z)) (pos 0) ≡ z) [
  | true ↦ λ is. sym (zero-from m z e is)
  | false ↦ λ is. refl
] refl

numbers : (ms : List Mark) (zs : List ℤ) → length ms ≡ length zs → list_all is_pair_kept (zip ms zs) ≡ true
    → map (λ (r : ReadingValue). unwrap_or r.value (pos 0)) (map reading_kept (zip ms zs)) ≡ zs
numbers [] [] e all = refl
numbers [] (z ∷ zs) e all = absurd (omega arith)
numbers (m ∷ ms) [] e all = absurd (omega arith)
numbers (m ∷ ms) (z ∷ zs) e all =
    let q = both (is_pair_kept (m, z)) (list_all is_pair_kept (zip ms zs)) all in
    ap (λ (x : ℤ). x ∷ map (λ (r : ReadingValue). unwrap_or r.value (pos 0)) (map reading_kept (zip ms zs))) (value-number m z q.0)
    ∙ ap (λ l. z ∷ l) (numbers ms zs (omega arith) q.1)

pub kept-numbers : (runs : List Run) (zs : List ℤ) (v : List ReadingValue) → AreKept runs zs → readings_kept runs zs ≡ v
    → zs ≡ map (λ (r : ReadingValue). unwrap_or r.value (pos 0)) v
kept-numbers runs zs v kept is =
    let n = length-marks 0 runs (length zs) kept.close in
    sym (numbers (marks_in 0 runs) zs (omega arith) kept.lawful) ∙ ap (map (λ (r : ReadingValue). unwrap_or r.value (pos 0))) is

-- ---- one index of two lists of readings

pub are-alike : (v w : List ReadingValue) (at : ℕ) (m n : Mark) (y z : ℤ) (same : Bool) → slice_get v at ≡ Some (reading_kept (m, y)) → slice_get w at ≡ Some (reading_kept (n, z)) → is_pair_kept (m, y) ≡ true → is_pair_kept (n, z) ≡ true → y ≡ z → IsTrue same ↔ (m ≡ n) → IsTrue same ↔ (slice_get v at ≡ slice_get w at)
are-alike v w at m n y z same e f a b g h = (
  λ t. e ∙ ap (λ (p : Mark × ℤ). Some (reading_kept p)) (ap (λ (x : Mark). (x, y)) (h.0 t) ∙ ap (λ (x : ℤ). (n, x)) g) ∙ sym f,
  λ is. h.1 (same-kept m n y z a b (some_reading (reading_kept (m, y)) (reading_kept (n, z)) (sym e ∙ is ∙ f))).0,
)
  where
    some_reading : (r s : ReadingValue) → Some r ≡ Some s → r ≡ s
    some_reading r s e = cc

pub are-unlike : (v w : List ReadingValue) (at : ℕ) (m n : Mark) (y z : ℤ) → slice_get v at ≡ Some (reading_kept (m, y)) → slice_get w at ≡ Some (reading_kept (n, z)) → is_pair_kept (m, y) ≡ true → is_pair_kept (n, z) ≡ true → (y ≡ z → ⊥) → slice_get v at ≡ slice_get w at → ⊥
are-unlike v w at m n y z e f a b other is =
    other (same-kept m n y z a b (some_reading (reading_kept (m, y)) (reading_kept (n, z)) (sym e ∙ is ∙ f))).1
  where
    some_reading : (r s : ReadingValue) → Some r ≡ Some s → r ≡ s
    some_reading r s e = cc

pub differ : (runs others : List Run) (ys zs : List ℤ) (v w : List ReadingValue) (at : ℕ) (y z : ℤ) → AreKept runs ys → AreKept others zs → readings_kept runs ys ≡ v → readings_kept others zs ≡ w → at < length v → at < length w → y ≡ get_or ys at y → z ≡ get_or zs at z → (of_z w64 y ≡ of_z w64 z → ⊥) → slice_get v at ≡ slice_get w at → ⊥
differ runs others ys zs v w at y z a b e f lt lu g h other is =
    let m = some-mark runs ys v at a e lt in
    let n = some-mark others zs w at b f lu in
    are-unlike v w at m.0 n.0 y z (view-at runs runs ys v at m.0 y a e refl lt m.1 g) (view-at others others zs w at n.0 z b f refl lu n.1 h) (pair-at runs runs ys v at m.0 y a e refl lt m.1 g) (pair-at others others zs w at n.0 z b f refl lu n.1 h) (λ same. other (ap (of_z w64) same)) is

-- ---- two lists of readings under the same runs

abbrev no_numbers : List ℤ
no_numbers = []

zip_none : (ms : List Mark) (k : ℕ) → slice_get (zip ms no_numbers) k ≡ None
zip_none [] k = refl
zip_none (m ∷ ms) k = refl

zip_same : (ms : List Mark) (ys zs : List ℤ) (k : ℕ) → slice_get ys k ≡ slice_get zs k → slice_get (zip ms ys) k ≡ slice_get (zip ms zs) k
zip_same [] ys zs k e = refl
zip_same (m ∷ ms) [] [] k e = refl
zip_same (m ∷ ms) [] (z ∷ zs) zero e = cc
zip_same (m ∷ ms) [] (z ∷ zs) (suc k) e = sym (zip_none ms k) ∙ zip_same ms [] zs k e
zip_same (m ∷ ms) (y ∷ ys) [] zero e = cc
zip_same (m ∷ ms) (y ∷ ys) [] (suc k) e = zip_same ms ys [] k e ∙ zip_none ms k
zip_same (m ∷ ms) (y ∷ ys) (z ∷ zs) zero e = let same : y ≡ z = cc in ap (λ (x : ℤ). Some (m, x)) same
zip_same (m ∷ ms) (y ∷ ys) (z ∷ zs) (suc k) e = zip_same ms ys zs k e

-- where the millionths are the same, the readings are
pub same-there : (runs others : List Run) (ys zs : List ℤ) (v w : List ReadingValue) (k : ℕ) → runs ≡ others → readings_kept runs ys ≡ v → readings_kept others zs ≡ w → slice_get ys k ≡ slice_get zs k → slice_get v k ≡ slice_get w k
same-there runs others ys zs v w k same e f is =
    ap (λ l. slice_get l k) (sym e)
    ∙ slice_get-map reading_kept (pairs_kept runs ys) k
    ∙ ap (option_map reading_kept) (zip_same (marks_in 0 runs) ys zs k is)
    ∙ sym (slice_get-map reading_kept (pairs_kept runs zs) k)
    ∙ ap (λ l. slice_get (readings_kept l zs) k) same
    ∙ ap (λ l. slice_get l k) f

some_number : (zs : List ℤ) (i : ℕ) → i < length zs → (z : ℤ) × (slice_get zs i ≡ Some z) × (z ≡ get_or zs i z)
some_number [] i lt = absurd (omega arith)
some_number (z ∷ zs) zero lt = (z, refl, refl)
some_number (z ∷ zs) (suc i) lt = some_number zs i (omega arith)

-- where the millionths differ, the readings do
pub other-there : (runs others : List Run) (ys zs : List ℤ) (v w : List ReadingValue) (k : ℕ) → AreKept runs ys → AreKept others zs → readings_kept runs ys ≡ v → readings_kept others zs ≡ w → k < length v → k < length w → (slice_get ys k ≡ slice_get zs k → ⊥) → slice_get v k ≡ slice_get w k → ⊥
other-there runs others ys zs v w k a b e f lt lu other is =
    let y = some_number ys k (omega (arith, kept-length-in runs ys v a e)) in
    let z = some_number zs k (omega (arith, kept-length-in others zs w b f)) in
    differ runs others ys zs v w k y.0 z.0 a b e f lt lu y.2 z.2 (λ bits. other (y.1 ∙ ap (λ (x : ℤ). Some x) (equal y.0 z.0 y.2 z.2 bits) ∙ sym z.1)) is
  where
    equal : (y z : ℤ) → y ≡ get_or ys k y → z ≡ get_or zs k z → of_z w64 y ≡ of_z w64 z → y ≡ z
    equal y z g h bits =
        let m = some-mark runs ys v k a e lt in
        let n = some-mark others zs w k b f lu in
        same-bits y z (small-from m.0 y (pair-at runs runs ys v k m.0 y a e refl lt m.1 g)) (small-from n.0 z (pair-at others others zs w k n.0 z b f refl lu n.1 h)) bits

-- what is found among the millionths is so of the readings
abbrev pub IsFirst : {X : Type 0} → List X → List X → ℕ → Type 0
IsFirst xs ys at = (slice_get xs at ≢ slice_get ys at) × ((k : ℕ) → k < at → slice_get xs k ≡ slice_get ys k) × (at < length xs)

pub first-there : (found : Option ℕ) (runs others : List Run) (ys zs : List ℤ) (v w : List ReadingValue) → runs ≡ others → AreKept runs ys → AreKept others zs → readings_kept runs ys ≡ v → readings_kept others zs ≡ w → length v ≡ length w → IfSome found (λ at. IsFirst ys zs at) → IfSome found (λ at. IsFirst v w at)
first-there None runs others ys zs v w same a b e f as_many h = tt
first-there (Some at) runs others ys zs v w same a b e f as_many h =
    let lt : at < length v = omega (arith, h.2, kept-length-in runs ys v a e) in
    (other-there runs others ys zs v w at a b e f lt (omega arith) h.0, λ k before. same-there runs others ys zs v w k same e f (h.1 k before), lt)

pub none-there : (found : Option ℕ) (runs others : List Run) (ys zs : List ℤ) (v w : List ReadingValue) → runs ≡ others → readings_kept runs ys ≡ v → readings_kept others zs ≡ w → IfNone found ((k : ℕ) → slice_get ys k ≡ slice_get zs k) → IfNone found ((k : ℕ) → slice_get v k ≡ slice_get w k)
none-there None runs others ys zs v w same e f h = λ k. same-there runs others ys zs v w k same e f (h k)
none-there (Some at) runs others ys zs v w same e f h = tt

-- ---- more of them

zip-append : (ms ns : List Mark) (ys zs : List ℤ) → length ms ≡ length ys → zip (ms ++ ns) (ys ++ zs) ≡ zip ms ys ++ zip ns zs
zip-append [] ns [] zs e = refl
zip-append [] ns (y ∷ ys) zs e = absurd (omega arith)
zip-append (m ∷ ms) ns [] zs e = absurd (omega arith)
zip-append (m ∷ ms) ns (y ∷ ys) zs e = ap (λ l. (m, y) ∷ l) (zip-append ms ns ys zs (omega arith))

zip-replicate : (m : Mark) (values : List (Option ℤ)) (n : ℕ) → n ≡ length values → zip (replicate n m) (map (number_of (m.quality.flag == null)) values) ≡ map (λ (v : Option ℤ). (m, number_of (m.quality.flag == null) v)) values
zip-replicate m [] zero e = refl
zip-replicate m [] (suc n) e = absurd (omega arith)
zip-replicate m (v ∷ values) zero e = absurd (omega arith)
zip-replicate m (v ∷ values) (suc n) e = ap (λ l. (m, number_of (m.quality.flag == null) v) ∷ l) (zip-replicate m values n (omega arith))

-- a mark and a value field go together
abbrev pub goes : Mark → Option ℤ → Bool
goes m v = is_reading m.quality.flag (reading_by m v).value

kept-by : (m : Mark) (v : Option ℤ) → goes m v ≡ true → reading_kept (m, number_of (m.quality.flag == null) v) ≡ reading_by m v
kept-by m v e = ap (λ (x : Option ℤ). record { mark = m; value = x }) (value (m.quality.flag == variable) (m.quality.flag == null) v e)
  where
    value : (b c : Bool) (v : Option ℤ) → (not b && cond c (is_none (cond c None v)) (is_some (cond c None v))) ≡ true → cond c None (Some (number_of c v)) ≡ cond c None v
    value b true v e = refl
    value b false None e = absurd (off b e)
      where
        off : (b : Bool) → (not b && false) ≡ true → ⊥
        off true e = cc
        off false e = cc
    value b false (Some z) e = refl

lawful-by : (m : Mark) (v : Option ℤ) → is_mark m ≡ true → goes m v ≡ true → is_small (m.quality.flag == null) v ≡ true → is_pair_kept (m, number_of (m.quality.flag == null) v) ≡ true
lawful-by m v mark e small =
    let lawful = and_from (not (m.quality.flag == variable)) _ (both (not (m.quality.flag == variable)) _ e).0 small in
    and_from (is_mark m) _ mark (and_from _ _ lawful (none (m.quality.flag == null) v))
  where
    none : (c : Bool) (v : Option ℤ) → (not c || (unsigned_abs (number_of c v) == 0)) ≡ true
    none true v = refl
    none false v = refl

abbrev pub AllGo : Mark → List (Option ℤ) → Type 0
AllGo m values = (k : ℕ) → k < length values → IsTrue (goes m (get_or values k None))

all-by : (m : Mark) (values : List (Option ℤ)) → AllGo m values → map reading_kept (map (λ (v : Option ℤ). (m, number_of (m.quality.flag == null) v)) values) ≡ map (reading_by m) values
all-by m [] h = refl
all-by m (v ∷ values) h =
    ap (λ (r : ReadingValue). r ∷ map reading_kept (map (λ (v : Option ℤ). (m, number_of (m.quality.flag == null) v)) values)) (kept-by m v (h 0 (omega arith)))
    ∙ ap (λ l. reading_by m v ∷ l) (all-by m values (λ k lt. h (suc k) (omega arith)))

all-lawful-by : (m : Mark) (values : List (Option ℤ)) → is_mark m ≡ true → AllGo m values → list_all (is_small (m.quality.flag == null)) values ≡ true → list_all is_pair_kept (map (λ (v : Option ℤ). (m, number_of (m.quality.flag == null) v)) values) ≡ true
all-lawful-by m [] mark h small = refl
all-lawful-by m (v ∷ values) mark h small =
    let s = both (is_small (m.quality.flag == null) v) (list_all (is_small (m.quality.flag == null)) values) small in
    and_from (is_pair_kept (m, number_of (m.quality.flag == null) v)) _ (lawful-by m v mark (h 0 (omega arith)) s.0) (all-lawful-by m values mark (λ k lt. h (suc k) (omega arith)) s.1)

-- what is kept after more was put: the marks, and the millionths
pub record Puts (runs new : List Run) (ys zs : List ℤ) (m : Mark) (values : List (Option ℤ)) : Type 0 where
  pub close : AreClose 0 new (length ys + length values)
  pub marks : marks_in 0 new ≡ marks_in 0 runs ++ replicate (length values) m
  pub numbers : zs ≡ ys ++ map (number_of (m.quality.flag == null)) values

pub puts-made : (runs new : List Run) (ys room zs : List ℤ) (m : Mark) (values : List (Option ℤ)) (end : ℕ) (none : Bool) → AreKept runs ys → end ≡ length ys + length values → AreClose 0 new end → marks_in 0 new ≡ marks_in 0 runs ++ replicate (end - last_end runs) m → room ≡ ys → none ≡ (m.quality.flag == null) → zs ≡ room ++ map (number_of none) values → Puts runs new ys zs m values
puts-made runs new ys room zs m values end none kept is close marks same flag numbers =
    let size : end - last_end runs ≡ length values = omega (arith, last_end-close runs (length ys) kept.close) in
    record {
      close = subst (AreClose 0 new) is close;
      marks = marks ∙ ap (λ n. marks_in 0 runs ++ replicate n m) size;
      numbers = numbers ∙ ap (λ l. l ++ map (number_of none) values) same ∙ ap (λ b. ys ++ map (number_of b) values) flag;
    }

more-pairs : (runs new : List Run) (ys zs : List ℤ) (m : Mark) (values : List (Option ℤ)) → AreKept runs ys → Puts runs new ys zs m values → pairs_kept new zs ≡ pairs_kept runs ys ++ map (λ (v : Option ℤ). (m, number_of (m.quality.flag == null) v)) values
more-pairs runs new ys zs m values kept puts =
    let n = length-marks 0 runs (length ys) kept.close in
    ap (λ ms. zip ms zs) puts.marks
    ∙ ap (λ l. zip (marks_in 0 runs ++ replicate (length values) m) l) puts.numbers
    ∙ zip-append (marks_in 0 runs) (replicate (length values) m) ys (map (number_of (m.quality.flag == null)) values) (omega arith)
    ∙ ap (λ l. pairs_kept runs ys ++ l) (zip-replicate m values (length values) refl)

pub more-kept : (runs new : List Run) (ys zs : List ℤ) (m : Mark) (values : List (Option ℤ)) → AreKept runs ys → Puts runs new ys zs m values → length ys + length values < 2 ^ 16 → is_mark m ≡ true → AllGo m values → list_all (is_small (m.quality.flag == null)) values ≡ true → AreKept new zs
more-kept runs new ys zs m values kept puts few mark go small =
    let n : length zs ≡ length ys + length values = ap length puts.numbers ∙ length-append ys (map (number_of (m.quality.flag == null)) values) ∙ ap (λ k. length ys + k) (length-map values (number_of (m.quality.flag == null))) in
    record {
      few = omega arith;
      close = subst (AreClose 0 new) (sym n) puts.close;
      lawful = ap (list_all is_pair_kept) (more-pairs runs new ys zs m values kept puts) ∙ list_all-append is_pair_kept (pairs_kept runs ys) _ ∙ and_from _ _ kept.lawful (all-lawful-by m values mark go small);
    }

pub more-view : (runs new : List Run) (ys zs : List ℤ) (v : List ReadingValue) (m : Mark) (values : List (Option ℤ)) → AreKept runs ys → readings_kept runs ys ≡ v → Puts runs new ys zs m values → AllGo m values → readings_kept new zs ≡ v ++ map (reading_by m) values
more-view runs new ys zs v m values kept is puts go =
    ap (map reading_kept) (more-pairs runs new ys zs m values kept puts)
    ∙ map-append reading_kept (pairs_kept runs ys) (map (λ (v : Option ℤ). (m, number_of (m.quality.flag == null) v)) values)
    ∙ ap (λ l. readings_kept runs ys ++ l) (all-by m values go)
    ∙ ap (λ l. l ++ map (reading_by m) values) is

-- ---- a loop that puts the millionths of value fields

pub one-more : (none : Bool) (values : List (Option ℤ)) (k : ℕ) (v : Option ℤ) (old now new : List ℤ) (z : ℤ) → k < length values → v ≡ get_or values k v → z ≡ number_of none v → is_small none v ≡ true → new ≡ now ++ to_z w64 (of_z w64 z) ∷ [] → now ≡ old ++ map (number_of none) (take k values) → list_all (is_small none) (take k values) ≡ true → (new ≡ old ++ map (number_of none) (take (k + 1) values)) × (list_all (is_small none) (take (k + 1) values) ≡ true)
one-more none values k v old now new z lt at is small grown done all =
    let f = number_of none in
    let here : z ≡ f (get_or values k v) = is ∙ ap f at in
    let bound : unsigned_abs (f v) < limit = lt_from (unsigned_abs (f v)) limit small in
    let same : to_z w64 (of_z w64 z) ≡ z = back z (subst (λ (x : ℤ). unsigned_abs x < limit) (sym is) bound) in (
      grown
          ∙ ap (λ x. now ++ x ∷ []) (same ∙ here)
          ∙ ap (λ l. l ++ f (get_or values k v) ∷ []) done
          ∙ append_assoc old (map f (take k values)) (f (get_or values k v) ∷ [])
          ∙ ap (λ l. old ++ l) (sym (ap (map f) (take_more values k v lt) ∙ map-append f (take k values) (get_or values k v ∷ []))),
      list_all_more (is_small none) values k v lt ∙ and_from _ _ all (ap (is_small none) (sym at) ∙ small),
    )

-- what holds where a call succeeds, where it does
pub ok-fact : {T E : Type 0} (r : Result T E) (P : Type 0) → IsOk r → OnOk r P → P
ok-fact (Ok x) P ok h = h
ok-fact (Err e) P ok h = absurd cc

pub ok-anyway : {T E : Type 0} (r : Result T E) (P : Type 0) → P → OnOk r P
ok-anyway (Ok x) P h = h
ok-anyway (Err e) P h = tt

pub some_left : (n : ℕ) (none : Bool) → none ≡ (n == 0) → none ≡ false → 0 < n
some_left zero none e f = let g : true ≡ false = sym e ∙ f in absurd cc
some_left (suc n) none e f = omega arith
