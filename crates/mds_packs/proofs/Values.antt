-- Readings' values as bytes, both ways.
use Rattle.std.proofs.Common.{◌≡◌, ℕ, ℤ, unsigned_abs, ◌^◌, ◌<◌, Bool, true, false, cond, ◌&&◌, nat_eq, nat_lt, List, [], ◌∷◌, ◌++◌, Option, Some, None, refl, sym, ap, subst, ◌∙◌, append_assoc, arith}
use Rattle.std.specs.List.{flat_map, list_all, AllByRecursion}
use Rattle.std.specs.Prelude.{FitsSigned}
use Rattle.std.specs.Int.{w64, to_be_bytes, cast_signed, cast_unsigned}
use Rattle.std.proofs.lemmas.Int.{to_z-of_z, of_z-to_z, fits_signed_from_abs}
use Rattle.std.proofs.Math.Facts.{Fits-lt-pow, Fits-of_z}
use Rattle.std.proofs.lemmas.List.Concat.{flat_map-cons}
use Rattle.mds_quantity.specs.Quantity.{limit}
use Rattle.mds_marks.specs.Quality.{null}
use Rattle.mds_marks.specs.Mark.{is_mark}
use Rattle.mds_marks.specs.Reading.{ReadingValue, is_reading, is_value, is_lawful, joined}
use Rattle.mds_marks.specs.declared.mark.Mark.{Mark}
use Rattle.mds_packs.specs.Body.{value_bytes, reading_bytes, marks_of, is_held_lawful}
use Rattle.mds_packs.specs.Unpacked.{◌>>=◌, number_at, value_at, reading_at, readings_at}
use Rattle.mds_packs.proofs.Fields.{IsBytes, bind_some, step, passed_some, some_is, Takes, Takes-then, wide64, number_takes, number_again}
use Rattle.mds_packs.proofs.RunBytes.{and_both}

-- ---- numbers and flags

lt_true : (a b : ℕ) → a < b → nat_lt a b ≡ true
lt_true a b lt = grind arith

lt_from : (a b : ℕ) → nat_lt a b ≡ true → a < b
lt_from a b e = grind arith

fits_signed : (z : ℤ) → unsigned_abs z < limit → FitsSigned w64 z
fits_signed z lt = fits_signed_from_abs w64 z (omega arith)

unsigned_fits : (z : ℤ) → FitsSigned w64 z → cast_unsigned w64 z < 2 ^ 64
unsigned_fits z fits = Fits-lt-pow (Fits-of_z fits)

none_null : (b c : Bool) → (c && cond b true false) ≡ true → b ≡ true
none_null true c e = refl
none_null false true e = absurd cc
none_null false false e = absurd cc

some_other : (b c : Bool) (z : ℤ) → (c && cond b false true) ≡ true → b ≡ false
some_other false c z e = refl
some_other true true z e = absurd cc
some_other true false z e = absurd cc

-- ---- a value

abbrev pub small : ℕ → Bool
small n = nat_lt (unsigned_abs (cast_signed w64 n)) limit

abbrev pub v1 : ℕ × List ℕ → Option (Option ℤ × List ℕ)
v1 n = cond (small n.0) (Some (Some (cast_signed w64 n.0), n.1)) None

abbrev TakesValue : List ℕ → Option ℤ × List ℕ → Type 0
TakesValue bytes x = Takes bytes (value_bytes x.0) x.1 × (is_value x.0 ≡ true)

value_is_some : (bytes : List ℕ) (x : Option ℤ × List ℕ) → IsBytes bytes → (number_at w64 bytes >>= v1) ≡ Some x → TakesValue bytes x
value_is_some bytes x fits e =
    let a = bind_some (number_at w64 bytes) v1 x e in
    let n = a.0.0 in
    let t = number_takes w64 (2 ^ 64) wide64 bytes n a.0.1 fits a.1 in
    let g = passed_some (small n) (Some (cast_signed w64 n), a.0.1) x a.2 in
    let back : to_be_bytes w64 n ≡ to_be_bytes w64 (cast_unsigned w64 (cast_signed w64 n)) = ap (to_be_bytes w64) (sym (of_z-to_z w64 n t.1)) in
    subst (TakesValue bytes) g.1 (subst (λ (b : List ℕ). Takes bytes b a.0.1) back t.0, g.0)

pub value_takes : (flag : ℕ) (bytes : List ℕ) (x : Option ℤ × List ℕ) → IsBytes bytes → value_at flag bytes ≡ Some x → TakesValue bytes x
unfolding value_at
value_takes flag bytes x fits e = elim (nat_eq flag null) as (λ b. cond b (Some (None, bytes)) (number_at w64 bytes >>= v1) ≡ Some x → TakesValue bytes x) [
  | true ↦ λ f. subst (TakesValue bytes) (some_is (None, bytes) x f) (record { parts = refl; rest_fits = fits }, refl)
  | false ↦ λ f. value_is_some bytes x fits f
] e

value_some_again : (z : ℤ) (rest : List ℕ) → unsigned_abs z < limit → (number_at w64 (to_be_bytes w64 (cast_unsigned w64 z) ++ rest) >>= v1) ≡ Some (Some z, rest)
value_some_again z rest lt =
    let n = cast_unsigned w64 z in
    let same : cast_signed w64 n ≡ z = to_z-of_z w64 z (fits_signed z lt) in
    let within : small n ≡ true = ap (λ (y : ℤ). nat_lt (unsigned_abs y) limit) same ∙ lt_true (unsigned_abs z) limit lt in
    step (number_at w64 (to_be_bytes w64 n ++ rest)) v1 (n, rest) (number_again w64 (2 ^ 64) wide64 n rest (unsigned_fits z (fits_signed z lt)))
    ∙ ap (λ b. cond b (Some (Some (cast_signed w64 n), rest)) None) within ∙ ap (λ (y : ℤ). Some (Some y, rest)) same

pub value_again : (flag : ℕ) (v : Option ℤ) (rest : List ℕ) → is_value v ≡ true → is_reading flag v ≡ true → value_at flag (value_bytes v ++ rest) ≡ Some (v, rest)
unfolding value_at
value_again flag None rest small go =
    let is : nat_eq flag null ≡ true = none_null (nat_eq flag null) _ go in
    ap (λ b. cond b (Some (None, rest)) (number_at w64 rest >>= v1)) is
value_again flag (Some z) rest small go =
    let is : nat_eq flag null ≡ false = some_other (nat_eq flag null) _ z go in
    ap (λ b. cond b (Some (None, to_be_bytes w64 (cast_unsigned w64 z) ++ rest)) (number_at w64 (to_be_bytes w64 (cast_unsigned w64 z) ++ rest) >>= v1)) is
    ∙ value_some_again z rest (lt_from (unsigned_abs z) limit small)

-- ---- a reading

abbrev g2 : List ℕ → ReadingValue → Option (ReadingValue × List ℕ)
g2 rest r = Some (r, rest)

abbrev g1 : Mark → Option ℤ × List ℕ → Option (ReadingValue × List ℕ)
g1 mark x = joined mark x.0 >>= g2 x.1

abbrev reading_made : Mark → Option ℤ → ReadingValue
reading_made mark value = record { mark = mark; value = value }

abbrev TakesReading : Mark → List ℕ → ReadingValue × List ℕ → Type 0
TakesReading mark bytes x = Takes bytes (value_bytes x.0.value) x.1 × (x.0.mark ≡ mark) × (is_lawful x.0 ≡ true)

pub reading_takes : (mark : Mark) (bytes : List ℕ) (x : ReadingValue × List ℕ) → IsBytes bytes → is_mark mark ≡ true → reading_at mark bytes ≡ Some x → TakesReading mark bytes x
unfolding reading_at
reading_takes mark bytes x fits lawful e =
    let a = bind_some (value_at mark.quality.flag bytes) (g1 mark) x e in
    let b = bind_some (joined mark a.0.0) (g2 a.0.1) x a.2 in
    let t = value_takes mark.quality.flag bytes a.0 fits a.1 in
    let g = passed_some (is_reading mark.quality.flag a.0.0) (reading_made mark a.0.0) b.0 b.1 in
    let all : is_lawful (reading_made mark a.0.0) ≡ true = rw (lawful, t.1, g.0) refl in
    subst (TakesReading mark bytes) (ap (λ (r : ReadingValue). (r, a.0.1)) g.1 ∙ some_is (b.0, a.0.1) x b.2) (t.0, refl, all)

three : (a b c : Bool) → (a && b && c) ≡ true → (a ≡ true) × (b ≡ true) × (c ≡ true)
three true true c e = (refl, refl, e)
three true false c e = absurd cc
three false b c e = absurd cc

pub lawful_parts : (r : ReadingValue) → is_lawful r ≡ true → (is_mark r.mark ≡ true) × (is_value r.value ≡ true) × (is_reading r.mark.quality.flag r.value ≡ true)
lawful_parts r e = three (is_mark r.mark) (is_value r.value) (is_reading r.mark.quality.flag r.value) e

pub reading_again : (r : ReadingValue) (rest : List ℕ) → is_lawful r ≡ true → reading_at r.mark (value_bytes r.value ++ rest) ≡ Some (r, rest)
unfolding reading_at
reading_again r rest e =
    let f = lawful_parts r e in
    step (value_at r.mark.quality.flag (value_bytes r.value ++ rest)) (g1 r.mark) (r.value, rest) (value_again r.mark.quality.flag r.value rest f.1 f.2)
    ∙ ap (λ b. cond b (Some r) None >>= g2 rest) f.2

-- ---- readings

abbrev IsMarkOrNone : Option Mark → Type 0
IsMarkOrNone None = Unit {0}
IsMarkOrNone (Some m) = is_mark m ≡ true

abbrev pub AreMarks : List (Option Mark) → Type 0
AreMarks marks = AllByRecursion IsMarkOrNone marks

abbrev h2 : Option ReadingValue → List (Option ReadingValue) × List ℕ → Option (List (Option ReadingValue) × List ℕ)
h2 r x = Some (r ∷ x.0, x.1)

abbrev h1 : List (Option Mark) → ReadingValue × List ℕ → Option (List (Option ReadingValue) × List ℕ)
h1 marks x = readings_at marks x.1 >>= h2 (Some x.0)

abbrev TakesReadings : List (Option Mark) → List ℕ → List (Option ReadingValue) × List ℕ → Type 0
TakesReadings marks bytes x = Takes bytes (flat_map reading_bytes x.0) x.1 × (marks_of x.0 ≡ marks) × (list_all is_held_lawful x.0 ≡ true)

pub readings_take : (marks : List (Option Mark)) (bytes : List ℕ) (x : List (Option ReadingValue) × List ℕ) → IsBytes bytes → AreMarks marks → readings_at marks bytes ≡ Some x → TakesReadings marks bytes x
readings_take [] bytes x fits lawful e = subst (TakesReadings [] bytes) (some_is ([], bytes) x e) (record { parts = refl; rest_fits = fits }, refl, refl)
readings_take (None ∷ marks) bytes x fits lawful e =
    let a = bind_some (readings_at marks bytes) (h2 None) x e in
    let t = readings_take marks bytes a.0 fits lawful.1 a.1 in
    let whole : Takes bytes (flat_map reading_bytes (None ∷ a.0.0)) a.0.1 = subst (λ (b : List ℕ). Takes bytes b a.0.1) (sym (flat_map-cons reading_bytes None a.0.0)) t.0 in
    subst (TakesReadings (None ∷ marks) bytes) (some_is (None ∷ a.0.0, a.0.1) x a.2) (whole, ap (λ l. None ∷ l) t.1, t.2)
readings_take (Some m ∷ marks) bytes x fits lawful e =
    let a = bind_some (reading_at m bytes) (h1 marks) x e in
    let b = bind_some (readings_at marks a.0.1) (h2 (Some a.0.0)) x a.2 in
    let first = reading_takes m bytes a.0 fits lawful.0 a.1 in
    let second = readings_take marks a.0.1 b.0 first.0.rest_fits lawful.1 b.1 in
    let both = Takes-then bytes (value_bytes a.0.0.value) a.0.1 (flat_map reading_bytes b.0.0) b.0.1 first.0 second.0 in
    let whole : Takes bytes (flat_map reading_bytes (Some a.0.0 ∷ b.0.0)) b.0.1 = subst (λ (t : List ℕ). Takes bytes t b.0.1) (sym (flat_map-cons reading_bytes (Some a.0.0) b.0.0)) both in
    let marked : marks_of (Some a.0.0 ∷ b.0.0) ≡ Some m ∷ marks = ap (λ y. Some y ∷ marks_of b.0.0) first.1 ∙ ap (λ l. Some m ∷ l) second.1 in
    let held : list_all is_held_lawful (Some a.0.0 ∷ b.0.0) ≡ true = ap (λ c. c && list_all is_held_lawful b.0.0) first.2 ∙ second.2 in
    subst (TakesReadings (Some m ∷ marks) bytes) (some_is (Some a.0.0 ∷ b.0.0, b.0.1) x b.2) (whole, marked, held)

pub readings_again : (readings : List (Option ReadingValue)) (rest : List ℕ) → list_all is_held_lawful readings ≡ true → readings_at (marks_of readings) (flat_map reading_bytes readings ++ rest) ≡ Some (readings, rest)
readings_again [] rest e = refl
readings_again (None ∷ readings) rest e =
    let f = and_both true (list_all is_held_lawful readings) e in
    let bytes : flat_map reading_bytes (None ∷ readings) ++ rest ≡ flat_map reading_bytes readings ++ rest = ap (λ (x : List ℕ). x ++ rest) (flat_map-cons reading_bytes None readings) in
    ap (readings_at (None ∷ marks_of readings)) bytes
    ∙ step (readings_at (marks_of readings) (flat_map reading_bytes readings ++ rest)) (h2 None) (readings, rest) (readings_again readings rest f.1)
readings_again (Some r ∷ readings) rest e =
    let f = and_both (is_lawful r) (list_all is_held_lawful readings) e in
    let tail = flat_map reading_bytes readings ++ rest in
    let bytes : flat_map reading_bytes (Some r ∷ readings) ++ rest ≡ value_bytes r.value ++ tail = ap (λ (x : List ℕ). x ++ rest) (flat_map-cons reading_bytes (Some r) readings) ∙ append_assoc (value_bytes r.value) (flat_map reading_bytes readings) rest in
    ap (readings_at (Some r.mark ∷ marks_of readings)) bytes
    ∙ step (reading_at r.mark (value_bytes r.value ++ tail)) (h1 (marks_of readings)) (r, tail) (reading_again r tail f.0)
    ∙ step (readings_at (marks_of readings) tail) (h2 (Some r)) (readings, rest) (readings_again readings rest f.1)
