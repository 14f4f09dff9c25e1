use Rattle.std.proofs.Common.{arith, ◌≡◌, ℕ, ◌+◌, ◌-◌, ◌*◌, ◌<◌, ◌≤◌, ℤ, pos, ◌+ℤ◌, ◌-ℤ◌, ◌*ℤ◌, FitsSigned, unsigned_abs, to_z, of_z, ◌∙◌}
use Rattle.std.specs.Int.{w64, w128}
use Rattle.std.proofs.lemmas.Int.{to_z-of_z, fits_signed_from_abs, fits_signed_mul, ints}
use Rattle.mds_quantity.specs.Quantity.{limit}
use Rattle.mds_quantity.specs.Rounding.{line_times_steps}
use Rattle.mds_quantity.proofs.Nearest.{line_small}
use Rattle.mds_quantity.proofs.rounding.between.Goals as goal

-- the value of an `i128`, as goals write it
abbrev wide : ℤ → ℤ
wide z = to_z w128 (of_z w128 z)

-- a quantity keeps its value in wider types
widened : (z value start : ℤ) → value ≡ z → unsigned_abs value < limit → start ≡ to_z w64 (of_z w64 value) → wide start ≡ z
widened z value start is small cast =
    let same : start ≡ value = cast ∙ to_z-of_z w64 value (fits_signed_from_abs w64 value (omega arith)) in
    rw same (to_z-of_z w128 value (fits_signed_from_abs w128 value (omega arith)) ∙ is)

-- nothing on the way is too large
rise_fits : (a b : ℤ) → unsigned_abs a < limit → unsigned_abs b < limit → FitsSigned w128 (b -ℤ a)
rise_fits a b small_a small_b = fits_signed_from_abs w128 (b -ℤ a) (omega (arith, ints))

start_fits : (a : ℤ) (n : ℕ) → n ≤ 1000 → unsigned_abs a < limit → FitsSigned w128 (a *ℤ pos (n + 1))
start_fits a n few small = fits_signed_mul w128 a (pos (n + 1)) limit 1001 (omega arith) (omega arith) (omega arith)

place_fits : (a b : ℤ) (j : ℕ) → j ≤ 1000 → unsigned_abs a < limit → unsigned_abs b < limit → FitsSigned w128 ((b -ℤ a) *ℤ pos j)
place_fits a b j few small_a small_b =
    let apart : unsigned_abs (b -ℤ a) ≤ 2 * limit = omega (arith, ints) in
    fits_signed_mul w128 (b -ℤ a) (pos j) (2 * limit) 1000 apart (omega arith) (omega arith)

wide_small : (n : ℕ) → n ≤ 1001 → wide (pos n) ≡ pos n
wide_small n few = to_z-of_z w128 (pos n) (omega (arith, ints))

-- what the code adds up is the value on the line
added : (a b : ℤ) (j n : ℕ) → j ≤ n → n ≤ 1000 → unsigned_abs a < limit → unsigned_abs b < limit →
    wide (a *ℤ wide (pos (n + 1))) +ℤ wide (wide (b -ℤ a) *ℤ wide (pos j)) ≡ line_times_steps a b j n
added a b j n within few small_a small_b =
    let steps = wide_small (n + 1) (omega arith) in
    let place = wide_small j (omega arith) in
    let rise = to_z-of_z w128 (b -ℤ a) (rise_fits a b small_a small_b) in
    let first = to_z-of_z w128 (a *ℤ pos (n + 1)) (start_fits a n few small_a) in
    let second = to_z-of_z w128 ((b -ℤ a) *ℤ pos j) (place_fits a b j (omega arith) small_a small_b) in
    rw (steps, place, rise, first, second)

-- the value on the line, times the number of steps
abbrev line : goal.After-from-3 → ℤ
line c = line_times_steps c.args.before c.args.after c.args.place c.args.count

-- the sum of the code is that value, which is as small as quantities are
record Sum (c : goal.After-from-3) : Type 0 where
  is : wide (wide c.from-start.result *ℤ wide c.from-2.result) +ℤ wide (wide (wide c.from.result -ℤ wide c.from-start.result) *ℤ wide c.from-3.result)
      ≡ line c
  small : unsigned_abs (line c) ≤ (limit - 1) * (c.args.count + 1)
  fits : FitsSigned w128 (line c)

sum_of : (c : goal.After-from-3) → Sum c
sum_of c =
    let before = widened c.args.before _ _ c.millionths.ensures.value c.millionths.ensures.small c.from-start.ensures in
    let after = widened c.args.after _ _ c.millionths-2.ensures.value c.millionths-2.ensures.small c.from.ensures in
    let small_a : unsigned_abs c.args.before < limit = rw c.millionths.ensures.value at c.millionths.ensures.small in
    let small_b : unsigned_abs c.args.after < limit = rw c.millionths-2.ensures.value at c.millionths-2.ensures.small in
    let small = line_small c.args.before c.args.after c.args.place c.args.count c.requires.last small_a small_b in record {
      is = rw (before, after, c.from-2.ensures, c.from-3.ensures) (added c.args.before c.args.after _ _ c.requires.last c.requires.few small_a small_b);
      small = small;
      fits = fits_signed_from_abs w128 (line c) (omega (arith, small));
    }

pub overflow_add-start : goal.overflow_add-start
overflow_add-start c = let sum = sum_of c in rw sum.is sum.fits

pub rounded-requires-clause-of_quantities : goal.rounded-requires-clause-of_quantities
rounded-requires-clause-of_quantities c = let sum = sum_of c in rw (sum.is, to_z-of_z w128 (line c) sum.fits) sum.small

pub returns : goal.returns
returns c = let sum = sum_of c.before in rw (sum.is, to_z-of_z w128 (line c.before) sum.fits) at c.rounded.ensures

pub overflow_sub-rise : goal.overflow_sub-rise
overflow_sub-rise c =
    let before = widened c.args.before _ _ c.millionths.ensures.value c.millionths.ensures.small c.from-start.ensures in
    let after = widened c.args.after _ _ c.millionths-2.ensures.value c.millionths-2.ensures.small c.from.ensures in
    let small_a : unsigned_abs c.args.before < limit = rw c.millionths.ensures.value at c.millionths.ensures.small in
    let small_b : unsigned_abs c.args.after < limit = rw c.millionths-2.ensures.value at c.millionths-2.ensures.small in
    rw (before, after) (rise_fits c.args.before c.args.after small_a small_b)

pub overflow_mul-start : goal.overflow_mul-start
overflow_mul-start c =
    let before = widened c.args.before _ _ c.millionths.ensures.value c.millionths.ensures.small c.from-start.ensures in
    let small_a : unsigned_abs c.args.before < limit = rw c.millionths.ensures.value at c.millionths.ensures.small in
    rw (before, c.from-2.ensures, wide_small (c.args.count + 1) (omega (arith, c.requires.few)))
    (start_fits c.args.before c.args.count c.requires.few small_a)

pub overflow_mul-rise : goal.overflow_mul-rise
overflow_mul-rise c =
    let before = widened c.args.before _ _ c.millionths.ensures.value c.millionths.ensures.small c.from-start.ensures in
    let after = widened c.args.after _ _ c.millionths-2.ensures.value c.millionths-2.ensures.small c.from.ensures in
    let small_a : unsigned_abs c.args.before < limit = rw c.millionths.ensures.value at c.millionths.ensures.small in
    let small_b : unsigned_abs c.args.after < limit = rw c.millionths-2.ensures.value at c.millionths-2.ensures.small in
    let few : c.args.place ≤ 1000 = omega (arith, c.requires.last, c.requires.few) in
    rw (
      before,
      after,
      to_z-of_z w128 (c.args.after -ℤ c.args.before) (rise_fits c.args.before c.args.after small_a small_b),
      c.from-3.ensures,
      wide_small c.args.place (omega (arith, few)),
    )
    (place_fits c.args.before c.args.after c.args.place few small_a small_b)
