use Rattle.std.proofs.Common.{arith, rules, ◌≡◌, ◌≤◌, ◌<◌, ◌+◌, ◌*◌, ◌==◌, ◌∙◌, ℕ, ℤ, pos, negsuc, ◌+ℤ◌, unsigned_abs, to_z, of_z, FitsSigned, false, cond, None, option_to_list, length, fold, sym, ap}
use Rattle.std.specs.Int.{w64, w128}
use Rattle.std.proofs.lemmas.Int.{fits_signed_from_abs, ints, to_z-of_z}
use Rattle.mds_marks.specs.Quality.{null}
use Rattle.mds_quantity.specs.Quantity.{limit}
use Rattle.mds_days.proofs.day.Tally.add.Goals as goal

size_sum : (a v : ℤ) → unsigned_abs (a +ℤ v) ≤ unsigned_abs a + unsigned_abs v
size_sum (pos m) (pos n) = omega (arith, ints)
size_sum (pos m) (negsuc n) = omega (arith, ints)
size_sum (negsuc m) (pos n) = omega (arith, ints)
size_sum (negsuc m) (negsuc n) = omega (arith, ints)

-- a value more, after fewer than 288
added : (a v m f : ℤ) (n : ℕ) → n < 288 → unsigned_abs a ≤ n * 1000000000000000000 → m ≡ v → unsigned_abs m < limit → f ≡ to_z w64 (of_z w64 m)
    → FitsSigned w128 (to_z w128 (of_z w128 a) +ℤ to_z w128 (of_z w128 f))
    × (to_z w128 (of_z w128 (to_z w128 (of_z w128 a) +ℤ to_z w128 (of_z w128 f))) ≡ a +ℤ v)
    × (unsigned_abs (a +ℤ v) ≤ (n + 1) * 1000000000000000000)
added a v m f n few small is below cast =
    let same : f ≡ m = cast ∙ to_z-of_z w64 m (fits_signed_from_abs w64 m (omega arith)) in
    let front = to_z-of_z w128 a (fits_signed_from_abs w128 a (omega (arith, small, few))) in
    let part = to_z-of_z w128 m (fits_signed_from_abs w128 m (omega arith)) in
    let size = size_sum a m in
    let fits = fits_signed_from_abs w128 (a +ℤ m) (omega (arith, size, small, few, below)) in
    let whole = to_z-of_z w128 (a +ℤ m) fits in
    (rw (same, part, front) fits, rw (same, part, front, whole, is), rw (← is) (omega (arith, size, small, below)))

pub overflow_add-self : goal.overflow_add-self
overflow_add-self c = omega (arith, c.requires.few)

pub overflow_add-self-in-Some : goal.overflow_add-self-in-Some
overflow_add-self-in-Some c =
    (added c.args.self.now.total c.in-Some.value c.millionths.result c.from.result c.args.self.now.count c.requires.few c.requires.small c.millionths.ensures.value
    c.millionths.ensures.small c.from.ensures).0

pub returns-in-Some-clause-count : goal.returns-in-Some-clause-count
returns-in-Some-clause-count c =
    let other : (c.args.mark.now.quality.flag == null) ≡ false = search rules in
    let count = c.args.self.now.count in
    sym (ap (λ b. count + length (option_to_list (cond b None c.args.value))) other ∙ ap (λ value. count + length (option_to_list value)) c.in-Some.is)

pub returns-in-Some-clause-total : goal.returns-in-Some-clause-total
returns-in-Some-clause-total c =
    let other : (c.args.mark.now.quality.flag == null) ≡ false = search rules in
    let total = c.args.self.now.total in
    let sum =
    added c.args.self.now.total c.in-Some.value c.millionths.result c.from.result c.args.self.now.count c.requires.few c.requires.small c.millionths.ensures.value
    c.millionths.ensures.small c.from.ensures in
    sum.1 ∙ sym (ap (λ b. fold (λ sum value. sum +ℤ value) total (option_to_list (cond b None c.args.value))) other
    ∙ ap (λ value. fold (λ sum value. sum +ℤ value) total (option_to_list value)) c.in-Some.is)

pub returns-in-Some-clause-small : goal.returns-in-Some-clause-small
returns-in-Some-clause-small c =
    let sum =
    added c.args.self.now.total c.in-Some.value c.millionths.result c.from.result c.args.self.now.count c.requires.few c.requires.small c.millionths.ensures.value
    c.millionths.ensures.small c.from.ensures in
    rw sum.1 sum.2
