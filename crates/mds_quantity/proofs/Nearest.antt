-- The nearest whole number of a fraction, by its size: for rounding.
use Rattle.std.proofs.Common.{◌≡◌, ℕ, zero, suc, ◌+◌, ◌*◌, ◌/◌, ◌-◌, ◌<◌, ◌≤◌, ℤ, pos, negsuc, neg_ℤ, ◌+ℤ◌, ◌*ℤ◌, ◌-ℤ◌, unsigned_abs, false, cond, int_lt, arith, ap, sym, subst, ◌∙◌}
use Rattle.std.proofs.lemmas.Int.{ints, unsigned_abs-mul}
use Rattle.std.proofs.lemmas.Nat.{le-div}
use Rattle.std.proofs.Math.Nat.{mul-div-le, lt-mul-div-succ, lt_of_mul-lt-mul_right, mul-le-mul_right}
use borrow.Author.Differences.{up, down}
use Rattle.mds_quantity.specs.Quantity.{limit}
use Rattle.mds_quantity.specs.Rounding.{IsRounded, line_times_steps}

-- what lies near p is no larger than what lies near the size of p
size_near : (p : ℤ) (q : ℕ) (s : ℤ) → 2 * unsigned_abs (s *ℤ pos q -ℤ p) ≤ q → 2 * (unsigned_abs s * q) ≤ 2 * unsigned_abs p + q
size_near (pos m) q (pos s) h = omega (arith, ints)
size_near (pos m) q (negsuc s) h = omega (arith, ints)
size_near (negsuc m) q (pos s) h = omega (arith, ints)
size_near (negsuc m) q (negsuc s) h = omega (arith, ints)

-- the size that is nearest to a size
abbrev pub nearest : ℕ → ℕ → ℕ
nearest m q = (2 * m + q) / (2 * q)

-- it is at most half a part above, and less than half a part below
nearest_bounds : (m q : ℕ) → 0 < q → (2 * (nearest m q * q) ≤ 2 * m + q) × (2 * m < 2 * (nearest m q * q) + q)
nearest_bounds m q some =
    let below : 2 * q * nearest m q ≤ 2 * m + q = mul-div-le (2 * m + q) (2 * q) in
    let above : 2 * m + q < 2 * q * (nearest m q + 1) = lt-mul-div-succ (2 * m + q) (omega arith) in
    (omega arith, omega arith)

-- nothing near p is larger than the nearest size
nearest_most : (p : ℤ) (q : ℕ) (s : ℤ) → 0 < q → 2 * unsigned_abs (s *ℤ pos q -ℤ p) ≤ q → unsigned_abs s ≤ nearest (unsigned_abs p) q
nearest_most p q s some h =
    let size = size_near p q s h in
    le-div (unsigned_abs s) (2 * unsigned_abs p + q) (2 * q) (omega arith) (omega arith)

near_below : (m q a : ℕ) → 2 * (a * q) ≤ 2 * suc m + q → 2 * suc m ≤ 2 * (a * q) + q → 2 * unsigned_abs (neg_ℤ (pos a) *ℤ pos q -ℤ negsuc m) ≤ q
near_below m q zero below above = omega (arith, ints)
near_below m q (suc a) below above = omega (arith, ints)

-- the nearest size, with the sign of p, is the rounded number
pub rounded_size : (p : ℤ) (q : ℕ) → 0 < q → IsRounded p q (cond (int_lt p (pos 0)) (neg_ℤ (pos (nearest (unsigned_abs p) q))) (pos (nearest (unsigned_abs p) q)))
rounded_size (pos m) q some =
    let b = nearest_bounds m q some in
    let up : int_lt (pos m) (pos 0) ≡ false = grind (arith, ints) in
    rw up (record {
      near = omega (arith, ints);
      away = λ s h. nearest_most (pos m) q s some h;
    })
rounded_size (negsuc m) q some =
    let b = nearest_bounds (suc m) q some in
    let size : unsigned_abs (neg_ℤ (pos (nearest (suc m) q))) ≡ nearest (suc m) q = omega (arith, ints) in record {
      near = near_below m q (nearest (suc m) q) b.0 (omega arith);
      away = λ s h. rw size (nearest_most (negsuc m) q s some h);
    }

-- what is as small as quantities rounds to a quantity
pub nearest_small : (m q : ℕ) → 0 < q → m ≤ (limit - 1) * q → nearest m q < limit
nearest_small m q some small = let b = nearest_bounds m q some in lt_of_mul-lt-mul_right q (omega arith)

-- the two numbers of one size other than 0 are not both near p
not_both : (p : ℤ) (q n : ℕ) → 0 < q → 2 * unsigned_abs (pos (suc n) *ℤ pos q -ℤ p) ≤ q → 2 * unsigned_abs (negsuc n *ℤ pos q -ℤ p) ≤ q → ⊥
not_both p q n some up down = omega (arith, ints)

one_of_size : (p : ℤ) (q : ℕ) (r s : ℤ) → 0 < q → unsigned_abs r ≡ unsigned_abs s → 2 * unsigned_abs (r *ℤ pos q -ℤ p) ≤ q → 2 * unsigned_abs (s *ℤ pos q -ℤ p) ≤ q → r ≡ s
one_of_size p q (pos r) (pos s) some size near_r near_s = ap pos size
one_of_size p q (pos r) (negsuc s) some size near_r near_s =
    absurd (not_both p q s some (subst (λ (n : ℕ). 2 * unsigned_abs (pos n *ℤ pos q -ℤ p) ≤ q) size near_r) near_s)
one_of_size p q (negsuc r) (pos s) some size near_r near_s =
    absurd (not_both p q r some (subst (λ (n : ℕ). 2 * unsigned_abs (pos n *ℤ pos q -ℤ p) ≤ q) (sym size) near_s) near_r)
one_of_size p q (negsuc r) (negsuc s) some size near_r near_s = ap negsuc (omega arith)

-- one number is the rounded one: by its size, and then by its sign
pub only_one : (p : ℤ) (q : ℕ) (r s : ℤ) → 0 < q → IsRounded p q r → IsRounded p q s → r ≡ s
only_one p q r s some is_r is_s =
    let at_least = is_r.away s is_s.near in
    let at_most = is_s.away r is_r.near in
    one_of_size p q r s some (omega arith) is_r.near is_s.near

-- a value on the line from a to b by the steps to each end
line_by_ends : (a b : ℤ) (j k : ℕ) → a *ℤ pos (k + j) +ℤ (b -ℤ a) *ℤ pos j ≡ a *ℤ pos k +ℤ b *ℤ pos j
line_by_ends a b j k =
    let e : (up (b -ℤ a) + up a + down b) * j ≡ (down (b -ℤ a) + down a + up b) * j = ap (λ (n : ℕ). n * j) (omega (arith, ints)) in
    omega (arith, ints)

abs_add : (x y : ℤ) → unsigned_abs (x +ℤ y) ≤ unsigned_abs x + unsigned_abs y
abs_add x y = omega (arith, ints)

-- a value on the line from one quantity to another is no farther from zero than they can be
pub line_small : (a b : ℤ) (j n : ℕ) → j ≤ n → unsigned_abs a < limit → unsigned_abs b < limit → unsigned_abs (line_times_steps a b j n) ≤ (limit - 1) * (n + 1)
line_small a b j n within small_a small_b =
    let k = n + 1 - j in
    let all : n + 1 ≡ k + j = omega arith in
    let ends : line_times_steps a b j n ≡ a *ℤ pos k +ℤ b *ℤ pos j = ap (λ (m : ℕ). a *ℤ pos m +ℤ (b -ℤ a) *ℤ pos j) all ∙ line_by_ends a b j k in
    let from_a : unsigned_abs a * k ≤ (limit - 1) * k = mul-le-mul_right k (omega arith) in
    let from_b : unsigned_abs b * j ≤ (limit - 1) * j = mul-le-mul_right j (omega arith) in
    rw ends (omega (arith, abs_add (a *ℤ pos k) (b *ℤ pos j), unsigned_abs-mul a (pos k), unsigned_abs-mul b (pos j)))
