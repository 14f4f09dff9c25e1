-- Rounding to a whole number, and which number is rounded when values are substituted (profile).
use Rattle.std.specs.Prelude.{◌≤◌, ℕ, ◌+◌, ◌*◌, ℤ, pos, ◌+ℤ◌, ◌-ℤ◌, ◌*ℤ◌, unsigned_abs}

-- the whole number nearest to p/q; of two that are equally near, the one farther from zero
pub record IsRounded (p : ℤ) (q : ℕ) (r : ℤ) : Type 0 where
  pub near : 2 * unsigned_abs (r *ℤ pos q -ℤ p) ≤ q
  pub away : (s : ℤ) → 2 * unsigned_abs (s *ℤ pos q -ℤ p) ≤ q → unsigned_abs s ≤ unsigned_abs r

-- the value at a place among `count` evenly spaced values between two others, times the number of
-- steps there
abbrev pub line_times_steps : ℤ → ℤ → ℕ → ℕ → ℤ
line_times_steps before after place count = before *ℤ pos (count + 1) +ℤ (after -ℤ before) *ℤ pos place
