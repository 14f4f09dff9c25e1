-- The place of a byte.
use Rattle.std.proofs.Common.{◌≡◌, ℕ, ◌≤◌, Some, None, cond, ltb, arith, tests, unwrap_or}

pub or_all : (p n : ℕ) → p ≤ n → unwrap_or (cond (ltb p n) (Some p) None) n ≡ p
or_all p n le = grind (arith, tests)
