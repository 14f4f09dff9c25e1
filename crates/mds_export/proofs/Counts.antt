-- How many intervals a day has.
use Rattle.std.proofs.Common.{◌≡◌, ◌<◌, ◌≤◌, ℕ, true, subst, sym, inl, inr, arith}
use Rattle.mds_calendar.specs.Length.{count_of, is_length}
use Rattle.mds_calendar.proofs.Lengths.{cases_length}

pub count_small : (minutes : ℕ) → is_length minutes ≡ true → (0 < count_of minutes) × (count_of minutes ≤ 288)
count_small minutes h =
    let P : ℕ → Type 0 = λ n. (0 < count_of n) × (count_of n ≤ 288) in
    elim (cases_length minutes h) [
      | inl e ↦ subst P (sym e) (omega arith, omega arith)
      | inr (inl e) ↦ subst P (sym e) (omega arith, omega arith)
      | inr (inr e) ↦ subst P (sym e) (omega arith, omega arith)
    ]
