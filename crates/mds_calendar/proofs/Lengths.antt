-- The lengths of intervals.
use Rattle.std.proofs.Common.{◌≡◌, ℕ, ◌⊎◌, inl, inr, true, refl, Some, arith, codes, decimal}
use Rattle.std.specs.Fmt.{digits}
use Rattle.std.proofs.lemmas.Bool.Decides.{nat_tests}
use Rattle.mds_calendar.specs.Length.{is_length, length_of}

-- a length is 5, 15 or 30
pub cases_length : (n : ℕ) → is_length n ≡ true → (n ≡ 5) ⊎ ((n ≡ 15) ⊎ (n ≡ 30))
cases_length n h = grind (arith, nat_tests)

-- the digits of each
pub decimal_5 : decimal 5 ≡ codes "5"
unfolding digits
decimal_5 = refl

pub decimal_15 : decimal 15 ≡ codes "15"
unfolding digits
decimal_15 = refl

pub decimal_30 : decimal 30 ≡ codes "30"
unfolding digits
decimal_30 = refl

-- which read back
pub length_reads_back : (n : ℕ) → is_length n ≡ true → length_of (decimal n) ≡ Some n
length_reads_back n h =
    elim (cases_length n h) [
      | inl e ↦ rw (e, decimal_5)
      | inr (inl e) ↦ rw (e, decimal_15)
      | inr (inr e) ↦ rw (e, decimal_30)
    ]
