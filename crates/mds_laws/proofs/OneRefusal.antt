-- The rule that a file or a job breaks first is determined.
use Rattle.std.specs.Prelude.{◌≡◌, ◌⊎◌, ℕ, ◌<◌}
use Rattle.std.proofs.Common.{sym, ◌∙◌, subst, inl, inr, refl}
use Rattle.std.proofs.lemmas.Bool.{cases_lt}
use Rattle.std.proofs.Math.Nat.{le_antisymm}
use Rattle.mds_world.specs.World.{World, union}
use Rattle.mds_keeper.specs.Merge.{Breaks, HasTwoLengths, HasTwoReadings, HasTwoUnits, IsRefusal}
use Rattle.mds_keeper.specs.declared.refusal.Refusal.{Refusal}
use Rattle.mds_keeper.specs.declared.refusal.RefusalCode.{RefusalCode}
use Rattle.mds_keeper.specs.declared.refusal.RefusalCode.TheVariants as code
use Rattle.mds_laws.proofs.Conflicts.{breaks_none}
use Rattle.mds_laws.proofs.OneList.{first_of}

-- two refusals of the same parts
pub one_refusal : (r s : Refusal) → r.code ≡ s.code → r.line ≡ s.line → r.field ≡ s.field → r.interval ≡ s.interval → r ≡ s
one_refusal r s a b c d = λ i. record { code = a i; line = b i; field = c i; interval = d i }

-- two numbers neither of which is below the other
neither_below : (m n : ℕ) → (m < n → ⊥) → (n < m → ⊥) → m ≡ n
neither_below m n a b = elim (cases_lt m n) [
  | inl less ↦ absurd (a less)
  | inr more ↦ elim (cases_lt n m) [ inl less ↦ absurd (b less) | inr upto ↦ le_antisymm upto more ]
]

-- the least of its kind
two_least : (P : ℕ → Type 0) (m n : ℕ) → P m → P n → ((i : ℕ) → i < m → P i → ⊥) → ((i : ℕ) → i < n → P i → ⊥) → m ≡ n
two_least P m n a b x y = neither_below m n (λ less. y m less a) (λ less. x n less b)

-- what a World breaks first, rule by rule
abbrev Broken : World → RefusalCode → ℕ → Type 0
Broken w broken interval =
    ((broken ≡ code.LengthConflict) × HasTwoLengths w × (interval ≡ 0))
    ⊎ ((HasTwoLengths w → ⊥)
    × (((broken ≡ code.UnitConflict) × HasTwoUnits w × (interval ≡ 0))
    ⊎ ((HasTwoUnits w → ⊥)
    × ((broken ≡ code.VersionConflict) × HasTwoReadings w interval × ((i : ℕ) → i < interval → HasTwoReadings w i → ⊥)))))

by_rule : (w : World) (broken : RefusalCode) (interval : ℕ) → Breaks w broken interval → Broken w broken interval
by_rule w code.LengthConflict interval (two, zero) = inl (refl, two, zero)
by_rule w code.UnitConflict interval (lengths, two, zero) = inr (lengths, inl (refl, two, zero))
by_rule w code.VersionConflict interval (lengths, units, two, least) = inr (lengths, inr (units, (refl, two, least)))
by_rule w code.JobReused interval breaks = absurd breaks
by_rule w code.Protected interval breaks = absurd breaks
by_rule w code.StaleUpdate interval breaks = absurd breaks
by_rule w code.NoLikeDay interval breaks = absurd breaks
by_rule w code.TooLong interval breaks = absurd breaks
by_rule w code.NoAnchor interval breaks = absurd breaks
by_rule w code.UnknownDay interval breaks = absurd breaks
by_rule w code.BadJob interval breaks = absurd breaks
by_rule w code.RangeTooWide interval breaks = absurd breaks

-- a World breaks one rule first, at one interval
one_break : (w : World) (broken other : RefusalCode) (i j : ℕ) → Breaks w broken i → Breaks w other j
    → (broken ≡ other) × (i ≡ j)
one_break w broken other i j a b =
    first_of (λ x no. no x.1) (λ x no. no x.1) (λ x y. (x.0 ∙ sym y.0, x.2 ∙ sym y.2))
    (first_of (λ x no. no x.1) (λ x no. no x.1) (λ x y. (x.0 ∙ sym y.0, x.2 ∙ sym y.2))
    (λ x y. (x.0 ∙ sym y.0, two_least (HasTwoReadings w) i j x.1 y.1 x.2 y.2)))
    (by_rule w broken i a) (by_rule w other j b)

-- a file is refused by one refusal
pub one_refused : (w : World) (stated_upto : ℕ → World) (r s : Refusal) → IsRefusal w stated_upto r
    → IsRefusal w stated_upto s → r ≡ s
one_refused w stated_upto r s a b =
    let line : r.line ≡ s.line = neither_below r.line s.line
    (λ less. breaks_none (union w (stated_upto r.line)) r.code r.interval (b.before r.line less) a.breaks)
    (λ less. breaks_none (union w (stated_upto s.line)) s.code s.interval (a.before s.line less) b.breaks) in
    let rule = one_break (union w (stated_upto s.line)) r.code s.code r.interval s.interval
    (subst (λ n. Breaks (union w (stated_upto n)) r.code r.interval) line a.breaks) b.breaks in
    one_refusal r s rule.0 line (a.no_field ∙ sym b.no_field) rule.1
