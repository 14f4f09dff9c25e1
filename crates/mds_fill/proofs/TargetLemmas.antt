-- The targets of a job, one after the other.
use Rattle.std.proofs.Common.{◌≡◌, ◌+◌, ◌<◌, ◌≤◌, ℕ, ℤ, true, false, Option, Some, None, inl, inr, subst, arith}
use Rattle.std.specs.Prelude.{is_none}
use Rattle.std.proofs.lemmas.Bool.{cases_lt}
use Rattle.mds_world.specs.Facts.{JobContent}
use Rattle.mds_world.specs.World.{World}
use Rattle.mds_fill.specs.Fills.{Finds, HasAll, IsLeast, IsUsable}

-- what holds of none below an interval, and not of it, holds of none up to it
pub none_more : (P : ℕ → Type 0) (first n : ℕ) → (P n → ⊥) → ((i : ℕ) → first ≤ i → i < n → P i → ⊥)
    → (i : ℕ) → first ≤ i → i < n + 1 → P i → ⊥
none_more P first n here below i low high p = elim (cases_lt i n) [
  | inl a ↦ below i low a p
  | inr b ↦ let e : i ≡ n = omega arith in here (subst P e p)
]

-- the first of those that are such
pub is_least : (P : ℕ → Type 0) (first last n : ℕ) → first ≤ n → n ≤ last → P n
    → ((i : ℕ) → first ≤ i → i < n → P i → ⊥) → IsLeast (λ i. ((first ≤ i) × (i ≤ last)) × P i) n
is_least P first last n low high here below = (
  ((low, high), here),
  (λ j p. elim (cases_lt j n) [
    | inl a ↦ absurd (below j p.0.0 a p.1)
    | inr b ↦ b
  ]),
)

pub none_least : (P : ℕ → Type 0) (first last n : ℕ) → last + 1 ≤ n → ((i : ℕ) → first ≤ i → i < n → P i → ⊥)
    → (i : ℕ) → ((first ≤ i) × (i ≤ last)) × P i → ⊥
none_least P first last n over below i p = let high = p.0.1 in below i p.0.0 (omega arith) p.1

-- a further target with a usable value
pub all_more : (w : World) (job : JobContent) (d n : ℕ) (value : Option ℤ) → is_none value ≡ false
    → Finds (IsUsable w job d n) value
    → ((i : ℕ) → job.first ≤ i → i < n → (v : ℤ) × IsUsable w job d i v)
    → (i : ℕ) → job.first ≤ i → i < n + 1 → (v : ℤ) × IsUsable w job d i v
all_more w job d n None e found below i low high = absurd (cc)
all_more w job d n (Some v) e found below i low high = elim (cases_lt i n) [
  | inl a ↦ below i low a
  | inr b ↦ let e : n ≡ i = omega arith in (v, subst (λ k. IsUsable w job d k v) e found)
]

-- and one without
pub not_all : (w : World) (job : JobContent) (d n : ℕ) (value : Option ℤ) → is_none value ≡ true
    → Finds (IsUsable w job d n) value → job.first ≤ n → n ≤ job.last → HasAll w job d → ⊥
not_all w job d n None e found low high all = let u = all n (low, high) in found u.0 u.1
not_all w job d n (Some v) e found low high all = absurd (cc)

-- what is found under one name is found under another
pub finds_as : (P Q : ℤ → Type 0) (found : Option ℤ) → Finds P found → ((v : ℤ) → P v → Q v) → ((v : ℤ) → Q v → P v)
    → Finds Q found
finds_as P Q (Some v) h f g = f v h
finds_as P Q None h f g = λ v q. h v (g v q)
