-- How often a reader or a writer failed, at the exits of a call.
use Rattle.std.proofs.Common.{◌≡◌, ◌≢◌, ◌+◌, List, ℕ, Option, None, Some, Result, Ok, Err, refl, arith}
use Rattle.std.specs.Io.KnownBytes.{Keeps}

module _ {T E : Type 0} where
  pub errors_apart : {e f : E} → (e ≡ f → ⊥) → ◌≡◌ {A = Result T E} (Err e) (Err f) → ⊥
  errors_apart apart is = apart (cc)

  pub ok_apart : {x : T} {e : E} → ◌≡◌ {A = Result T E} (Ok x) (Err e) → ⊥
  ok_apart is = absurd (cc)

  -- the result is another error than the one that is counted
  pub other_error : {e f : E} {P Q : Type 0} → (e ≡ f → ⊥) → Q
      → (◌≡◌ {A = Result T E} (Err e) (Err f) → P) × (◌≢◌ {A = Result T E} (Err e) (Err f) → Q)
  other_error apart q = (λ is. absurd (errors_apart apart is), λ _. q)

  -- or none
  pub no_error : {x : T} {e : E} {P Q : Type 0} → Q
      → (◌≡◌ {A = Result T E} (Ok x) (Err e) → P) × (◌≢◌ {A = Result T E} (Ok x) (Err e) → Q)
  no_error q = (λ is. absurd (ok_apart is), λ _. q)

-- or that error
pub that_error : {A : Type 0} {x : A} {P Q : Type 0} → P → (x ≡ x → P) × (x ≢ x → Q)
that_error p = (λ _. p, λ other. absurd (other refl))

pub none_more : {new old : ℕ} → new ≡ old + 0 → new ≡ old
none_more e = omega arith

-- what a call counts after one that failed nowhere
pub counted_on : {A : Type 0} {x y : A} {new mid old : ℕ} → mid ≡ old → (x ≡ y → new ≡ mid + 1) × (x ≢ y → new ≡ mid)
    → (x ≡ y → new ≡ old + 1) × (x ≢ y → new ≡ old)
counted_on e h = rw e at h

-- what holds the same keeps it
pub keeps_same : (a : Option (List ℕ)) → Keeps a a
keeps_same None = tt
keeps_same (Some xs) = refl
