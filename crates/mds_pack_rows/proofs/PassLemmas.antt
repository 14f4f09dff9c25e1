-- What an answer of the library says, once its error is passed on as one of this program.
use Rattle.std.proofs.Common.{◌≡◌, Ok, Err, IfErr, IfOk, OnOk, Result, refl}
use Rattle.std.specs.Prelude.{IsErr, IsOk, MatchResult}

pub told_ok : {A E F : Type 0} (P : A → Type 0) (u : Result A F) (r : Result A E) → MatchResult u (λ x. r ≡ Ok x) (λ _. IsErr r)
    → ((x : A) → r ≡ Ok x → P x) → IfOk u P
told_ok P (Ok x) r is p = p x is
told_ok P (Err e) r is p = tt

pub on_told : {A E F : Type 0} (P : Type 0) (u : Result A F) (r : Result A E) → MatchResult u (λ x. r ≡ Ok x) (λ _. IsErr r)
    → ((x : A) → r ≡ Ok x → P) → OnOk u P
on_told P (Ok x) r is p = p x is
on_told P (Err e) r is p = tt

-- what holds of both answers
pub passed : {A E F : Type 0} (P : Result A F → Type 0) (u : Result A F) (r : Result A E) → MatchResult u (λ x. r ≡ Ok x) (λ _. IsErr r)
    → ((x : A) → r ≡ Ok x → P (Ok x)) → ((f : F) (e : E) → r ≡ Err e → P (Err f)) → P u
passed P (Ok x) r is ok err = ok x is
passed P (Err f) (Ok x) is ok err = absurd cc
passed P (Err f) (Err e) is ok err = err f e refl

-- either it is one or the other
pub either : {A E P : Type 0} (r : Result A E) → ((x : A) → r ≡ Ok x → P) → ((e : E) → r ≡ Err e → P) → P
either (Ok x) ok err = ok x refl
either (Err e) ok err = err e refl

pub put_ok : {A E P : Type 0} (r : Result A E) → IsOk r → ((x : A) → r ≡ Ok x → P) → P
put_ok (Ok x) is p = p x refl
put_ok (Err e) is p = absurd cc

pub none_put : {A E Q : Type 0} (P : E → Type 0) (r : Result A E) → MatchResult r (λ _. ⊥) P → IfErr r (λ e. P e → Q) → Q
none_put P (Ok x) is p = absurd is
none_put P (Err e) is p = p is
