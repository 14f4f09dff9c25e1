-- Texts in UTF-8: their bytes, and the path of a target.
use Rattle.std.proofs.Common.{◌≡◌, ℕ, ◌+◌, ◌<◌, ◌≤◌, ◌/◌, ◌%◌, List, [], ◌∷◌, ◌++◌, Bool, true, false, cond, ltb, not, ◌==◌, length, get_or, ◌⊎◌, inl, inr, refl, arith, subst}
use Rattle.std.specs.Prelude.{Result, Ok, Err, MatchResult, IsOk}
use Rattle.std.proofs.lemmas.Bool.Decides.{nat_tests}
use Rattle.std.proofs.lemmas.List.Sums.{prefix_len-le-length, prefix_len_stops}
use Rattle.std.proofs.lemmas.Str.{IsUtf8-take, IsCharBoundary-before_ascii, IsCharBoundary-end}
use Rattle.std.specs.Str.{IsUtf8, IsCharBoundary}
use Rattle.std.proofs.Math.Utf8.{encode, encodes, scalar, scalars, scalar_cases}
use Rattle.matchit.specs.Level.{IsText}
use Rattle.mds_wire.specs.Judging.{path_of, mark_place}
use Rattle.mds_wire.proofs.Walks.{both}

-- each byte of a text is below 256
joined : (xs ys : List ℕ) → IsText xs → IsText ys → IsText (xs ++ ys)
joined [] ys t u = u
joined (x ∷ xs) ys t u = (t.0, joined xs ys t.1 u)

encoded : (c : ℕ) → scalar c ≡ true → IsText (encode c)
unfolding encode
encoded c s = by (scalar_cases c s) (ltb c 128) refl (ltb c 2048) refl (ltb c 65536) refl
  where
    least : (c < 55296) ⊎ ((57344 ≤ c) × (c < 1114112)) → c < 1114112
    least (inl h) = omega arith
    least (inr h) = h.1

    by : (c < 55296) ⊎ ((57344 ≤ c) × (c < 1114112)) → (u : Bool) → ltb c 128 ≡ u → (v : Bool) → ltb c 2048 ≡ v → (w : Bool) → ltb c 65536 ≡ w
        → IsText (cond u (c ∷ []) (cond v ((192 + c / 64) ∷ (128 + c % 64) ∷ []) (cond w ((224 + c / 4096) ∷ (128 + (c / 64) % 64) ∷ (128 + c % 64) ∷ []) ((240 + c / 262144) ∷ (128 + (c / 4096) % 64) ∷ (128 + (c / 64) % 64) ∷ (128 + c % 64) ∷ []))))
    by h true e v f w g = let lt : c < 128 = grind (arith, nat_tests) in (omega arith, tt)
    by h false e true f w g = let lt : c < 2048 = grind (arith, nat_tests) in (omega arith, (omega arith, tt))
    by h false e false f true g = let lt : c < 65536 = grind (arith, nat_tests) in (omega arith, (omega arith, (omega arith, tt)))
    by h false e false f false g = let lt = least h in (omega arith, (omega arith, (omega arith, (omega arith, tt))))

pub text_from_utf8 : (bs : List ℕ) → IsUtf8 bs → IsText bs
text_from_utf8 bs u = subst IsText u.1.1 (all u.0 u.1.0)
  where
    all : (cs : List ℕ) → scalars cs ≡ true → IsText (encodes cs)
    all [] s = tt
    all (c ∷ cs) s = let h = both (scalar c) (scalars cs) s in joined (encode c) (encodes cs) (encoded c h.0) (all cs h.1)

-- the path of a text is text, as a question mark is no part of another character
pub path_is_text : (target : List ℕ) → IsUtf8 target → IsUtf8 (path_of target)
path_is_text target u = IsUtf8-take target (mark_place target) u (cut (ltb (mark_place target) (length target)) refl)
  where
    cut : (v : Bool) → ltb (mark_place target) (length target) ≡ v → IsCharBoundary target (mark_place target)
    cut true e =
        let lt : mark_place target < length target = grind (arith, nat_tests) in
        let stops = prefix_len_stops (λ x. not (x == 63)) target 0 lt in
        let ascii : get_or target (mark_place target) 0 < 128 = grind (arith, nat_tests) in
        IsCharBoundary-before_ascii target (mark_place target) lt ascii
    cut false e =
        let le = prefix_len-le-length (λ x. not (x == 63)) target in
        let end : length target ≡ mark_place target = grind (arith, nat_tests) in
        subst (λ n. IsCharBoundary target n) end (IsCharBoundary-end target)

-- an outcome that is no error is a success
pub ok_from : {T E : Type 0} (r : Result T E) (P : T → Type 0) (Q : E → Type 0) → MatchResult r P Q → ((e : E) → Q e → ⊥) → IsOk r
ok_from (Ok x) P Q h never = refl
ok_from (Err e) P Q h never = absurd (never e h)
