-- Ids with zeros behind them compare as their texts.
use Rattle.std.proofs.Common.{◌≡◌, ◌≢◌, ◌+◌, ◌≤◌, ◌<◌, ℕ, suc, zero, Bool, true, false, ◌&&◌, nat_eq, nat_le, inl, inr, IsOk, Ok, Err, Result, MatchResult, List, [], ◌∷◌, ◌++◌, length, take, drop, replicate, refl, sym, ap, ◌∙◌, subst, arith}
use Rattle.std.proofs.lemmas.Bool.Decides.{nat_tests}
use Rattle.std.proofs.lemmas.List.Elements.{All-weaker}
use Rattle.std.proofs.lemmas.List.Sums.{AllPass-from_list_all}
use Rattle.std.proofs.lemmas.Str.{IsUtf8-from_ascii}
use Rattle.std.proofs.lemmas.Str.Ascii.{IsAscii-from_all}
use Rattle.std.specs.Bool.{MatchBool}
use Rattle.std.specs.Cmp.{nat_cmp_is}
use Rattle.std.specs.Cmp.Lexicographic.{same_text, slice_cmp, told_text}
use lib.Pointwise.{pointwise}
use Rattle.std.proofs.Math.Seq.{drop-append_seam, take-append_seam}
use Rattle.std.proofs.lemmas.List.{drop-replicate, length-append, length-drop, length-replicate}
use Rattle.std.proofs.lemmas.Bool.{cases_lt, eq-eqb, eqb-true}
use Rattle.std.specs.Ordering.{nat_cmp, ordering_then}
use Rattle.std.specs.declared.cmp.Ordering.{Ordering}
use Rattle.std.specs.declared.cmp.Ordering.TheVariants.{Less, Equal, Greater}
use Rattle.std.specs.List.{list_all}
use Rattle.std.specs.Str.{IsUtf8}
use Rattle.mds_jobs.specs.Ids.{is_id_char, is_job_id}
use Rattle.mds_jobs.specs.IdSteps.{IsPadded}

-- both of two tests hold where their conjunction does
both : (a b : Bool) → (a && b) ≡ true → (a ≡ true) × (b ≡ true)
both true true e = (refl, refl)
both true false e = (refl, e)
both false b e = absurd (cc)

-- an outcome that is no error is a success
pub ok_from : {T E : Type 0} (r : Result T E) (P : T → Type 0) (Q : E → Type 0) → MatchResult r P Q → ((e : E) → Q e → ⊥) → IsOk r
ok_from (Ok x) P Q h none = refl
ok_from (Err e) P Q h none = absurd (none e h)

-- an id is text
pub id_utf8 : (text : List ℕ) → is_job_id text ≡ true → IsUtf8 text
id_utf8 text h =
    IsUtf8-from_ascii text (IsAscii-from_all text
    (All-weaker (λ c. is_id_char c ≡ true) (λ c. c < 128) (λ c d. grind (arith, nat_tests)) text
    (AllPass-from_list_all is_id_char text
    (both (nat_le 1 (length text) && nat_le (length text) 36) (list_all is_id_char text) h).1)))

-- a lesser number, and a greater one
less : (x y : ℕ) → x < y → nat_cmp x y ≡ Less
less x y h = sym (nat_cmp_is x y Less h)

greater : (x y : ℕ) → y < x → nat_cmp x y ≡ Greater
greater x y h = sym (nat_cmp_is x y Greater h)

alike : (x : ℕ) → nat_cmp x x ≡ Equal
alike x = sym (nat_cmp_is x x Equal refl)

suc_cmp : (x y : ℕ) → nat_cmp (suc x) (suc y) ≡ nat_cmp x y
suc_cmp x y = elim (cases_lt x y) [
  | inl h ↦ less (suc x) (suc y) (omega arith) ∙ sym (less x y h)
  | inr h ↦ elim (cases_lt y x) [
    | inl k ↦ greater (suc x) (suc y) (omega arith) ∙ sym (greater x y k)
    | inr k ↦
        let e : x ≡ y = omega arith in
        rw e (alike (suc y) ∙ sym (alike y))
  ]
]

-- zeros before what is as long or longer aren't greater
zeros_before : (n m : ℕ) (b : List ℕ) → n ≤ length b + m
    → ordering_then (slice_cmp nat_cmp (replicate n 0) (b ++ replicate m 0)) Less ≡ Less
zeros_before zero zero [] h = refl
zeros_before zero (suc m) [] h = refl
zeros_before zero m (y ∷ b) h = refl
zeros_before (suc n) zero [] h = absurd (omega arith)
zeros_before (suc n) (suc m) [] h = zeros_before n m [] (omega arith)
zeros_before (suc n) m (zero ∷ b) h = zeros_before n m b (omega arith)
zeros_before (suc n) m (suc y ∷ b) h = rw (less 0 (suc y) (omega arith)) refl

-- and what is as long or longer isn't less than zeros
zeros_behind : (n m : ℕ) (b : List ℕ) → n ≤ length b + m
    → ordering_then (slice_cmp nat_cmp (b ++ replicate m 0) (replicate n 0)) Greater ≡ Greater
zeros_behind zero zero [] h = refl
zeros_behind zero (suc m) [] h = refl
zeros_behind zero m (y ∷ b) h = refl
zeros_behind (suc n) zero [] h = absurd (omega arith)
zeros_behind (suc n) (suc m) [] h = zeros_behind n m [] (omega arith)
zeros_behind (suc n) m (zero ∷ b) h = zeros_behind n m b (omega arith)
zeros_behind (suc n) m (suc y ∷ b) h = rw (greater (suc y) 0 (omega arith)) refl

zeros_alike : (n : ℕ) → slice_cmp nat_cmp (replicate n 0) (replicate n 0) ≡ Equal
zeros_alike zero = refl
zeros_alike (suc n) = zeros_alike n

-- texts with zeros behind them, the shorter one of which isn't the longer one then, by these and then by their lengths
pub same_order : (m n : ℕ) (a b : List ℕ)
    → (length a ≤ length b → length a + m ≤ length b + n)
    → (length b ≤ length a → length b + n ≤ length a + m)
    → ordering_then (slice_cmp nat_cmp (a ++ replicate m 0) (b ++ replicate n 0)) (nat_cmp (length a) (length b))
    ≡ slice_cmp nat_cmp a b
same_order m n [] [] short long =
    let e : m ≡ n = omega (arith, short (omega arith), long (omega arith)) in
    ap (λ k. ordering_then (slice_cmp nat_cmp (replicate m 0) (replicate k 0)) Equal) (sym e)
    ∙ ap (λ o. ordering_then o Equal) (zeros_alike m)
same_order m n [] (y ∷ b) short long =
    ap (ordering_then (slice_cmp nat_cmp (replicate m 0) ((y ∷ b) ++ replicate n 0))) (less 0 (length (y ∷ b)) (omega arith))
    ∙ zeros_before m n (y ∷ b) (omega (arith, short (omega arith)))
same_order m n (x ∷ a) [] short long =
    ap (ordering_then (slice_cmp nat_cmp ((x ∷ a) ++ replicate m 0) (replicate n 0))) (greater (length (x ∷ a)) 0 (omega arith))
    ∙ zeros_behind n m (x ∷ a) (omega (arith, long (omega arith)))
same_order m n (x ∷ a) (y ∷ b) short long =
    ap (ordering_then (slice_cmp nat_cmp ((x ∷ a) ++ replicate m 0) ((y ∷ b) ++ replicate n 0))) (suc_cmp (length a) (length b))
    ∙ first (nat_cmp x y) (slice_cmp nat_cmp (a ++ replicate m 0) (b ++ replicate n 0)) (nat_cmp (length a) (length b)) (slice_cmp nat_cmp a b)
    (same_order m n a b (λ h. omega (arith, short (omega arith))) (λ h. omega (arith, long (omega arith))))
  where
    first : (o p q r : Ordering) → ordering_then p q ≡ r → ordering_then (ordering_then o p) q ≡ ordering_then o r
    first Less p q r e = refl
    first Equal p q r e = e
    first Greater p q r e = refl

-- equal with zeros behind them and of one length, they are equal
equal_fronts : (a b x y : List ℕ) → a ++ x ≡ b ++ y → length a ≡ length b → a ≡ b
equal_fronts [] [] x y e l = refl
equal_fronts [] (c ∷ b) x y e l = absurd (omega arith)
equal_fronts (c ∷ a) [] x y e l = absurd (omega arith)
equal_fronts (c ∷ a) (d ∷ b) x y e l =
    let head : c ≡ d = cc in
    let rest : a ++ x ≡ b ++ y = cc in
    λ i. head i ∷ equal_fronts a b x y rest (omega arith) i

pub same_fronts : (a b x y : List ℕ) → (pointwise nat_eq (a ++ x) (b ++ y) && nat_eq (length a) (length b)) ≡ true → a ≡ b
same_fronts a b x y h =
    let t = both (pointwise nat_eq (a ++ x) (b ++ y)) (nat_eq (length a) (length b)) h in
    equal_fronts a b x y (same_text (a ++ x) (b ++ y) (sym t.0)) (eqb-true (length a) (length b) t.1)

pub fronts_same : (a x : List ℕ) → (pointwise nat_eq a a && nat_eq (length x) (length x)) ≡ true
fronts_same a x = known (pointwise nat_eq a a) (nat_eq (length x) (length x)) (told_text a a (pointwise nat_eq a a) refl) (eq-eqb (length x) (length x) refl)
  where
    known : (b c : Bool) → MatchBool b (a ≡ a) (a ≢ a) → c ≡ true → (b && c) ≡ true
    known true c h e = e
    known false c h e = absurd (h refl)

-- a text that was put over the first of 36 zeros
pub made : (text new : List ℕ) → 1 ≤ length text → length text ≤ 36 → list_all is_id_char text ≡ true → new ≡ text
    → IsPadded (new ++ drop (length text) (replicate 36 0)) (length text)
made text new low high all same = subst (λ front. IsPadded (front ++ drop (length text) (replicate 36 0)) (length text)) (sym same) (record {
  size = omega (arith, length-append text (drop (length text) zeros), length-drop (length text) zeros, length-replicate 36 zero);
  short = high;
  id = subst (λ t. is_job_id t ≡ true) (sym front) (grind (arith, nat_tests));
  zeros = drop-append_seam text (drop (length text) (replicate 36 0)) ∙ drop-replicate (length text) 36 0;
})
  where
    zeros : List ℕ
    zeros = replicate 36 0

    front : take (length text) (text ++ drop (length text) (replicate 36 0)) ≡ text
    front = take-append_seam text (drop (length text) (replicate 36 0))
