-- Texts that are written, and buffers that are filled, call by call.
use Rattle.std.proofs.Common.{◌≡◌, ℕ, ◌+◌, ◌-◌, ◌<◌, ◌≤◌, List, [], ◌∷◌, ◌++◌, length, take, drop, Option, Some, None, suc, sym, subst, ◌∙◌, ap, arith, append_assoc, zero-add}
use Rattle.std.specs.Io.KnownBytes.{Appends as AppendsKnown, Consumes, Keeps}
use Rattle.std.proofs.lemmas.List.{append-nil, take_all, take-take, take-append-drop, drop-take, drop-drop, take_rest, length-drop, take-append-le}

-- a front and what follows it
take_add : (n m : ℕ) (xs : List ℕ) → take n xs ++ take m (drop n xs) ≡ take (n + m) xs
take_add n m xs =
    ap (λ t. t ++ take m (drop n xs)) (sym (take-take n (n + m) xs (omega arith)))
    ∙ ap (λ t. take n (take (n + m) xs) ++ t) (sym (drop-take n m xs))
    ∙ take-append-drop n (take (n + m) xs)

-- writes one after the other
pub appends_both : (a b c : Option (List ℕ)) (xs ys zs : List ℕ) → xs ++ ys ≡ zs → AppendsKnown a b xs → AppendsKnown b c ys → AppendsKnown a c zs
appends_both None b c xs ys zs e h k = tt
appends_both (Some s) None c xs ys zs e h k = absurd h
appends_both (Some s) (Some t) None xs ys zs e h k = absurd k
appends_both (Some s) (Some t) (Some u) xs ys zs e h k = k ∙ ap (λ v. v ++ ys) h ∙ append_assoc s xs ys ∙ ap (λ v. s ++ v) e

-- a front of the text was written, and the rest is left
abbrev pub Wrote : List ℕ → List ℕ → Option (List ℕ) → Option (List ℕ) → Type 0
Wrote text rest old new = (n : ℕ) × (n ≤ length text) × (rest ≡ drop n text) × AppendsKnown old new (take n text)

pub wrote_more : (text rest : List ℕ) (count : ℕ) (a b c : Option (List ℕ)) → Wrote text rest a b → count ≤ length rest → AppendsKnown b c (take count rest)
    → Wrote text (take (length rest - count) (drop count rest)) a c
wrote_more text rest count a b c h within k =
    let size = ap length h.2 in
    let left = length-drop h.0 text in (
      h.0 + count,
      omega arith,
      take_rest rest count ∙ ap (drop count) h.2 ∙ drop-drop count h.0 text,
      appends_both a b c (take h.0 text) (take count rest) _ (ap (λ t. take h.0 text ++ take count t) h.2 ∙ take_add h.0 count text) h.3 k,
    )

-- a failed call leaves a part, and without a rest all was written
kept_none : (a b : Option (List ℕ)) → Keeps a b → AppendsKnown a b []
kept_none None b k = tt
kept_none (Some s) None k = absurd k
kept_none (Some s) (Some t) k = k ∙ sym (append-nil s)

pub wrote_part : (text rest : List ℕ) (a b c : Option (List ℕ)) → Wrote text rest a b → 0 < length rest → Keeps b c
    → (n : ℕ) × (n < length text) × AppendsKnown a c (take n text)
wrote_part text rest a b c h some k =
    let size = ap length h.2 in
    let left = length-drop h.0 text in
    (h.0, omega arith, appends_both a b c (take h.0 text) [] (take h.0 text) (append-nil (take h.0 text)) h.3 (kept_none b c k))

pub wrote_all : (text rest : List ℕ) (a b : Option (List ℕ)) → Wrote text rest a b → length rest ≡ 0 → AppendsKnown a b text
wrote_all text rest a b h none =
    let size = ap length h.2 in
    let left = length-drop h.0 text in
    subst (AppendsKnown a b) (take_all h.0 text (omega arith)) h.3

-- reads one after the other
pub consumes_both : (a b c : Option (List ℕ)) (xs ys : List ℕ) → Consumes a b xs → Consumes b c ys → Consumes a c (xs ++ ys)
consumes_both None b c xs ys h k = tt
consumes_both (Some s) None c xs ys h k = absurd h
consumes_both (Some s) (Some t) None xs ys h k = absurd k
consumes_both (Some s) (Some t) (Some u) xs ys h k = h ∙ ap (λ v. xs ++ v) k ∙ sym (append_assoc xs ys u)

-- the front of two lists that reaches into the second
pub take_across : (xs ys : List ℕ) (n : ℕ) → take (length xs + n) (xs ++ ys) ≡ xs ++ take n ys
take_across [] ys n = ap (λ k. take k ys) (zero-add n)
take_across (x ∷ xs) ys n =
    let e : length (x ∷ xs) + n ≡ suc (length xs + n) = omega arith in
    ap (λ k. take k (x ∷ xs ++ ys)) e ∙ ap (λ t. x ∷ t) (take_across xs ys n)

-- the front of a buffer behind which bytes were read
pub front_filled : (held bytes behind : List ℕ) (n : ℕ) → n ≤ length bytes → take (length held + n) (held ++ (bytes ++ behind)) ≡ held ++ take n bytes
front_filled held bytes behind n few = take_across held (bytes ++ behind) n ∙ ap (λ ys. held ++ ys) (take-append-le n bytes behind few)
