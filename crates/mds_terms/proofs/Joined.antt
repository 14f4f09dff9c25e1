-- Texts joined by commas.
use Rattle.std.proofs.Common.{◌≡◌, ℕ, ◌+◌, ◌-◌, ◌≤◌, Bool, true, false, not, List, [], ◌∷◌, ◌++◌, length, take, drop, map, get_or, refl, sym, ap, ◌∙◌, append_assoc, arith}
use Rattle.std.proofs.Math.Seq.{take-append_seam, take-append-add, take-length}
use Rattle.std.proofs.lemmas.Bool.Decides.{nat_tests}
use Rattle.std.proofs.lemmas.List.Elements.{All-weaker}
use Rattle.std.proofs.lemmas.List.Splits.{slice_split_at, slice_split_none}
use Rattle.std.proofs.lemmas.List.Sums.{AllPass-from_list_all}
use Rattle.std.specs.Borrow.{Bor}
use Rattle.std.specs.List.{All, list_all, slice_split}
use Rattle.mds_quantity.specs.Append.{AppendsPart}
use Rattle.mds_names.specs.Names.{comma, is_comma}
use Rattle.mds_terms.specs.Parts.{joined}
use Rattle.mds_terms.proofs.Texts.{both}

-- what borrowed texts are
abbrev pub texts_of : List (Bor (List ℕ)) → List (List ℕ)
texts_of texts = map (λ text. text.now) texts

-- after the first text
pub front_first : (xs : List (Bor (List ℕ))) (d : Bor (List ℕ)) (old new : List ℕ) → 2 ≤ length xs → new ≡ old ++ (get_or xs 0 d).now → AppendsPart old new (joined (texts_of xs))
front_first [] d old new h e = absurd (omega arith)
front_first (x ∷ []) d old new h e = absurd (omega arith)
front_first (x ∷ y ∷ xs) d old new h e =
    (length x.now, e ∙ ap (λ t. old ++ t) (sym (take-append_seam x.now (comma ∷ joined (texts_of (y ∷ xs))))))

-- after the first text and its comma, and a front of the rest
pub front_rest : (xs : List (Bor (List ℕ))) (d : Bor (List ℕ)) (old mid new : List ℕ) → 2 ≤ length xs → mid ≡ (old ++ (get_or xs 0 d).now) ++ comma ∷ [] → AppendsPart mid new (joined (texts_of (take (length xs - 1) (drop 1 xs)))) → AppendsPart old new (joined (texts_of xs))
front_rest [] d old mid new h e p = absurd (omega arith)
front_rest (x ∷ []) d old mid new h e p = absurd (omega arith)
front_rest (x ∷ y ∷ xs) d old mid new h e p =
    let less : length (x ∷ y ∷ xs) - 1 ≡ length (y ∷ xs) = omega arith in
    let rest : take (length (x ∷ y ∷ xs) - 1) (y ∷ xs) ≡ y ∷ xs = ap (λ n. take n (y ∷ xs)) less ∙ take-length (y ∷ xs) in
    let after = joined (texts_of (y ∷ xs)) in
    let q : new ≡ mid ++ take p.0 after = p.1 ∙ ap (λ t. mid ++ take p.0 (joined (texts_of t))) rest in
    let front = x.now ++ comma ∷ [] in
    let whole : x.now ++ (comma ∷ after) ≡ front ++ after = sym (append_assoc x.now (comma ∷ []) after) in
    let long : take (length front + p.0) (x.now ++ (comma ∷ after)) ≡ front ++ take p.0 after = ap (take (length front + p.0)) whole ∙ take-append-add front after p.0 in
    (length front + p.0, q ∙ (ap (λ t. t ++ take p.0 after) (e ∙ append_assoc old x.now (comma ∷ [])) ∙ (append_assoc old front (take p.0 after) ∙ ap (λ t. old ++ t) (sym long))))

-- no comma is in a text
abbrev pub lacks_comma : List ℕ → Bool
lacks_comma text = list_all (λ c. not (is_comma c)) text

no_comma : (text : List ℕ) → lacks_comma text ≡ true → All (λ c. is_comma c ≡ false) text
no_comma text h = All-weaker (λ c. not (is_comma c) ≡ true) (λ c. is_comma c ≡ false) (λ c d. grind (arith, nat_tests)) text (AllPass-from_list_all (λ c. not (is_comma c)) text h)

-- joined texts without commas split at the commas into these texts
pub joined_splits : (x : List ℕ) (xs : List (List ℕ)) → list_all lacks_comma (x ∷ xs) ≡ true → slice_split is_comma (joined (x ∷ xs)) ≡ x ∷ xs
joined_splits x [] h = slice_split_none is_comma x (no_comma x (both (lacks_comma x) true h).0)
joined_splits x (y ∷ ys) h =
    let b = both (lacks_comma x) (list_all lacks_comma (y ∷ ys)) h in
    slice_split_at is_comma x comma (joined (y ∷ ys)) (no_comma x b.0) refl ∙ ap (λ t. x ∷ t) (joined_splits y ys b.1)
