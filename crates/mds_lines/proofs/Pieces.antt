-- The pieces of a text between its line feeds.
use Rattle.std.proofs.Common.{◌≡◌, ◌≢◌, ℕ, suc, ◌-◌, ◌<◌, ◌≤◌, Bool, true, false, cond, eqb, List, [], ◌∷◌, ◌++◌, length, take, get_or, refl, ◌∙◌, ap, arith, length-append}
use Rattle.std.specs.List.{onto_first, All}
use Rattle.std.proofs.lemmas.Bool.Decides.{nat_tests}
use Rattle.std.proofs.lemmas.List.Elements.{All-head, All-tail}
use Rattle.std.proofs.lemmas.List.Splits.{slice_split_none, slice_split_at, length-slice_split, slice_split-cons_no}
use Rattle.mds_lines.specs.Lines.{line_pieces, without_empty_last, split}
use Rattle.mds_lines.proofs.Splits.{apart_false}

-- without_empty_last, at the place of the last part
abbrev without_at : ℕ → List (List ℕ) → List (List ℕ)
without_at n parts = cond (eqb (length (get_or parts n [])) 0) (take n parts) parts

-- a front that both choices have
cond_front : (b : Bool) (p : List ℕ) (x y : List (List ℕ)) → cond b (p ∷ x) (p ∷ y) ≡ p ∷ cond b x y
cond_front true p x y = refl
cond_front false p x y = refl

-- the place counts from the front
without_at_more : (n : ℕ) (p : List ℕ) (parts : List (List ℕ)) → without_at (suc n) (p ∷ parts) ≡ p ∷ without_at n parts
without_at_more n p parts = cond_front (eqb (length (get_or parts n [])) 0) p (take n parts) parts

-- what is taken off comes after the first part
pieces_more : (p : List ℕ) (parts : List (List ℕ)) → 0 < length parts → without_empty_last (p ∷ parts) ≡ p ∷ without_empty_last parts
pieces_more p [] some = absurd (omega arith)
pieces_more p (q ∷ qs) some =
    let here : length (p ∷ q ∷ qs) - 1 ≡ suc (length qs) = omega arith in
    let there : length qs ≡ length (q ∷ qs) - 1 = omega arith in
    ap (λ n. without_at n (p ∷ q ∷ qs)) here ∙ without_at_more (length qs) p (q ∷ qs) ∙ ap (λ n. p ∷ without_at n (q ∷ qs)) there

-- a lone part that isn't empty stays
pieces_one : (p : List ℕ) → 0 < length p → without_empty_last (p ∷ []) ≡ p ∷ []
pieces_one p some =
    let here : length (p ∷ []) - 1 ≡ 0 = omega arith in
    let test : eqb (length p) 0 ≡ false = grind (arith, nat_tests) in
    ap (λ n. without_at n (p ∷ [])) here ∙ ap (λ b. cond b (take 0 (p ∷ [])) (p ∷ [])) test

-- the piece before the first line feed
pub pieces_at : (piece rest : List ℕ) → All (λ x. x ≢ 10) piece → line_pieces (piece ++ 10 ∷ rest) ≡ piece ∷ line_pieces rest
pieces_at piece rest apart =
    let some = length-slice_split (λ c. eqb c 10) rest in
    ap without_empty_last (slice_split_at (λ c. eqb c 10) piece 10 rest (apart_false 10 piece apart) refl)
    ∙ pieces_more piece (split 10 rest) (omega arith)

-- the piece after the last line feed
pub pieces_last : (piece : List ℕ) → 0 < length piece → All (λ x. x ≢ 10) piece → line_pieces piece ≡ piece ∷ []
pieces_last piece some apart =
    ap without_empty_last (slice_split_none (λ c. eqb c 10) piece (apart_false 10 piece apart)) ∙ pieces_one piece some

-- bytes without the separator are at the front of the first part
split_after : (xs ys first : List ℕ) (rest : List (List ℕ)) → All (λ x. x ≢ 10) xs → split 10 ys ≡ first ∷ rest → split 10 (xs ++ ys) ≡ (xs ++ first) ∷ rest
split_after [] ys first rest apart e = e
split_after (x ∷ xs) ys first rest apart e =
    let test = All-head (λ b. eqb b 10 ≡ false) x xs (apart_false 10 (x ∷ xs) apart) in
    slice_split-cons_no (λ c. eqb c 10) x (xs ++ ys) test
    ∙ ap (onto_first x) (split_after xs ys first rest (All-tail (λ b. b ≢ 10) x xs apart) e)

-- a text's first piece has the bytes before its line feed, and perhaps more
pub record HasFirst (n : ℕ) (text : List ℕ) : Type 0 where
  pub piece : List ℕ
  pub rest : List (List ℕ)
  pub is : line_pieces text ≡ piece ∷ rest
  pub long : n ≤ length piece

-- the first piece from the first part
first_from_split : (xs : List ℕ) (text first : List ℕ) (rest : List (List ℕ)) → 0 < length xs → split 10 text ≡ (xs ++ first) ∷ rest → HasFirst (length xs) text
first_from_split xs text first [] some e = record {
  piece = xs ++ first;
  rest = [];
  is = ap without_empty_last e ∙ pieces_one (xs ++ first) (simp length-append (omega arith));
  long = simp length-append (omega arith);
}
first_from_split xs text first (q ∷ qs) some e = record {
  piece = xs ++ first;
  rest = without_empty_last (q ∷ qs);
  is = ap without_empty_last e ∙ pieces_more (xs ++ first) (q ∷ qs) (omega arith);
  long = simp length-append (omega arith);
}

-- the same, of the parts of what is after them
first_of : (xs ys : List ℕ) (parts : List (List ℕ)) → split 10 ys ≡ parts → 0 < length xs → All (λ x. x ≢ 10) xs → HasFirst (length xs) (xs ++ ys)
first_of xs ys [] e some apart = let one = length-slice_split (λ c. eqb c 10) ys in let none = ap length e in absurd (omega arith)
first_of xs ys (first ∷ rest) e some apart = first_from_split xs (xs ++ ys) first rest some (split_after xs ys first rest apart e)

-- bytes without a line feed are at the front of the first piece
pub pieces_long : (xs ys : List ℕ) → 0 < length xs → All (λ x. x ≢ 10) xs → HasFirst (length xs) (xs ++ ys)
pieces_long xs ys some apart = first_of xs ys (split 10 ys) refl some apart
