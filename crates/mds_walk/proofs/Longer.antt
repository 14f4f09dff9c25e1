-- The lines of a text that goes on after a line feed.
use Rattle.std.proofs.Common.{◌≡◌, ℕ, ◌+◌, ◌-◌, ◌<◌, Bool, true, false, cond, eqb, List, [], ◌∷◌, ◌++◌, length, take, get_or, refl, sym, ◌∙◌, ap, arith, length-append}
use Rattle.std.specs.List.{onto_first}
use Rattle.std.proofs.Math.Seq.{take-append-add}
use Rattle.std.proofs.lemmas.Bool.Decides.{nat_tests}
use Rattle.std.proofs.lemmas.List.{append-nil, get_or-append-add}
use Rattle.std.proofs.lemmas.List.Splits.{length-slice_split, slice_split-cons_yes}
use Rattle.mds_lines.specs.Lines.{line_feed, line_pieces, split, without_empty_last}

-- an element more in front of the first part
onto_front : (x : ℕ) (parts more : List (List ℕ)) → 0 < length parts → onto_first x (parts ++ more) ≡ onto_first x parts ++ more
onto_front x [] more some = absurd (omega arith)
onto_front x (part ∷ parts) more some = refl

-- a text is split on both sides of a separator
pub split_both : (c : ℕ) (xs ys : List ℕ) → split c (xs ++ c ∷ ys) ≡ split c xs ++ split c ys
split_both c [] ys = slice_split-cons_yes (λ b. eqb b c) c ys (grind (arith, nat_tests))
split_both c (x ∷ xs) ys =
    elim (eqb x c) as (λ b. cond b ([] ∷ split c (xs ++ c ∷ ys)) (onto_first x (split c (xs ++ c ∷ ys)))
    ≡ cond b ([] ∷ split c xs) (onto_first x (split c xs)) ++ split c ys) [
      | true ↦ ap (λ t. [] ∷ t) (split_both c xs ys)
      | false ↦
          ap (onto_first x) (split_both c xs ys)
          ∙ onto_front x (split c xs) (split c ys) (omega (arith, length-slice_split (λ b. eqb b c) xs))
    ]

cond_front : (b : Bool) (parts x y : List (List ℕ)) → cond b (parts ++ x) (parts ++ y) ≡ parts ++ cond b x y
cond_front true parts x y = refl
cond_front false parts x y = refl

-- only the last of all parts may be taken off
pub pieces_after : (parts more : List (List ℕ)) → 0 < length more → without_empty_last (parts ++ more) ≡ parts ++ without_empty_last more
pieces_after parts more some =
    let all = parts ++ more in
    let last = length more - 1 in
    let place : length all - 1 ≡ length parts + last = omega (arith, length-append parts more) in
    ap (λ n. cond (eqb (length (get_or all n [])) 0) (take n all) all) place
    ∙ ap (λ t. cond (eqb (length t) 0) (take (length parts + last) all) all) (get_or-append-add parts more last [])
    ∙ ap (λ t. cond (eqb (length (get_or more last [])) 0) t all) (take-append-add parts more last)
    ∙ cond_front _ parts (take last more) more

pieces_both : (text more : List ℕ) → line_pieces (text ++ line_feed ∷ more) ≡ split line_feed text ++ line_pieces more
pieces_both text more =
    ap without_empty_last (split_both line_feed text more)
    ∙ pieces_after (split line_feed text) (split line_feed more) (omega (arith, length-slice_split (λ b. eqb b line_feed) more))

-- whole lines stay what they are
pub pieces_longer : (text more : List ℕ) → line_pieces (text ++ line_feed ∷ more) ≡ line_pieces (text ++ line_feed ∷ []) ++ line_pieces more
pieces_longer text more =
    pieces_both text more ∙ sym (ap (λ t. t ++ line_pieces more) (pieces_both text [] ∙ append-nil (split line_feed text)))
