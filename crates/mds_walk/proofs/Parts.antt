-- What is whole of a text, and what stands behind it.
use Rattle.std.proofs.Common.{◌≡◌, ◌≢◌, ℕ, ◌+◌, ◌-◌, ◌<◌, ◌⊎◌, inl, inr, true, false, cond, eqb, List, [], ◌∷◌, ◌++◌, length, take, get_or, refl, sym, ◌∙◌, ap, arith, length-append, append_assoc}
use Rattle.std.specs.List.{onto_first, All}
use Rattle.std.proofs.lemmas.List.{append-nil, get_or_at, take_at, take-append-drop, drop_more, drop_all}
use Rattle.std.proofs.lemmas.List.Elements.{All-nil}
use Rattle.std.proofs.lemmas.List.Splits.{length-slice_split, slice_split_none, slice_split_at}
use Rattle.mds_lines.specs.Lines.{line_pieces, without_empty_last, split}
use Rattle.mds_lines.proofs.Pieces.{pieces_last}
use Rattle.mds_lines.proofs.Splits.{apart_false, split_is_split}
use Rattle.mds_walk.specs.SoFar.{open_piece, whole_pieces}
use Rattle.mds_walk.proofs.Longer.{pieces_after}

-- the parts of a join: the last of one and the first of the other are one part
abbrev onto_front : List ℕ → List (List ℕ) → List (List ℕ)
onto_front last [] = []
onto_front last (first ∷ more) = (last ++ first) ∷ more

abbrev glue : List (List ℕ) → List (List ℕ) → List (List ℕ)
glue [] ys = ys
glue (x ∷ []) ys = onto_front x ys
glue (x ∷ z ∷ xs) ys = x ∷ glue (z ∷ xs) ys

onto_none : (ys : List (List ℕ)) → ys ≡ onto_front [] ys
onto_none [] = refl
onto_none (y ∷ ys) = refl

glue_empty : (xs ys : List (List ℕ)) → 0 < length xs → [] ∷ glue xs ys ≡ glue ([] ∷ xs) ys
glue_empty [] ys some = absurd (omega arith)
glue_empty (x ∷ xs) ys some = refl

glue_onto : (c : ℕ) (xs ys : List (List ℕ)) → 0 < length xs → 0 < length ys → onto_first c (glue xs ys) ≡ glue (onto_first c xs) ys
glue_onto c [] ys some more = absurd (omega arith)
glue_onto c (x ∷ []) [] some more = absurd (omega arith)
glue_onto c (x ∷ []) (y ∷ ys) some more = refl
glue_onto c (x ∷ z ∷ xs) ys some more = refl

split_join : (xs ys : List ℕ) → split 10 (xs ++ ys) ≡ glue (split 10 xs) (split 10 ys)
split_join [] ys = onto_none (split 10 ys)
split_join (x ∷ xs) ys =
    let some = length-slice_split (λ b. eqb b 10) xs in
    let more = length-slice_split (λ b. eqb b 10) ys in
    elim (eqb x 10) as (λ b. cond b ([] ∷ split 10 (xs ++ ys)) (onto_first x (split 10 (xs ++ ys)))
    ≡ glue (cond b ([] ∷ split 10 xs) (onto_first x (split 10 xs))) (split 10 ys)) [
      | true ↦ ap (λ t. [] ∷ t) (split_join xs ys) ∙ glue_empty (split 10 xs) (split 10 ys) (omega arith)
      | false ↦ ap (onto_first x) (split_join xs ys) ∙ glue_onto x (split 10 xs) (split 10 ys) (omega arith) (omega arith)
    ]

glue_last : (front : List (List ℕ)) (last : List ℕ) (ys : List (List ℕ)) → glue (front ++ last ∷ []) ys ≡ front ++ glue (last ∷ []) ys
glue_last [] last ys = refl
glue_last (x ∷ []) last ys = refl
glue_last (x ∷ z ∷ xs) last ys = ap (λ t. x ∷ t) (glue_last (z ∷ xs) last ys)

-- a list that has a last
last_apart : (parts : List (List ℕ)) → 0 < length parts → parts ≡ take (length parts - 1) parts ++ get_or parts (length parts - 1) [] ∷ []
last_apart parts some =
    let n = length parts - 1 in
    sym (take-append-drop n parts)
    ∙ ap (λ t. take n parts ++ t) (drop_more parts n [] (omega arith) ∙ ap (λ t. get_or parts n [] ∷ t) (drop_all (n + 1) parts (omega arith)))

pub parts : (text : List ℕ) → split 10 text ≡ whole_pieces text ++ open_piece text ∷ []
unfolding whole_pieces open_piece
parts text = last_apart (split 10 text) (omega (arith, length-slice_split (λ b. eqb b 10) text))

pub record ArePartsOf (text : List ℕ) (front : List (List ℕ)) (last : List ℕ) : Type 0 where
  pub whole : whole_pieces text ≡ front
  pub open_is : open_piece text ≡ last

-- its parts are the only ones
pub parts_are : (text : List ℕ) (front : List (List ℕ)) (last : List ℕ) → split 10 text ≡ front ++ last ∷ [] → ArePartsOf text front last
unfolding whole_pieces open_piece
parts_are text front last e =
    let all = front ++ last ∷ [] in
    let size : length front ≡ length all - 1 = omega (arith, length-append front (last ∷ [])) in
    record {
      whole = ap (λ t. take (length t - 1) t) e ∙ take_at front (last ∷ []) (length all - 1) size;
      open_is = ap (λ t. get_or t (length t - 1) []) e ∙ get_or_at front last [] [] (length all - 1) size;
    }

-- what stands behind the last line feed has none
pub open_apart : (text : List ℕ) → All (λ x. x ≢ 10) (open_piece text)
unfolding open_piece
open_apart text =
    (split_is_split 10 text).apart (length (split 10 text) - 1) [] (omega (arith, length-slice_split (λ b. eqb b 10) text))

-- the parts of a text that goes on
parts_on : (text more : List ℕ) → split 10 (text ++ more) ≡ whole_pieces text ++ glue (open_piece text ∷ []) (split 10 more)
parts_on text more = split_join text more ∙ ap (λ t. glue t (split 10 more)) (parts text) ∙ glue_last (whole_pieces text) (open_piece text) (split 10 more)

goes_on : (text more first : List ℕ) (others : List (List ℕ)) → split 10 more ≡ first ∷ others
    → split 10 (text ++ more) ≡ whole_pieces text ++ (open_piece text ++ first) ∷ others
goes_on text more first others e = parts_on text more ∙ ap (λ t. whole_pieces text ++ glue (open_piece text ∷ []) t) e

-- before the first byte
pub parts_none : ArePartsOf [] [] []
parts_none = parts_are [] [] [] refl

-- bytes without a line feed go behind it
pub parts_open : (text front : List ℕ) → All (λ x. x ≢ 10) front → ArePartsOf (text ++ front) (whole_pieces text) (open_piece text ++ front)
parts_open text front apart =
    parts_are (text ++ front) _ _ (goes_on text front front [] (slice_split_none (λ b. eqb b 10) front (apart_false 10 front apart)))

-- a line feed ends a line
pub parts_line : (text front : List ℕ) → All (λ x. x ≢ 10) front
    → ArePartsOf (text ++ (front ++ 10 ∷ [])) (whole_pieces text ++ (open_piece text ++ front) ∷ []) []
parts_line text front apart =
    parts_are (text ++ (front ++ 10 ∷ [])) _ _
    (goes_on text (front ++ 10 ∷ []) front ([] ∷ []) (slice_split_at (λ b. eqb b 10) front 10 [] (apart_false 10 front apart) refl)
    ∙ sym (append_assoc (whole_pieces text) ((open_piece text ++ front) ∷ []) ([] ∷ [])))

-- A text that goes on: what stood behind its last line feed goes on, or is a whole line now, and others may stand behind it.
abbrev pub Goes : List ℕ → List ℕ → Type 0
Goes text more =
    ((first : List ℕ) × ArePartsOf (text ++ more) (whole_pieces text) (open_piece text ++ first))
    ⊎ ((first : List ℕ) × (others : List (List ℕ)) × (last : List ℕ) × ArePartsOf (text ++ more) (whole_pieces text ++ (open_piece text ++ first) ∷ others) last)

pub goes : (text more : List ℕ) → Goes text more
goes text more = at (split 10 more) refl where
  at : (parts : List (List ℕ)) → split 10 more ≡ parts → Goes text more
  at [] e = let none = ap length e in absurd (omega (arith, length-slice_split (λ b. eqb b 10) more))
  at (first ∷ []) e = inl (first, parts_are (text ++ more) _ _ (goes_on text more first [] e))
  at (first ∷ x ∷ xs) e =
      let n = length (x ∷ xs) - 1 in
      let piece = open_piece text ++ first in
      inr (
        first,
        take n (x ∷ xs),
        get_or (x ∷ xs) n [],
        parts_are (text ++ more) _ _
            (goes_on text more first (x ∷ xs) e ∙ ap (λ t. whole_pieces text ++ piece ∷ t) (last_apart (x ∷ xs) (omega arith))
            ∙ sym (append_assoc (whole_pieces text) (piece ∷ take n (x ∷ xs)) (get_or (x ∷ xs) n [] ∷ []))),
      )

-- the lines of a text that goes on, by what was whole
pub pieces_so_far : (text more : List ℕ) → line_pieces (text ++ more) ≡ whole_pieces text ++ line_pieces (open_piece text ++ more)
pieces_so_far text more =
    let rest = open_piece text in
    let alone = slice_split_none (λ b. eqb b 10) rest (apart_false 10 rest (open_apart text)) in
    let both = parts_on text more ∙ ap (λ t. whole_pieces text ++ glue t (split 10 more)) (sym alone) ∙ ap (λ t. whole_pieces text ++ t) (sym (split_join rest more)) in
    ap without_empty_last both
    ∙ pieces_after (whole_pieces text) (split 10 (rest ++ more)) (omega (arith, length-slice_split (λ b. eqb b 10) (rest ++ more)))

-- and of one that doesn't
pieces_here : (text : List ℕ) → line_pieces text ≡ whole_pieces text ++ line_pieces (open_piece text)
pieces_here text =
    ap line_pieces (sym (append-nil text)) ∙ pieces_so_far text [] ∙ ap (λ t. whole_pieces text ++ line_pieces t) (append-nil (open_piece text))

pub pieces_whole : (text : List ℕ) → open_piece text ≡ [] → line_pieces text ≡ whole_pieces text
pieces_whole text none = pieces_here text ∙ ap (λ t. whole_pieces text ++ line_pieces t) none ∙ append-nil (whole_pieces text)

pub pieces_open : (text : List ℕ) → 0 < length (open_piece text) → line_pieces text ≡ whole_pieces text ++ open_piece text ∷ []
pieces_open text some = pieces_here text ∙ ap (λ t. whole_pieces text ++ t) (pieces_last (open_piece text) some (open_apart text))

-- a last line is the same with a line feed behind it
pub ended : (text : List ℕ) → ArePartsOf (text ++ 10 ∷ []) (whole_pieces text ++ open_piece text ∷ []) []
ended text =
    let p = parts_line text [] (All-nil (λ x. x ≢ 10)) in
    record { whole = p.whole ∙ ap (λ t. whole_pieces text ++ t ∷ []) (append-nil (open_piece text)); open_is = p.open_is }

pub pieces_ended : (text : List ℕ) → 0 < length (open_piece text) → line_pieces (text ++ 10 ∷ []) ≡ line_pieces text
pieces_ended text some =
    let p = ended text in
    pieces_whole (text ++ 10 ∷ []) p.open_is ∙ p.whole ∙ sym (pieces_open text some)
