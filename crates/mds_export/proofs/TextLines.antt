-- The lines of a text that is made of the lines of rows.
use Rattle.std.proofs.Common.{◌≡◌, ◌≢◌, ◌-◌, ℕ, true, cond, ◌&&◌, eqb, leb, List, [], ◌∷◌, ◌++◌, length, map, take, get_or, refl, sym, ◌∙◌, ap, arith, append_assoc}
use Rattle.std.specs.List.{All}
use Rattle.std.proofs.lemmas.Bool.Decides.{nat_tests}
use Rattle.std.proofs.lemmas.List.{length_push, take_at, get_or_at}
use Rattle.std.proofs.lemmas.List.Elements.{All-append, All-cons, All-head, All-nil, All-tail}
use Rattle.std.proofs.lemmas.List.Splits.{slice_split_none}
use Rattle.mds_lines.specs.Lines.{carriage_return, line_feed, line_pieces, line_text, split, without_empty_last}
use Rattle.mds_walk.proofs.Longer.{pieces_longer, split_both}
use Rattle.mds_export.specs.ReadBack.{IsInBounds, ReadsAs}
use Rattle.mds_export.specs.Rows.{RowValue}
use Rattle.mds_export.proofs.RowLines.{read_back}
use Rattle.mds_export.specs.Exports.{AreInTurn}
use Rattle.mds_export.specs.WriterSteps.{IsWritten}

-- lines read as rows, one by one
abbrev pub AreRead : List RowValue → List (List ℕ) → Type 0
AreRead [] [] = Unit {0}
AreRead [] (line ∷ lines) = ⊥
AreRead (row ∷ rows) [] = ⊥
AreRead (row ∷ rows) (line ∷ lines) = ReadsAs row line × AreRead rows lines

pub read_length : (rows : List RowValue) (lines : List (List ℕ)) → AreRead rows lines → length lines ≡ length rows
read_length [] [] h = refl
read_length [] (line ∷ lines) h = absurd h
read_length (row ∷ rows) [] h = absurd h
read_length (row ∷ rows) (line ∷ lines) h = omega (arith, read_length rows lines h.1)

-- the lines of two lists of rows
pub read_split : (xs ys : List RowValue) (lines : List (List ℕ)) → AreRead (xs ++ ys) lines
    → (a b : List (List ℕ)) × (lines ≡ a ++ b) × AreRead xs a × AreRead ys b
read_split [] ys lines h = ([], lines, refl, tt, h)
read_split (row ∷ xs) ys [] h = absurd h
read_split (row ∷ xs) ys (line ∷ lines) h =
    let rest = read_split xs ys lines h.1 in
    (line ∷ rest.0, rest.1, ap (λ t. line ∷ t) rest.2, (h.0, rest.3), rest.4)

-- the piece of a line, which ends with CR
abbrev pub piece_of : List ℕ → List ℕ
piece_of line = line ++ carriage_return ∷ []

abbrev pub pieces_of : List (List ℕ) → List (List ℕ)
pieces_of lines = map piece_of lines

pub piece_text : (line : List ℕ) → line_text (piece_of line) ≡ line
piece_text line =
    let piece = piece_of line in
    let last : length line ≡ length piece - 1 = omega (arith, length_push line carriage_return) in
    let some : leb 1 (length piece) ≡ true = (let size = length_push line carriage_return in grind (arith, nat_tests)) in
    let ends : eqb (get_or piece (length piece - 1) 0) carriage_return ≡ true =
    ap (λ c. eqb c carriage_return) (get_or_at line carriage_return [] 0 (length piece - 1) last) in
    ap (λ b. cond (b && eqb (get_or piece (length piece - 1) 0) carriage_return) (take (length piece - 1) piece) piece) some
    ∙ ap (λ b. cond b (take (length piece - 1) piece) piece) ends ∙ take_at line (carriage_return ∷ []) (length piece - 1) last

pub pieces_text : (lines : List (List ℕ)) → map line_text (pieces_of lines) ≡ lines
pieces_text [] = refl
pieces_text (line ∷ lines) =
    let first = piece_text line in
    let rest = pieces_text lines in
    λ i. first i ∷ rest i

-- a piece before a line feed is the first
first_piece : (piece rest : List ℕ) → All (λ byte. byte ≢ line_feed) piece
    → line_pieces (piece ++ line_feed ∷ rest) ≡ piece ∷ line_pieces rest
first_piece piece rest apart =
    let whole : split line_feed piece ≡ piece ∷ [] = slice_split_none (λ c. eqb c line_feed) piece (λ k d lt.
    let ne = apart k d lt in grind (arith, nat_tests)) in
    pieces_longer piece rest
    ∙ ap (λ t. without_empty_last t ++ line_pieces rest) (split_both line_feed piece [])
    ∙ ap (λ t. without_empty_last (t ++ [] ∷ []) ++ line_pieces rest) whole

no_pieces : line_pieces [] ≡ []
no_pieces = refl

piece_apart : (line : List ℕ) → All (λ byte. byte ≢ line_feed) line → All (λ byte. byte ≢ line_feed) (piece_of line)
piece_apart line apart =
    All-append (λ byte. byte ≢ line_feed) line (carriage_return ∷ []) apart
    (All-cons (λ byte. byte ≢ line_feed) carriage_return [] (λ e. cc) (All-nil (λ byte. byte ≢ line_feed)))

-- the lines of a text of rows
pub lines_read : (rows : List RowValue) (text : List ℕ) → AreInTurn IsWritten rows text → All IsInBounds rows
    → (lines : List (List ℕ)) × AreRead rows lines × (line_pieces text ≡ pieces_of lines)
lines_read [] text h bounds = ([], tt, ap line_pieces h ∙ no_pieces)
lines_read (row ∷ rows) text h bounds =
    let back = read_back row h.0 h.3.1 (All-head IsInBounds row rows bounds) h.3.0 in
    let rest = lines_read rows h.1 h.4 (All-tail IsInBounds row rows bounds) in
    let line = back.0 in
    let same : text ≡ piece_of line ++ line_feed ∷ h.1 =
    h.2 ∙ ap (λ t. t ++ h.1) (back.1 ∙ sym (append_assoc line (carriage_return ∷ []) (line_feed ∷ [])))
    ∙ append_assoc (piece_of line) (line_feed ∷ []) h.1 in (
      line ∷ rest.0,
      (back.2, rest.1),
      ap line_pieces same ∙ first_piece (piece_of line) h.1 (piece_apart line back.2.apart) ∙ ap (λ t. piece_of line ∷ t) rest.2,
    )
