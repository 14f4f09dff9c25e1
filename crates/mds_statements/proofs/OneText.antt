-- A content has one text.
use Rattle.std.proofs.Common.{refl, sym, ap, ◌∙◌, ◌≡◌, ℕ, List, [], ◌∷◌, map}
use Rattle.std.specs.List.{join_with_byte, slice_split}
use Rattle.std.proofs.lemmas.List.Splits.{join_with_byte-slice_split}
use Rattle.mds_statements.specs.Contents.{content_in, content_of, is_line_feed, text_of, texts_of}

lines_back : (lines : List (List ℕ)) → map (join_with_byte 44) (map texts_of lines) ≡ lines
lines_back [] = refl
lines_back (line ∷ lines) =
    let first : join_with_byte 44 (texts_of line) ≡ line = join_with_byte-slice_split 44 line in
    let rest = lines_back lines in
    λ i. first i ∷ rest i

text_back_in : (lines : List (List ℕ)) → text_of (content_in lines) ≡ join_with_byte 10 lines
text_back_in [] = refl
text_back_in (line ∷ lines) =
    let first : join_with_byte 44 (texts_of line) ≡ line = join_with_byte-slice_split 44 line in
    let rest = lines_back lines in
    λ i. join_with_byte 10 (first i ∷ rest i)

-- the text of what a text says is that text
pub text_back : (text : List ℕ) → text_of (content_of text) ≡ text
text_back text = text_back_in (slice_split is_line_feed text) ∙ join_with_byte-slice_split 10 text

-- two texts of one content are one
pub one_text : (a b : List ℕ) → content_of a ≡ content_of b → a ≡ b
one_text a b e = sym (text_back a) ∙ ap (λ c. text_of c) e ∙ text_back b
