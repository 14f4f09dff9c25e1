-- The lines of an accumulation's content, and what its first and its other lines tell.
use Rattle.std.proofs.Common.{◌≡◌, ◌<◌, ℕ, List, [], ◌∷◌, length, get_or, map, sym, ap, ◌∙◌, arith}
use Rattle.std.proofs.lemmas.Simd.{map-map}
use Rattle.std.proofs.lemmas.List.Splits.{length-slice_split}
use Rattle.std.specs.List.{remove, slice_split}
use Rattle.serde_json.specs.View.{view}
use Rattle.serde_json.specs.declared.value.Value.{Value}
use Rattle.mds_statements.specs.Contents.{content_in, content_of, is_line_feed, texts_of}
use Rattle.mds_answers.specs.Json.{texts}

-- each line told as the list of its texts
abbrev pub AreLines : List Value → List (List ℕ) → Type 0
AreLines values lines = map view values ≡ map (λ line. texts (texts_of line)) lines

some_line : (text : List ℕ) → 0 < length (slice_split is_line_feed text)
some_line text = omega (arith, length-slice_split is_line_feed text)

first_line : (values : List Value) (lines : List (List ℕ)) (first : Value) → AreLines values lines → 0 < length lines
    → first ≡ get_or values 0 first → view first ≡ texts (content_in lines).fields
first_line (value ∷ values) (line ∷ lines) first are some at = ap view at ∙ (cc)
first_line [] (line ∷ lines) first are some at = absurd (cc)
first_line values [] first are some at = absurd (omega arith)

other_lines : (values : List Value) (lines : List (List ℕ)) → AreLines values lines → 0 < length lines
    → map view (remove values 0) ≡ map texts (content_in lines).notes
other_lines (value ∷ values) (line ∷ lines) are some =
    let later : map view values ≡ map (λ line. texts (texts_of line)) lines = cc in
    later ∙ sym (map-map texts texts_of lines)
other_lines [] (line ∷ lines) are some = absurd (cc)
other_lines values [] are some = absurd (omega arith)

pub first_of_text : (values : List Value) (text : List ℕ) (first : Value) → AreLines values (slice_split is_line_feed text)
    → first ≡ get_or values 0 first → view first ≡ texts (content_of text).fields
first_of_text values text first are at = first_line values (slice_split is_line_feed text) first are (some_line text) at

pub others_of_text : (values : List Value) (text : List ℕ) → AreLines values (slice_split is_line_feed text)
    → map view (remove values 0) ≡ map texts (content_of text).notes
others_of_text values text are = other_lines values (slice_split is_line_feed text) are (some_line text)
