-- The text in which the content of an accumulation is kept (profile). Lines are joined by line feeds, and the texts of a line by
-- commas.
use Rattle.std.specs.Prelude.{ℕ, Bool, ◌==◌, List, [], ◌∷◌, map}
use Rattle.std.specs.List.{join_with_byte, slice_split}
use Rattle.mds_names.specs.Names.{is_comma}

-- The fields 3 to 21 of a 250 as they are kept, and the four texts of each of its notes. The update is only in the key.
pub record PeriodContent : Type 0 where
  pub fields : List (List ℕ)
  pub notes : List (List (List ℕ))

abbrev pub is_line_feed : ℕ → Bool
is_line_feed c = c == 10

-- the texts of a line
abbrev pub texts_of : List ℕ → List (List ℕ)
texts_of line = slice_split is_comma line

-- the content in these lines: the first has the fields, and each other the texts of a note
abbrev pub content_in : List (List ℕ) → PeriodContent
content_in [] = record { fields = []; notes = [] }
content_in (fields ∷ notes) = record { fields = texts_of fields; notes = map texts_of notes }

-- the content in a text
abbrev pub content_of : List ℕ → PeriodContent
content_of text = content_in (slice_split is_line_feed text)

-- the one text of a content that has one
abbrev pub text_of : PeriodContent → List ℕ
text_of content = join_with_byte 10 (join_with_byte 44 content.fields ∷ map (join_with_byte 44) content.notes)
