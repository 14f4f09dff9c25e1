-- The lines of a file and the fields of a line. MDFF Specification, CSV format: records are lines, fields are separated
-- by commas. By this project's profile CR LF and LF both end a line, and quotation marks are plain characters.
use Rattle.std.specs.Prelude.{◌≡◌, ◌≢◌, ℕ, ◌-◌, ◌<◌, Bool, ◌==◌, if◌then◌else◌, List, [], length, take, All, slice_index_or}
use Rattle.std.specs.List.{slice_split, join_with_byte}
use Rattle.std.specs.Io.BufRead.{strip_last}

-- the bytes that separate (ASCII)
abbrev pub line_feed : ℕ
line_feed = 10

abbrev pub carriage_return : ℕ
carriage_return = 13

abbrev pub comma : ℕ
comma = 44

-- a nonempty list of texts without the separator, which joined by the separator are the text
pub record IsSplit (separator : ℕ) (text : List ℕ) (parts : List (List ℕ)) : Type 0 where
  pub some : 0 < length parts
  pub apart : All (λ part. All (λ c. c ≢ separator) part) parts
  pub joined : join_with_byte separator parts ≡ text

-- the one list with this property
abbrev pub split : ℕ → List ℕ → List (List ℕ)
split separator text = slice_split (λ c. c == separator) text

-- without the last, if that is empty
abbrev pub without_empty_last : List (List ℕ) → List (List ℕ)
without_empty_last parts =
    if length (slice_index_or parts (length parts - 1) []) == 0 then take (length parts - 1) parts else parts

-- the pieces of a text between its line feeds, each of them a line: an empty last piece isn't one
abbrev pub line_pieces : List ℕ → List (List ℕ)
line_pieces text = without_empty_last (split line_feed text)

-- a line's text: its piece less one carriage return at its end
abbrev pub line_text : List ℕ → List ℕ
line_text piece = strip_last carriage_return piece

-- a comma
abbrev pub is_comma : ℕ → Bool
is_comma c = c == comma

-- the fields of a line
abbrev pub fields_of : List ℕ → List (List ℕ)
fields_of line = split comma line

-- a field by its number, from 1, or the empty text if the line has fewer
abbrev pub field : List ℕ → ℕ → List ℕ
field line number = slice_index_or (fields_of line) (number - 1) []

-- the most bytes of a piece, and the most lines of a file (profile)
abbrev pub longest_line : ℕ
longest_line = 16_384

abbrev pub most_lines : ℕ
most_lines = 1_000_000
