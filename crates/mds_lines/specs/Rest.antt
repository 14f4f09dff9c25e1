-- The rest of a line while its fields are taken one after the other.
use Rattle.std.specs.Prelude.{ℕ, Bool, not, List, [], length, nat_lt, Option, Some, None, slice_index_or}
use Rattle.std.specs.List.{list_any}
use Rattle.mds_lines.specs.Lines.{fields_of}

-- the fields that are left; none if nothing is left
abbrev pub fields_left : Option (List ℕ) → List (List ℕ)
fields_left None = []
fields_left (Some text) = fields_of text

-- the first field, or the empty text if there are none
abbrev pub first_of : List (List ℕ) → List ℕ
first_of fields = slice_index_or fields 0 []

-- each of them is empty
abbrev pub are_blank : List (List ℕ) → Bool
are_blank fields = not (list_any (λ text. nat_lt 0 (length text)) fields)
