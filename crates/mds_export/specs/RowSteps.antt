-- The private steps of writing a row.
use Rattle.std.specs.Prelude.{ℕ, List, [], ◌∷◌, ◌++◌, flat_map}
use Rattle.mds_marks.specs.Reading.{ReadingValue}
use Rattle.mds_lines.specs.Lines.{comma}
use Rattle.mds_export.specs.Rows.{value_field}

-- a field that is followed by another one
abbrev pub closed : List ℕ → List ℕ
closed text = text ++ comma ∷ []

-- the value fields of readings, each with the comma after it
abbrev pub value_texts : List ReadingValue → List ℕ
value_texts readings = flat_map (λ reading. closed (value_field reading)) readings
