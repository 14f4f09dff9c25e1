-- A line with its number.
use Rattle.std.specs.Prelude.{ℕ, List}
use Rattle.mds_lines.specs.declared.line.Line.{Line}

-- from 1, empty lines included
abbrev pub number_of : Line → ℕ
number_of line = line.number

-- its bytes, without the line's end
abbrev pub text_of : Line → List ℕ
text_of line = line.text.now
