-- The faults of a file, from those of its records and of its end. MDFF Specification, CSV format; the faults and their order
-- are this project's profile. A file is refused with the fault of its least faulty line.
use Rattle.std.specs.Prelude.{ℕ, ◌+◌, ◌-◌, ◌||◌, ◌==◌, nat_lt, if◌then◌else◌, List, [], ◌∷◌, ◌++◌, length, take, map, Option, Some, None, option_map, Result, Ok, Err}
use Rattle.std.specs.List.{range_with_len}
use Rattle.mds_lines.specs.Kinds.{kind_of}
use Rattle.mds_lines.specs.Lines.{line_pieces, line_text, longest_line, most_lines}
use Rattle.mds_lines.specs.declared.line.Kind.{Kind}
use Rattle.mds_lines.specs.declared.line.KindFault.{KindFault}
use Rattle.mds_lines.specs.declared.line.KindFault.TheVariants.{NotText, Unknown}
use Rattle.mds_records.specs.declared.fault.FieldFault.{FieldFault}
use Rattle.mds_records.specs.declared.fault.FieldFault.TheVariants.{WrongFile, Count, Bad}
use Rattle.mds_records.specs.declared.file.FaultCode.{FaultCode}
use Rattle.mds_records.specs.declared.file.FaultCode.TheVariants as code
use Rattle.mds_records.specs.declared.file.FileFault.{FileFault}
pub use Rattle.mds_records.specs.FieldFaults.{first_of}
use Rattle.mds_walk.specs.Governing.{line_at}

-- a fault of a whole line, and one of a field
abbrev pub at_line : ℕ → FaultCode → FileFault
at_line number code = record { code = code; line = number; field = 0 }

abbrev pub at_field : ℕ → FieldFault → FileFault
at_field number WrongFile = at_line number code.WrongFile
at_field number Count = at_line number code.FieldCount
at_field number (Bad field) = record { code = code.BadField; line = number; field = field }

-- How a kind of file judges: the first fault of a record after these lines, and what is wrong with an end there.
pub record Judge : Type 0 where
  pub of_record : List (List ℕ) → List ℕ → Kind → Option FileFault
  pub of_end : List (List ℕ) → Option FaultCode

-- the first fault of a line that isn't empty: L1, L2, and those of a record
abbrev pub kind_fault : Judge → List (List ℕ) → List ℕ → Result Kind KindFault → Option FileFault
kind_fault judge before line (Err NotText) = Some (at_line (length before + 1) code.NotText)
kind_fault judge before line (Err Unknown) = Some (at_line (length before + 1) code.UnknownRecord)
kind_fault judge before line (Ok kind) = judge.of_record before line kind

-- the first fault of a line after these lines: an empty line has none
abbrev pub text_fault : Judge → List (List ℕ) → List ℕ → Option FileFault
text_fault judge before line = if length line == 0 then None else kind_fault judge before line (kind_of line)

-- the first fault of the line of a piece after these lines: L10 comes first, and an empty line may have it too
abbrev pub line_fault : Judge → List (List ℕ) → List ℕ → Option FileFault
line_fault judge before piece =
    if nat_lt longest_line (length piece) || nat_lt most_lines (length before + 1)
    then Some (at_line (length before + 1) code.TooLarge)
    else text_fault judge before (line_text piece)

-- the fault of the line after the last of these
abbrev pub end_fault : Judge → List (List ℕ) → Option FileFault
end_fault judge lines = option_map (at_line (length lines + 1)) (judge.of_end lines)

-- the first fault of the line with a number
abbrev pub fault_at : Judge → List (List ℕ) → ℕ → Option FileFault
fault_at judge pieces k = line_fault judge (map line_text (take (k - 1) pieces)) (line_at pieces k)

-- the faults of all lines, and then that of the line after the last
abbrev pub faults_of : Judge → List (List ℕ) → List (Option FileFault)
faults_of judge pieces =
    map (fault_at judge pieces) (range_with_len 1 (length pieces)) ++ end_fault judge (map line_text pieces) ∷ []

-- the lines of a text
abbrev pub lines_of : List ℕ → List (List ℕ)
lines_of text = map line_text (line_pieces text)

-- the fault of a text: that of its least faulty line; a text without a fault is well formed
unfoldable pub fault_of : Judge → List ℕ → Option FileFault
fault_of judge text = first_of (faults_of judge (line_pieces text))
