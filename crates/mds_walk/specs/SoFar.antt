-- What holds of the text so far, whatever follows (profile).
use Rattle.std.specs.Prelude.{ℕ, ◌+◌, ◌-◌, nat_lt, if◌then◌else◌, List, [], ◌∷◌, ◌++◌, length, take, map, slice_index_or, Option, Some, None}
use Rattle.std.specs.List.{range_with_len}
use Rattle.mds_lines.specs.Lines.{line_feed, longest_line, split}
use Rattle.mds_records.specs.declared.file.FaultCode.TheVariants as code
use Rattle.mds_records.specs.declared.file.FileFault.{FileFault}
use Rattle.mds_walk.specs.Faults.{Judge, at_line, fault_at, first_of}

-- the pieces of the lines that are whole: those before the last line feed
unfoldable pub whole_pieces : List ℕ → List (List ℕ)
whole_pieces text = take (length (split line_feed text) - 1) (split line_feed text)

-- the part after the last line feed
unfoldable pub open_piece : List ℕ → List ℕ
open_piece text = slice_index_or (split line_feed text) (length (split line_feed text) - 1) []

-- L10 of the line after `lines` lines, which isn't whole yet
abbrev pub open_fault : ℕ → List ℕ → Option FileFault
open_fault lines piece = if nat_lt longest_line (length piece) then Some (at_line (lines + 1) code.TooLarge) else None

-- The fault of the text so far: that of the least faulty whole line. Otherwise it is L10 of the line that isn't
-- whole, if that is too long already.
unfoldable pub fault_so_far : Judge → List ℕ → Option FileFault
fault_so_far judge text =
    let pieces = whole_pieces text in
    first_of (map (fault_at judge pieces) (range_with_len 1 (length pieces)) ++ open_fault (length pieces) (open_piece text) ∷ [])
