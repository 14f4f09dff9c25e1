-- What comes before a line: lines by their numbers, from 1, empty ones included, and the last record of a kind. MDFF
-- Specification: a record belongs to the last record of a kind before it.
use Rattle.std.specs.Prelude.{ℕ, suc, zero, Bool, false, List, [], length, bytes_eq, filter, slice_index_or, Option, Some, None, unwrap_or, is_some}
use Rattle.std.specs.List.{last_or, range_with_len}
use Rattle.std.specs.Result.{result_ok}
pub use Rattle.mds_lines.specs.Kinds.{indicator}
use Rattle.mds_lines.specs.Kinds.{kind_of}
use Rattle.mds_lines.specs.declared.line.Kind.{Kind}

-- two kinds are the same
abbrev pub is_kind : Kind → Kind → Bool
is_kind a b = bytes_eq (indicator a) (indicator b)

-- a line by its number, or the empty line if no line has that number
abbrev pub line_at : List (List ℕ) → ℕ → List ℕ
line_at lines zero = []
line_at lines (suc before) = slice_index_or lines before []

-- the kind of record that a line is, if it is one
abbrev pub record_kind : List ℕ → Option Kind
record_kind line = result_ok (kind_of line)

abbrev pub is_this : Kind → Option Kind → Bool
is_this kind None = false
is_this kind (Some found) = is_kind found kind

abbrev pub is_of : Kind → List ℕ → Bool
is_of kind line = is_this kind (record_kind line)

-- the greatest number of a line that passes a test, or 0 if none does
abbrev pub greatest : (List ℕ → Bool) → List (List ℕ) → ℕ
greatest test lines =
    unwrap_or (last_or None (filter (λ k. test (line_at lines k)) (range_with_len 1 (length lines)))) 0

-- the kind of the last record of some lines
abbrev pub last_kind_of : List (List ℕ) → Option Kind
last_kind_of lines = record_kind (line_at lines (greatest (λ line. is_some (record_kind line)) lines))
