-- The first fault of a record's fields. MDFF Specification, the layouts; the order of the faults is this project's
-- profile.
use Rattle.std.specs.Prelude.{ℕ, ◌+◌, ◌-◌, Bool, false, not, ◌||◌, ◌==◌, nat_lt, if◌then◌else◌, List, [], ◌∷◌, length, drop, bytes_eq, find, slice_index_or, Option, Some, None, option_map}
use Rattle.std.specs.List.{list_any, range_with_len}
use Rattle.mds_lines.specs.declared.line.Kind.{Kind}
use Rattle.mds_lines.specs.declared.line.Kind.TheVariants.{Header}
use Rattle.mds_lines.specs.Lines.{fields_of, field}
use Rattle.mds_records.specs.declared.header_name.HeaderName.{HeaderName}
use Rattle.mds_records.specs.declared.fault.FieldFault.{FieldFault}
use Rattle.mds_records.specs.declared.fault.FieldFault.TheVariants.{WrongFile, Count, Bad}
use Rattle.mds_records.specs.Layouts.{Rule, Nothing, may, fits, layout, least_count, means_values, other_file_name}

-- the first fault of several that may be absent
abbrev pub first_of : {T : Type 0} → List (Option T) → Option T
first_of [] = None
first_of (None ∷ rest) = first_of rest
first_of (Some found ∷ rest) = Some found

-- a header that names the other kind of file
abbrev pub is_of_other_file : HeaderName → Kind → List ℕ → Bool
is_of_other_file file Header line = bytes_eq (field line 2) (other_file_name file)
is_of_other_file file kind line = false

-- the layout of a line whose kind has n values; the quality after the values says whether these may be empty
abbrev pub layout_of : Kind → ℕ → List ℕ → List Rule
layout_of kind n line = layout kind n (not (means_values (field line (n + 3))))

-- fewer fields than the least, or a field past the last that isn't empty
abbrev pub has_wrong_count : Kind → ℕ → List ℕ → Bool
has_wrong_count kind n line =
    let last = length (layout_of kind n line) + 1 in
    nat_lt (length (fields_of line)) (least_count kind n)
    || list_any (λ text. nat_lt 0 (length text)) (drop last (fields_of line))

-- a field isn't what its rule says
abbrev pub is_bad : HeaderName → Rule → List ℕ → Bool
is_bad file rule text = if length text == 0 then not rule.may_be_empty else not (fits file rule.form text)

-- the least number, from 2, of a bad field; a field that was left out is empty
abbrev pub least_bad : HeaderName → List Rule → List ℕ → Option ℕ
least_bad file rules line =
    find (λ number. is_bad file (slice_index_or rules (number - 2) (may Nothing)) (field line number))
    (range_with_len 2 (length rules))

-- the first fault that applies
unfoldable pub field_fault : HeaderName → Kind → ℕ → List ℕ → Option FieldFault
field_fault file kind n line =
    if is_of_other_file file kind line then Some WrongFile
    else (if has_wrong_count kind n line then Some Count
    else option_map Bad (least_bad file (layout_of kind n line) line))
