-- The faults of a NEM13 file. MDFF Specification, the blocking and the layouts; the faults and their order are this project's
-- profile.
use Rattle.std.specs.Prelude.{ℕ, ◌+◌, if◌then◌else◌, List, length, Option, Some, None, option_map}
use Rattle.mds_lines.specs.declared.line.Kind.{Kind}
use Rattle.mds_lines.specs.declared.line.Kind.TheVariants.{EndOfData}
use Rattle.mds_records.specs.FieldFaults.{field_fault}
use Rattle.mds_records.specs.declared.file.FaultCode.TheVariants as code
use Rattle.mds_records.specs.declared.file.FileFault.{FileFault}
use Rattle.mds_records.specs.declared.header_name.HeaderName.TheVariants.{Nem13}
use Rattle.mds_walk.specs.Faults.{Judge, at_field, at_line, fault_of as of_file}
use Rattle.mds_walk.specs.Governing.{is_this, last_kind_of}
use Rattle.mds_nem13.specs.Place.{is_in_place}

-- the faults of the fields of a record after these lines: L11, L4, L5
abbrev pub fields_fault : List (List ℕ) → List ℕ → Kind → Option FileFault
fields_fault before line kind = option_map (at_field (length before + 1)) (field_fault Nem13 kind 0 line)

-- the first fault of a record after these lines: L3, and those of its fields
abbrev pub record_fault : List (List ℕ) → List ℕ → Kind → Option FileFault
record_fault before line kind =
    if is_in_place (last_kind_of before) kind then fields_fault before line kind
    else Some (at_line (length before + 1) code.OutOfPlace)

-- how a NEM13 file judges: an end has L9 if the last record isn't an end of data, or there is no record
abbrev pub nem13 : Judge
nem13 = record {
  of_record = record_fault;
  of_end = λ lines. if is_this EndOfData (last_kind_of lines) then None else Some code.MissingEnd;
}

-- the fault of a text: that of its least faulty line; a text without a fault is well formed
unfoldable pub fault_of : List ℕ → Option FileFault
fault_of text = of_file nem13 text
