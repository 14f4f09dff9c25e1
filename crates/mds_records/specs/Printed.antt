-- How the faults of a file are printed (profile).
use Rattle.std.specs.Prelude.{ℕ, ◌==◌, if◌then◌else◌, List, [], ◌++◌, codes, decimal}
use Rattle.mds_records.specs.declared.file.FaultCode.{FaultCode}
use Rattle.mds_records.specs.declared.file.FaultCode.TheVariants.{NotText, UnknownRecord, OutOfPlace, FieldCount, BadField, RunRange, RunOrder, RunGap, MissingEnd, TooLarge, WrongFile, NoValue}
use Rattle.mds_records.specs.declared.file.FileFault.{FileFault}

-- the code of what is wrong
abbrev pub code_text : FaultCode → List ℕ
code_text NotText = codes "L1"
code_text UnknownRecord = codes "L2"
code_text OutOfPlace = codes "L3"
code_text FieldCount = codes "L4"
code_text BadField = codes "L5"
code_text RunRange = codes "L6"
code_text RunOrder = codes "L7"
code_text RunGap = codes "L8"
code_text MissingEnd = codes "L9"
code_text TooLarge = codes "L10"
code_text WrongFile = codes "L11"
code_text NoValue = codes "L12"

-- the code, the line and, if one is at fault, the field, as in `L5 line 3 field 290`
abbrev pub fault_text : FileFault → List ℕ
fault_text fault =
    code_text fault.code ++ codes " line " ++ decimal fault.line
    ++ (if fault.field == 0 then [] else codes " field " ++ decimal fault.field)
