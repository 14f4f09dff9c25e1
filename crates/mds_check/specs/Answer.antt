-- The results of `check` (profile).
use Rattle.std.specs.Prelude.{◌⊎◌, ◌<◌, ℕ, Bool, true, false, List, ◌++◌, length, take, Result, Ok, Err}
use Rattle.std.specs.List.{concat}
use Rattle.mds_records.specs.declared.file.FileFault.{FileFault}
use Rattle.mds_records.specs.declared.file.FileKind.{FileKind}
use Rattle.mds_records.specs.declared.file.FileKind.TheVariants.{Nem12, Nem13}
use Rattle.mds_nem12.specs.Answers.{MayLackGiven, MayLackMemory, MeetsEnd}
use Rattle.mds_nem12.specs.Faults.{nem12}
use Rattle.mds_nem13.specs.Answers.{MayLackMemory as MayLackMemory_13}
use Rattle.mds_nem13.specs.Faults.{nem13}
use Rattle.mds_check.specs.Report.{IsFaultOf, IsReportOf}
use Rattle.mds_check.specs.declared.checking.CheckFault.{CheckFault}
use Rattle.mds_check.specs.declared.checking.CheckFault.TheVariants.{File, Memory, Read, Write}

-- the result is that the reader failed, and that the writer did
abbrev pub is_read_fault : {T : Type 0} → Result T CheckFault → Bool
is_read_fault (Ok done) = false
is_read_fault (Err Read) = true
is_read_fault (Err fault) = false

abbrev pub is_write_fault : {T : Type 0} → Result T CheckFault → Bool
is_write_fault (Ok done) = false
is_write_fault (Err Write) = true
is_write_fault (Err fault) = false

-- The fault is of all that the reader's calls brought, up to the end. Or it is that of every text that begins with what they brought.
abbrev pub IsFaultRead : FileKind → List (List ℕ) → FileFault → Type 0
IsFaultRead kind given fault =
    (MeetsEnd given × IsFaultOf kind (concat given) fault) ⊎ ((more : List ℕ) → IsFaultOf kind (concat given ++ more) fault)

-- It may run out of memory at what the reader's calls brought of this kind of file.
abbrev pub MayLackOf : FileKind → List (List ℕ) → Type 0
MayLackOf Nem12 given = MayLackGiven MayLackMemory nem12 given
MayLackOf Nem13 given = MayLackGiven MayLackMemory_13 nem13 given

-- The text to be printed is of all that the reader's calls brought, up to the end. Otherwise the fault is of what they brought, or it
-- ran out of memory there. If the reader failed, nothing is said.
abbrev pub IsReportRead : {T : Type 0} → FileKind → (T → List ℕ) → List (List ℕ) → Result T CheckFault → Type 0
IsReportRead kind text_of given (Ok out) = MeetsEnd given × IsReportOf kind (concat given) (text_of out)
IsReportRead kind text_of given (Err (File fault)) = IsFaultRead kind given fault
IsReportRead kind text_of given (Err Memory) = MayLackOf kind given
IsReportRead kind text_of given (Err reason) = Unit {0}

-- Such a report was written, or a part of it if the writer failed.
abbrev pub IsCheckOf : {T : Type 0} → FileKind → List (List ℕ) → (List ℕ → Type 0) → Result T CheckFault → Type 0
IsCheckOf kind given Writes (Ok done) = MeetsEnd given × (report : List ℕ) × IsReportOf kind (concat given) report × Writes report
IsCheckOf kind given Writes (Err (File fault)) = IsFaultRead kind given fault
IsCheckOf kind given Writes (Err Write) =
    MeetsEnd given × (report : List ℕ) × (n : ℕ) × IsReportOf kind (concat given) report × (n < length report) × Writes (take n report)
IsCheckOf kind given Writes (Err Memory) = MayLackOf kind given
IsCheckOf kind given Writes (Err Read) = Unit {0}
