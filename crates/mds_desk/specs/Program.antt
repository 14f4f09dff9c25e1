-- What the program prints, and the status that it ends with (profile).
use Rattle.std.specs.Prelude.{ℕ, List, [], ◌++◌, codes, decimal, Result, Ok, Err}
use Rattle.mds_records.specs.Printed.{fault_text}
use Rattle.mds_arguments.specs.Arguments.{argument_name}
use Rattle.mds_check.specs.declared.checking.CheckFault.{CheckFault}
use Rattle.mds_check.specs.declared.checking.CheckFault.TheVariants as check
use Rattle.mds_desk.specs.declared.importing.ImportFault.{ImportFault}
use Rattle.mds_desk.specs.declared.importing.ImportFault.TheVariants as import
use Rattle.mds_desk.specs.declared.performing.PerformFault.{PerformFault}
use Rattle.mds_desk.specs.declared.performing.PerformFault.TheVariants as perform
use Rattle.mds_desk.specs.declared.outcome.Outcome.{Outcome}
use Rattle.mds_desk.specs.declared.outcome.Outcome.TheVariants as outcome
use Rattle.mds_desk.specs.declared.outcome.Status.{Status}
use Rattle.mds_desk.specs.declared.outcome.Status.TheVariants as status

-- the number of a status
abbrev pub status_code : Status → ℕ
status_code status.Done = 0
status_code status.Fault = 1
status_code status.Usage = 2
status_code status.Unavailable = 3

-- the result of a check
abbrev pub of_check : {T : Type 0} → Result T CheckFault → Outcome
of_check (Ok done) = outcome.Done
of_check (Err (check.File fault)) = outcome.Fault fault
of_check (Err check.Read) = outcome.NoInput
of_check (Err check.Write) = outcome.NoOutput
of_check (Err check.Memory) = outcome.Unavailable

-- the result of a request
abbrev pub of_request : Result Status PerformFault → Outcome
of_request (Ok s) = outcome.Answered s
of_request (Err perform.Write) = outcome.NoOutput
of_request (Err perform.Memory) = outcome.Unavailable

-- the result of importing a file
abbrev pub of_import : Result Status ImportFault → Outcome
of_import (Ok s) = outcome.Answered s
of_import (Err import.Read) = outcome.NoInput
of_import (Err import.Write) = outcome.NoOutput
of_import (Err import.Memory) = outcome.Unavailable

-- its status
abbrev pub status_of : Outcome → Status
status_of outcome.Done = status.Done
status_of outcome.Created = status.Done
status_of outcome.Migrated = status.Done
status_of outcome.AlreadyCurrent = status.Done
status_of (outcome.Answered s) = s
status_of (outcome.Fault fault) = status.Fault
status_of outcome.BadJob = status.Usage
status_of (outcome.BadHolidays row) = status.Fault
status_of (outcome.BadArgument argument) = status.Usage
status_of outcome.Usage = status.Usage
status_of outcome.NoText = status.Usage
status_of outcome.NoInput = status.Unavailable
status_of outcome.NoOutput = status.Unavailable
status_of outcome.NoPort = status.Unavailable
status_of outcome.Unavailable = status.Unavailable
status_of outcome.EarlierSchema = status.Unavailable
status_of outcome.OtherSchema = status.Unavailable

-- what remains to be printed of it: a line or nothing
abbrev pub outcome_text : Outcome → List ℕ
outcome_text outcome.Done = []
outcome_text outcome.Created = codes "created\n"
outcome_text outcome.Migrated = codes "migrated\n"
outcome_text outcome.AlreadyCurrent = codes "already current\n"
outcome_text (outcome.Answered s) = []
outcome_text (outcome.Fault fault) = fault_text fault ++ codes "\n"
outcome_text outcome.BadJob = codes "bad job\n"
outcome_text (outcome.BadHolidays row) = codes "H1 line " ++ decimal row ++ codes "\n"
outcome_text (outcome.BadArgument argument) = codes "bad argument " ++ argument_name argument ++ codes "\n"
outcome_text outcome.Usage = []
outcome_text outcome.NoText = codes "a word is not UTF-8\n"
outcome_text outcome.NoInput = codes "cannot read file\n"
outcome_text outcome.NoOutput = []
outcome_text outcome.NoPort = codes "cannot listen\n"
outcome_text outcome.Unavailable = codes "U1\n"
outcome_text outcome.EarlierSchema = codes "U2\n"
outcome_text outcome.OtherSchema = codes "U3\n"
