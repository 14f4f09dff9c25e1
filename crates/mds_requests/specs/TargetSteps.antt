-- Why a file or a path has no request. No public contract cites it.
use Rattle.std.specs.Prelude.{◌≡◌, ℕ, List}
use Rattle.mds_messages.specs.declared.request.Request.{Request}
use Rattle.mds_requests.specs.Asking.{AsksNothing}
use Rattle.mds_requests.specs.declared.files.FileCommand.{FileCommand}
use Rattle.mds_requests.specs.declared.files.RequestFault.{RequestFault}
use Rattle.mds_requests.specs.declared.files.RequestFault.TheVariants.{BadJob, BadHolidays, Memory}
use Rattle.mds_requests.specs.declared.holidays.HolidaysFault.{HolidaysFault}
use Rattle.mds_requests.specs.declared.holidays.HolidaysFault.TheVariants as list
use Rattle.mds_requests.specs.declared.targets.TargetFault.{TargetFault}
use Rattle.mds_requests.specs.declared.targets.TargetFault.TheVariants as fault

-- the fault of a file as one of a target
abbrev pub fault_of : RequestFault → TargetFault
fault_of BadJob = fault.Bad
fault_of (BadHolidays row) = fault.BadHolidays row
fault_of Memory = fault.Memory

-- the fault of a list of holidays as one of a file
abbrev pub of_holidays : HolidaysFault → RequestFault
of_holidays (list.BadHolidays row) = BadHolidays row
of_holidays list.Memory = Memory

-- a file asks for nothing
abbrev pub IsFileFault : FileCommand → List ℕ → TargetFault → Type 0
IsFileFault what body reason =
    (found : RequestFault) × (reason ≡ fault_of found) × AsksNothing what body found

-- a path asks for nothing
abbrev pub IsBad : (Request → Type 0) → TargetFault → Type 0
IsBad AsksFor reason = (reason ≡ fault.Bad) × ((request : Request) → ¬ AsksFor request)
