-- What a file asks for that comes with a command (profile).
use Rattle.std.specs.Prelude.{◌≡◌, ◌<◌, ℕ, List, IsUtf8, length}
use Rattle.mds_jobs.specs.declared.job.Job.{Job}
use Rattle.mds_requests.specs.JobObjects.{IsJobText}
use Rattle.mds_requests.specs.Holidays.{DiffersFirst, IsListOf, rows_of}
use Rattle.mds_messages.specs.declared.request.Request.{Request}
use Rattle.mds_messages.specs.declared.request.Request.TheVariants as asked
use Rattle.mds_requests.specs.declared.files.FileCommand.{FileCommand}
use Rattle.mds_requests.specs.declared.files.FileCommand.TheVariants as command
use Rattle.mds_requests.specs.declared.files.RequestFault.{RequestFault}
use Rattle.mds_requests.specs.declared.files.RequestFault.TheVariants as fault

-- the request that it says
abbrev pub Asks : FileCommand → List ℕ → Request → Type 0
Asks (command.Import kind) text (asked.Import as_kind bytes) = (as_kind ≡ kind) × (bytes.items ≡ text)
Asks command.Substitute text (asked.Substitute job) = IsJobText text job
Asks command.Holidays text (asked.Holidays days) = IsListOf (rows_of text) days.items
Asks what text request = ⊥

-- Why it says none: it is no job, or no list of holidays from a row on. Memory is needed only for a file that isn't empty, and
-- for a job only if it is UTF-8. An import needs none.
abbrev pub AsksNothing : FileCommand → List ℕ → RequestFault → Type 0
AsksNothing command.Substitute text fault.BadJob = (job : Job) → ¬ IsJobText text job
AsksNothing command.Substitute text fault.Memory = IsUtf8 text × (0 < length text)
AsksNothing command.Holidays text (fault.BadHolidays row) = DiffersFirst (rows_of text) row
AsksNothing command.Holidays text fault.Memory = 0 < length text
AsksNothing what text reason = ⊥
