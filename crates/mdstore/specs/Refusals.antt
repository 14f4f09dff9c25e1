-- The outcomes of a migration, of the end of a service, and of a store or a request that can't be had (profile).
use Rattle.std.specs.Prelude.{Result, Ok, Err}
use Rattle.mds_store.specs.declared.fault.StoreFault.{StoreFault}
use Rattle.mds_store.specs.declared.fault.StoreFault.TheVariants as store
use Rattle.mds_migrate.specs.declared.outcome.Migrated.{Migrated}
use Rattle.mds_migrate.specs.declared.outcome.Migrated.TheVariants as migrated
use Rattle.mds_migrate.specs.declared.outcome.MigrateFault.{MigrateFault}
use Rattle.mds_migrate.specs.declared.outcome.MigrateFault.TheVariants as fault
use Rattle.mds_http.specs.declared.connections.Ended.{Ended}
use Rattle.mds_http.specs.declared.connections.Ended.TheVariants as ended
use Rattle.mds_requests.specs.declared.files.RequestFault.{RequestFault}
use Rattle.mds_requests.specs.declared.files.RequestFault.TheVariants as request
use Rattle.mds_desk.specs.declared.outcome.Outcome.{Outcome}
use Rattle.mds_desk.specs.declared.outcome.Outcome.TheVariants as outcome

abbrev pub of_store : StoreFault → Outcome
of_store store.InTransaction = outcome.Unavailable
of_store (store.Unavailable error) = outcome.Unavailable
of_store store.EarlierSchema = outcome.EarlierSchema
of_store store.OtherSchema = outcome.OtherSchema

abbrev pub of_migration : Result Migrated MigrateFault → Outcome
of_migration (Ok migrated.Done) = outcome.Migrated
of_migration (Ok migrated.AlreadyCurrent) = outcome.AlreadyCurrent
of_migration (Err fault.Unavailable) = outcome.Unavailable
of_migration (Err fault.OtherSchema) = outcome.OtherSchema

abbrev pub of_request_fault : RequestFault → Outcome
of_request_fault request.BadJob = outcome.BadJob
of_request_fault (request.BadHolidays row) = outcome.BadHolidays row
of_request_fault request.Memory = outcome.Unavailable

abbrev pub of_serving : Ended → Outcome
of_serving ended.Counted = outcome.Done
of_serving ended.CannotAccept = outcome.NoPort
of_serving ended.Unavailable = outcome.Unavailable
