-- Which errors mean that a store failed, and that no rule of the tables is against a statement (profile).
use Rattle.std.specs.Prelude.{Bool, true, false}
use Rattle.sqlite.specs.declared.error.Error.{Error}
use Rattle.sqlite.specs.declared.error.Error.TheVariants.{SqliteFailure}
use Rattle.sqlite.specs.declared.error.ErrorCode.TheVariants as code

abbrev pub is_store_error : Error → Bool
is_store_error (SqliteFailure code.OutOfMemory) = true
is_store_error (SqliteFailure code.SystemIoFailure) = true
is_store_error (SqliteFailure code.DatabaseCorrupt) = true
is_store_error (SqliteFailure code.DiskFull) = true
is_store_error (SqliteFailure code.Closed) = true
is_store_error (SqliteFailure code.TooBig) = true
is_store_error _ = false
