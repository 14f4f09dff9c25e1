-- The parts of a job that take no memory of their own, in two halves.
use Rattle.std.specs.Prelude.{◌≡◌, Some}
use Rattle.serde_json.specs.Data.{Data}
use Rattle.mds_jobs.specs.declared.job.JobManner.{JobManner}
use Rattle.mds_jobs.specs.declared.job.JobPlace.{JobPlace}
use Rattle.mds_requests.specs.JobObjects.{day_in, first_in, flag_in, last_in, length_in, method_in, nmi_in, suffix_in, unit_in, update_in}

-- which intervals are filled
pub record IsPlace (value : Data) (place : JobPlace) : Type 0 where
  pub nmi : nmi_in value ≡ Some place.stream.nmi
  pub suffix : suffix_in value ≡ Some place.stream.suffix
  pub day : day_in value ≡ Some place.day
  pub first : first_in value ≡ Some place.first
  pub last : last_in value ≡ Some place.last

-- and how
pub record IsManner (value : Data) (manner : JobManner) : Type 0 where
  pub minutes : length_in value ≡ Some manner.length
  pub unit : unit_in value ≡ Some manner.unit
  pub method : method_in value ≡ Some manner.method
  pub flag : flag_in value ≡ Some manner.flag
  pub update : update_in value ≡ Some manner.update
