-- How the parts of a job's body are read, one by one.
use Rattle.std.specs.Prelude.{◌≡◌, ℕ, List, map, Some}
use Rattle.std.specs.Borrow.{Bor}
use Rattle.mds_quantity.specs.Unit.{unit_of}
use Rattle.mds_calendar.specs.Calendar.{day_of, moment_of}
use Rattle.mds_calendar.specs.Length.{length_of}
use Rattle.mds_names.specs.Names.{nmi_of, suffix_of}
use Rattle.mds_jobs.specs.Bodies.{Writes, flag_of, part_at}
use Rattle.mds_jobs.specs.declared.job.JobManner.{JobManner}
use Rattle.mds_jobs.specs.declared.job.JobPlace.{JobPlace}

-- the borrowed texts as values
abbrev pub texts_of : List (Bor (List ℕ)) → List (List ℕ)
texts_of texts = map (λ text. text.now) texts

-- which intervals are filled
pub record SaysPlace (parts : List (List ℕ)) (place : JobPlace) : Type 0 where
  pub nmi : nmi_of (part_at parts 0) ≡ Some place.stream.nmi
  pub suffix : suffix_of (part_at parts 1) ≡ Some place.stream.suffix
  pub day : day_of (part_at parts 2) ≡ Some place.day
  pub first : Writes 16 (part_at parts 3) place.first
  pub last : Writes 16 (part_at parts 4) place.last

-- how they are filled, except for the reason
pub record SaysManner (parts : List (List ℕ)) (manner : JobManner) : Type 0 where
  pub length : length_of (part_at parts 5) ≡ Some manner.length
  pub unit : unit_of (part_at parts 6) ≡ Some manner.unit
  pub method : Writes 8 (part_at parts 7) manner.method
  pub flag : flag_of (part_at parts 8) ≡ Some manner.flag
  pub update : moment_of (part_at parts 11) ≡ Some manner.update
