-- Substitution jobs as JSON objects (profile).
use Rattle.std.specs.Prelude.{◌≡◌, ℕ, List, [], ◌∷◌, codes, if◌then◌else◌, Option, Some, None, option_and_then, IsUtf8}
use Rattle.serde_json.specs.Data.{Data}
use Rattle.serde_json.specs.Read.{read}
use Rattle.mds_calendar.specs.Calendar.{day_of, moment_of}
use Rattle.mds_calendar.specs.Length.{is_length}
use Rattle.mds_marks.specs.Reason.{ReasonValue, reason_of}
use Rattle.mds_names.specs.Names.{nmi_of, suffix_of}
use Rattle.mds_quantity.specs.Unit.{unit_of}
use Rattle.mds_quantity.specs.declared.unit.Unit.{Unit}
use Rattle.mds_jobs.specs.Ids.{job_id_of}
use Rattle.mds_jobs.specs.declared.job.Job.{Job}
use Rattle.mds_requests.specs.JobFields.{flag_of, keys_of, number_at, text_at}

-- the keys of a job, in the order of their bytes
abbrev pub job_keys : List (List ℕ)
job_keys =
    codes "code" ∷ codes "date" ∷ codes "first" ∷ codes "flag" ∷ codes "id" ∷ codes "last" ∷ codes "length" ∷ codes "method"
    ∷ codes "nmi" ∷ codes "suffix" ∷ codes "text" ∷ codes "unit" ∷ codes "update" ∷ []

-- what is said at each key
abbrev pub id_in : Data → Option (List ℕ)
id_in value = option_and_then job_id_of (text_at (codes "id") value)

abbrev pub nmi_in : Data → Option (List ℕ)
nmi_in value = option_and_then nmi_of (text_at (codes "nmi") value)

abbrev pub suffix_in : Data → Option (List ℕ)
suffix_in value = option_and_then suffix_of (text_at (codes "suffix") value)

abbrev pub day_in : Data → Option ℕ
day_in value = option_and_then day_of (text_at (codes "date") value)

abbrev pub first_in : Data → Option ℕ
first_in value = number_at (codes "first") 65_535 value

abbrev pub last_in : Data → Option ℕ
last_in value = number_at (codes "last") 65_535 value

abbrev pub length_in : Data → Option ℕ
length_in value = option_and_then (λ n. if is_length n then Some n else None) (number_at (codes "length") 30 value)

abbrev pub unit_in : Data → Option Unit
unit_in value = option_and_then unit_of (text_at (codes "unit") value)

abbrev pub method_in : Data → Option ℕ
method_in value = number_at (codes "method") 255 value

abbrev pub flag_in : Data → Option ℕ
flag_in value = option_and_then flag_of (text_at (codes "flag") value)

abbrev pub reason_in : Data → Option ReasonValue
reason_in value =
    option_and_then (λ code. option_and_then (λ text. reason_of code text) (text_at (codes "text") value))
    (text_at (codes "code") value)

abbrev pub update_in : Data → Option ℕ
update_in value = option_and_then moment_of (text_at (codes "update") value)

-- an object with exactly the keys of a job, which says this job
pub record IsJobObject (value : Data) (job : Job) : Type 0 where
  pub keys : keys_of value ≡ Some job_keys
  pub id : id_in value ≡ Some job.id
  pub nmi : nmi_in value ≡ Some job.stream.nmi
  pub suffix : suffix_in value ≡ Some job.stream.suffix
  pub day : day_in value ≡ Some job.day
  pub first : first_in value ≡ Some job.first
  pub last : last_in value ≡ Some job.last
  pub minutes : length_in value ≡ Some job.length
  pub unit : unit_in value ≡ Some job.unit
  pub method : method_in value ≡ Some job.method
  pub flag : flag_in value ≡ Some job.flag
  pub reason : reason_in value ≡ Some job.reason
  pub update : update_in value ≡ Some job.update

-- a text in UTF-8 that denotes such an object
pub record IsJobText (text : List ℕ) (job : Job) : Type 0 where
  pub utf8 : IsUtf8 text
  pub value : Data
  pub denoted : read text ≡ Some value
  pub object : IsJobObject value job
