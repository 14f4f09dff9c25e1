-- Substitution jobs (profile). The methods are those of the MDFF Specification, appendix of method flags.
use Rattle.std.specs.Prelude.{◌≡◌, ◌⊎◌, ◌<◌, ℕ, List, [], ◌∷◌, codes}
use Rattle.mds_calendar.specs.Length.{count_of}
use Rattle.mds_marks.specs.Reason.{ReasonValue}
use Rattle.mds_world.specs.Facts.{JobContent}
use Rattle.mds_world.specs.Lists.{Member}
use Rattle.mds_jobs.specs.declared.job.Job.{Job}
use Rattle.mds_jobs.specs.declared.job.JobManner.{JobManner}
use Rattle.mds_jobs.specs.declared.job.JobPlace.{JobPlace}
use Rattle.mds_jobs.specs.declared.method.Method.{Method}
use Rattle.mds_jobs.specs.declared.method.Method.TheVariants.{LikeDay, MeanOfLikeDays, Interpolation, Zeros}

-- the job of these parts
abbrev pub job_of_parts : List ℕ → JobPlace → JobManner → ReasonValue → Job
job_of_parts id place manner reason = record {
  id = id;
  stream = place.stream;
  day = place.day;
  first = place.first;
  last = place.last;
  length = manner.length;
  unit = manner.unit;
  method = manner.method;
  flag = manner.flag;
  reason = reason;
  update = manner.update;
}

-- the content of a job in a World: all but its id
abbrev pub content_of : Job → JobContent
content_of job = record {
  stream = job.stream;
  day = job.day;
  first = job.first;
  last = job.last;
  length = job.length;
  unit = job.unit;
  method = job.method;
  flag = job.flag;
  code = job.reason.code;
  text = job.reason.text;
  update = job.update;
}

-- the code of each method
abbrev pub method_code : Method → ℕ
method_code LikeDay = 14
method_code MeanOfLikeDays = 15
method_code Interpolation = 17
method_code Zeros = 19

-- the codes of all methods
abbrev pub methods : List ℕ
methods = 14 ∷ 15 ∷ 17 ∷ 19 ∷ []

-- the flags that a method follows
abbrev pub flags : List ℕ
flags = codes "EFS"

-- No store can do it: its intervals aren't those of the day, or the method or the flag isn't one that it may
-- have.
abbrev pub IsBad : JobContent → Type 0
IsBad job =
    (job.first ≡ 0) ⊎ ((job.last < job.first) ⊎ ((count_of job.length < job.last)
    ⊎ ((Member job.method methods → ⊥) ⊎ (Member job.flag flags → ⊥))))

-- both fill the same intervals
pub record HasPlaceOf (a b : Job) : Type 0 where
  pub stream : a.stream ≡ b.stream
  pub day : a.day ≡ b.day
  pub first : a.first ≡ b.first
  pub last : a.last ≡ b.last
