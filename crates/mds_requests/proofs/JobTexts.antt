-- From the value that a text denotes to the text.
use Rattle.std.proofs.Common.{◌≡◌, ◌<◌, ℕ, List, [], ◌∷◌, length, arith, Option, Some, None, Ok, Err, Result, subst}
use Rattle.std.specs.declared.alloc.AllocError.{AllocError}
use Rattle.std.specs.Prelude.{IfOk, IsUtf8, MatchOption}
use Rattle.serde_json.proofs.OnLiterals.{serde_json_on_literals}
use Rattle.serde_json.specs.Data.{Data}
use Rattle.serde_json.specs.Read.{read}
use Rattle.mds_jobs.specs.declared.job.Job.{Job}
use Rattle.mds_requests.specs.JobObjects.{IsJobObject, IsJobText}

-- a text denotes one value
same_value : (text : List ℕ) (value other : Data) (job : Job) → read text ≡ Some value → read text ≡ Some other → IsJobObject other job → IsJobObject value job
same_value text value other job denoted too object = let same : other ≡ value = cc in subst (λ (d : Data). IsJobObject d job) same object

-- what is found in its value is found in the text
pub found_in_text : (text : List ℕ) (value : Data) (r : Result (Option Job) AllocError) → IsUtf8 text → read text ≡ Some value
    → IfOk r (λ found. MatchOption found ((job : Job) → ¬ IsJobObject value job) (λ job. IsJobObject value job))
    → IfOk r (λ found. MatchOption found ((job : Job) → ¬ IsJobText text job) (λ job. IsJobText text job))
found_in_text text value (Ok None) utf8 denoted none = λ job is. none job (same_value text value is.value job denoted is.denoted is.object)
found_in_text text value (Ok (Some job)) utf8 denoted object = record { utf8 = utf8; value = value; denoted = denoted; object = object }
found_in_text text value (Err e) utf8 denoted none = tt

-- what denotes a value isn't empty
pub some_text : (text : List ℕ) (value : Data) → read text ≡ Some value → 0 < length text
unfolding serde_json_on_literals
some_text [] value denoted = absurd (cc)
some_text (c ∷ text) value denoted = omega arith
