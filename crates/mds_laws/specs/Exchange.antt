-- A job and a file that states nothing of the days that the job may look at change places (profile).
use Rattle.std.specs.Prelude.{◌≡◌, ◌⊎◌, ◌↔◌, ℕ, ◌+◌, None, [], ◌∷◌}
use Rattle.std.specs.declared.alloc.Global.{Global}
use Rattle.std.specs.declared.vec.Vec.{Vec}
use Rattle.mds_records.specs.declared.file.FileKind.{FileKind}
use Rattle.mds_world.specs.declared.facts.Head.{Head}
use Rattle.mds_world.specs.Facts.{JobContent}
use Rattle.mds_world.specs.Facts.Fact.{HeadIs}
use Rattle.mds_world.specs.Sets.{◌∈◌}
use Rattle.mds_world.specs.Stated.{stated}
use Rattle.mds_world.specs.World.{IsLawful, World}
use Rattle.mds_jobs.specs.Jobs.{content_of}
use Rattle.mds_jobs.specs.declared.job.Job.{Job}
use Rattle.mds_fill.specs.Fills.{IsLike}
use Rattle.mds_messages.specs.declared.request.Request.TheVariants as asked
use Rattle.mds_messages.specs.declared.answer.Answer.{Answer}
use Rattle.mds_service.specs.Machine.{Run, fault_in, stated_in}
use Rattle.mds_laws.specs.Answered.{IsGiven}
use Rattle.mds_laws.specs.Determined.{AreSame}

-- the days of its stream that a job may look at: its own, the days before and after it, and its candidates
abbrev pub MayLookAt : World → JobContent → ℕ → Type 0
MayLookAt w job day =
    (day ≡ job.day) ⊎ ((day + 1 ≡ job.day) ⊎ ((day ≡ job.day + 1) ⊎ ((place : ℕ) × IsLike w job place day)))

-- no head of such a day is among the facts
abbrev pub LeavesAlone : World → World → Job → Type 0
LeavesAlone w facts job =
    (head : Head) → HeadIs head ∈ facts → head.stream ≡ job.stream → MayLookAt w (content_of job) head.day → ⊥

-- Take a job, and a file that leaves these days alone if it is well formed. Whatever answers and end they have in one order,
-- they may have in the other.
abbrev pub MayChangePlaces : Type 0
MayChangePlaces =
    (old new : World) (kind : FileKind) (bytes : Vec ℕ Global) (job : Job) (of_file of_job : Answer)
    → (fault_in kind bytes.items ≡ None → LeavesAlone old (stated (stated_in kind bytes.items)) job)
    → (Run old (asked.Import kind bytes ∷ asked.Substitute job ∷ []) (of_file ∷ of_job ∷ []) new)
    ↔ (Run old (asked.Substitute job ∷ asked.Import kind bytes ∷ []) (of_job ∷ of_file ∷ []) new)

-- Take such a job and such a file, over a lawful World, in the one order and in the other. If all four are answered, the file
-- has the same answer in both orders, and so has the job. Both orders end in the same World.
abbrev pub ChangePlaces : Type 0
ChangePlaces =
    (old new other_new : World) (kind : FileKind) (bytes again : Vec ℕ Global) (job : Job)
    (of_file of_job other_file other_job : Answer) → IsLawful old → bytes.items ≡ again.items
    → (fault_in kind bytes.items ≡ None → LeavesAlone old (stated (stated_in kind bytes.items)) job)
    → Run old (asked.Import kind bytes ∷ asked.Substitute job ∷ []) (of_file ∷ of_job ∷ []) new
    → Run old (asked.Substitute job ∷ asked.Import kind again ∷ []) (other_job ∷ other_file ∷ []) other_new
    → IsGiven of_file → IsGiven of_job → IsGiven other_file → IsGiven other_job
    → AreSame of_file other_file × AreSame of_job other_job × (new ≡ other_new)
