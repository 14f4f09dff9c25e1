-- Nothing is lost (profile). What a World holds stays as it is. The answers say what was added, and each addition was made by one
-- request.
use Rattle.std.specs.Prelude.{◌≡◌, ℕ, ◌+◌, true, List, ◌∷◌, ◌++◌}
use Rattle.std.specs.List.{sum_by}
use Rattle.std.specs.declared.alloc.Global.{Global}
use Rattle.std.specs.declared.vec.Vec.{Vec}
use Rattle.mds_marks.specs.Reading.{ReadingValue}
use Rattle.mds_records.specs.declared.file.FileKind.TheVariants.{Nem13}
use Rattle.mds_world.specs.declared.facts.Head.{Head}
use Rattle.mds_world.specs.declared.facts.Key.{Key}
use Rattle.mds_world.specs.Counts.{counted, is_counted}
use Rattle.mds_world.specs.Facts.{Fact, JobContent, PeriodContent}
use Rattle.mds_statements.specs.declared.periods.PeriodKey.{PeriodKey}
use Rattle.mds_world.specs.Facts.Fact.{HeadIs, VersionIs, PeriodIs, JobIs}
use Rattle.mds_world.specs.Sets.{◌∈◌}
use Rattle.mds_world.specs.Stated.{stated}
use Rattle.mds_world.specs.World.{IsLawful, World}
use Rattle.mds_jobs.specs.Jobs.{content_of}
use Rattle.mds_jobs.specs.declared.job.Job.{Job}
use Rattle.mds_fill.specs.Fills.{IsSubstitute, IsTarget}
use Rattle.mds_messages.specs.declared.request.Request.{Request}
use Rattle.mds_messages.specs.declared.request.Request.TheVariants as asked
use Rattle.mds_messages.specs.declared.answer.Answer.{Answer}
use Rattle.mds_messages.specs.declared.answer.Answer.TheVariants as told
use Rattle.mds_service.specs.Machine.{Run, Step, stated_in}

-- Whatever a World holds, a later one of the run holds.
abbrev pub NothingIsMissing : Type 0
NothingIsMissing =
    (old new : World) (requests : List Request) (answers : List Answer)
    → Run old requests answers new → (fact : Fact) → fact ∈ old → fact ∈ new

-- From a lawful World a run ends in a lawful one.
abbrev pub LawStays : Type 0
LawStays =
    (old new : World) (requests : List Request) (answers : List Answer)
    → Run old requests answers new → IsLawful old → IsLawful new

-- If both hold a version or an accumulation of one key, these are the same. So are heads of one day under one update, and jobs of
-- one id. Heads of one day have one unit, whatever the update.
pub record AreUnaltered (old new : World) : Type 0 where
  pub versions : (key : Key) (a b : ReadingValue) → VersionIs key a ∈ old → VersionIs key b ∈ new → a ≡ b
  pub heads : (a b : Head) → HeadIs a ∈ old → HeadIs b ∈ new → a.stream ≡ b.stream → a.day ≡ b.day → a.update ≡ b.update
      → a ≡ b
  pub units : (a b : Head) → HeadIs a ∈ old → HeadIs b ∈ new → a.stream ≡ b.stream → a.day ≡ b.day → a.unit ≡ b.unit
  pub periods : (key : PeriodKey) (a b : PeriodContent) → PeriodIs key a ∈ old → PeriodIs key b ∈ new → a ≡ b
  pub jobs : (id : List ℕ) (a b : JobContent) (m n : ℕ) → JobIs id a m ∈ old → JobIs id b n ∈ new → (a ≡ b) × (m ≡ n)

-- What a lawful World holds, a later one of the run doesn't hold in another form.
abbrev pub NothingIsAltered : Type 0
NothingIsAltered =
    (old new : World) (requests : List Request) (answers : List Answer)
    → Run old requests answers new → IsLawful old → AreUnaltered old new

-- how many versions and accumulations were added, as an answer says
abbrev pub came_in : Answer → ℕ
came_in (told.Imported added known) = added
came_in (told.Substituted count) = count
came_in answer = 0

-- The World has as many more versions and accumulations as the answers of the run say.
abbrev pub AnswersTellHowMany : Type 0
AnswersTellHowMany =
    (old new : World) (requests : List Request) (answers : List Answer)
    → Run old requests answers new → counted new ≡ counted old + sum_by came_in answers

-- A request of a run, with the World before it, its answer, and the World after it.
pub record IsStepOf (old new : World) (requests : List Request) (answers : List Answer)
    (before : World) (request : Request) (answer : Answer) (after : World) : Type 0 where
  pub earlier : List Request
  pub later : List Request
  pub told_earlier : List Answer
  pub told_later : List Answer
  pub asked : requests ≡ earlier ++ request ∷ later
  pub answered : answers ≡ told_earlier ++ answer ∷ told_later
  pub run_before : Run old earlier told_earlier before
  pub step : Step before request answer after
  pub run_after : Run after later told_later new

-- a target of a job, with the job's length, update, flag, method and reason, and the value by its method in this World
abbrev pub IsOfJob : World → Job → Fact → Type 0
IsOfJob w job (VersionIs key reading) =
    (key.stream ≡ job.stream) × (key.day ≡ job.day) × (key.length ≡ job.length) × (key.update ≡ job.update)
    × IsTarget (content_of job) key.interval × IsSubstitute w (content_of job) key.interval reading
IsOfJob w job fact = ⊥

-- what an imported file states, or what a job that was done fills in by the World before it
abbrev pub ComesBy : World → Request → Answer → Fact → Type 0
ComesBy before (asked.Import kind bytes) (told.Imported added known) fact = fact ∈ stated (stated_in kind bytes.items)
ComesBy before (asked.Substitute job) (told.Substituted count) fact = IsOfJob before job fact
ComesBy before request answer fact = ⊥

-- The request of a run that added a fact: the fact isn't there before, and is there after.
pub record CameBy (old new : World) (requests : List Request) (answers : List Answer) (fact : Fact) : Type 0 where
  pub before : World
  pub after : World
  pub request : Request
  pub answer : Answer
  pub step : IsStepOf old new requests answers before request answer after
  pub absent : fact ∈ before → ⊥
  pub present : fact ∈ after
  pub by : ComesBy before request answer fact

-- Each version and accumulation that a run added came by such a request.
abbrev pub EachCameByOne : Type 0
EachCameByOne =
    (old new : World) (requests : List Request) (answers : List Answer) (fact : Fact) → is_counted fact ≡ true
    → Run old requests answers new → fact ∈ new → (fact ∈ old → ⊥) → CameBy old new requests answers fact

-- The NEM13 file of a run that added an accumulation: it was imported, and states the accumulation, which wasn't there before.
pub record CameByFile (old new : World) (requests : List Request) (answers : List Answer)
    (key : PeriodKey) (content : PeriodContent) : Type 0 where
  pub before : World
  pub after : World
  pub bytes : Vec ℕ Global
  pub added : ℕ
  pub known : ℕ
  pub step : IsStepOf old new requests answers before (asked.Import Nem13 bytes) (told.Imported added known) after
  pub absent : PeriodIs key content ∈ before → ⊥
  pub among : PeriodIs key content ∈ stated (stated_in Nem13 bytes.items)

-- Each accumulation that a run added came by such a file.
abbrev pub EachPeriodCameByFile : Type 0
EachPeriodCameByFile =
    (old new : World) (requests : List Request) (answers : List Answer) (key : PeriodKey) (content : PeriodContent)
    → Run old requests answers new → PeriodIs key content ∈ new → (PeriodIs key content ∈ old → ⊥)
    → CameByFile old new requests answers key content
