-- What a file, a job and a list of holidays are answered, and what they leave, is determined.
use Rattle.std.specs.Prelude.{◌≡◌, ◌⊎◌, ℕ, Some, List, length}
use Rattle.std.proofs.Common.{sym, ap, ◌∙◌, inl, inr, refl}
use Rattle.mds_records.specs.declared.file.FileFault.{FileFault}
use Rattle.mds_records.specs.declared.file.FileKind.{FileKind}
use Rattle.mds_world.specs.World.{IsLawful, World, union}
use Rattle.mds_jobs.specs.Jobs.{content_of}
use Rattle.mds_jobs.specs.declared.job.Job.{Job}
use Rattle.mds_keeper.specs.Merge.{upto}
use Rattle.mds_keeper.specs.declared.refusal.Refusal.{Refusal}
use Rattle.mds_messages.specs.declared.answer.Answer.{Answer}
use Rattle.mds_messages.specs.declared.answer.Answer.TheVariants as told
use Rattle.mds_service.specs.Holidays.{HolidaysStep}
use Rattle.mds_service.specs.Machine.{ImportStep, fault_in, stated_in}
use Rattle.mds_service.specs.Substitution.{SubstituteStep, job_world}
use Rattle.mds_laws.specs.Answered.{IsGiven}
use Rattle.mds_laws.specs.Determined.{AreSame}
use Rattle.mds_laws.proofs.AnyOrder.{no_fault, no_refusal}
use Rattle.mds_laws.proofs.OneFill.{one_substitutes}
use Rattle.mds_laws.proofs.OneJob.{done_not_stopped, known_not_stopped, one_stop}
use Rattle.mds_laws.proofs.OneQuery.{told_same}
use Rattle.mds_laws.proofs.OneRefusal.{one_refused}

-- ---- a file

module _ (w : World) (kind : FileKind) (text : List ℕ) where
  abbrev FileTold : Answer → World → Type 0
  FileTold answer new =
      ((fault : FileFault) × (answer ≡ told.File fault) × ImportStep w kind text (told.File fault) new)
      ⊎ (((added known : ℕ) × (answer ≡ told.Imported added known) × ImportStep w kind text (told.Imported added known) new)
      ⊎ ((refusal : Refusal) × (answer ≡ told.Refused refusal) × ImportStep w kind text (told.Refused refusal) new))

  file_told : (answer : Answer) (new : World) → ImportStep w kind text answer new → IsGiven answer → FileTold answer new
  file_told (told.Imported added known) new step is_given = inr (inl (added, known, refl, step))
  file_told (told.Substituted count) new step is_given = absurd step
  file_told (told.Known count) new step is_given = absurd step
  file_told (told.HolidaysAdded added known) new step is_given = absurd step
  file_told (told.Day it) new step is_given = absurd step
  file_told (told.Versions it) new step is_given = absurd step
  file_told (told.Period it) new step is_given = absurd step
  file_told (told.Streams answers) new step is_given = absurd step
  file_told (told.Gaps text) new step is_given = absurd step
  file_told (told.Finals text) new step is_given = absurd step
  file_told (told.Missing text) new step is_given = absurd step
  file_told (told.Readings text) new step is_given = absurd step
  file_told (told.Exported text) new step is_given = absurd step
  file_told (told.File fault) new step is_given = inl (fault, refl, step)
  file_told (told.Refused refusal) new step is_given = inr (inr (refusal, refl, step))
  file_told told.Unavailable new step is_given = absurd (is_given refl)

  one_fault : (a b : FileFault) → fault_in kind text ≡ Some a → fault_in kind text ≡ Some b → a ≡ b
  one_fault a b e f = let same : Some a ≡ Some b = sym e ∙ f in cc

  pub same_import : (v u : World) (a b : Answer) → ImportStep w kind text a v → ImportStep w kind text b u → IsGiven a
      → IsGiven b → AreSame a b × (v ≡ u)
  same_import v u a b x y is_given other_given = by (file_told a v x is_given) (file_told b u y other_given)
    where
      by : FileTold a v → FileTold b u → AreSame a b × (v ≡ u)
      by (inl (fault, e, p)) (inl (other, f, q)) =
          (told_same a b _ _ e f (one_fault fault other p.0 q.0), p.1 ∙ sym q.1)
      by (inl (fault, e, p)) (inr (inl (added, known, f, q))) = absurd (no_fault fault (fault_in kind text) p.0 q.0)
      by (inl (fault, e, p)) (inr (inr (r, f, q))) = absurd (no_fault fault (fault_in kind text) p.0 q.0)
      by (inr (inl (added, known, e, p))) (inl (fault, f, q)) = absurd (no_fault fault (fault_in kind text) q.0 p.0)
      by (inr (inl (added, known, e, p))) (inr (inl (more, there, f, q))) =
          (told_same a b _ _ e f (p.3 ∙ sym q.3, p.4 ∙ sym q.4), p.2 ∙ sym q.2)
      by (inr (inl (added, known, e, p))) (inr (inr (r, f, q))) = absurd (no_refusal w kind text r p.1 q.1)
      by (inr (inr (r, e, p))) (inl (fault, f, q)) = absurd (no_fault fault (fault_in kind text) q.0 p.0)
      by (inr (inr (r, e, p))) (inr (inl (added, known, f, q))) = absurd (no_refusal w kind text r q.1 p.1)
      by (inr (inr (r, e, p))) (inr (inr (s, f, q))) =
          (told_same a b _ _ e f (one_refused w (λ line. upto line (stated_in kind text)) r s p.1 q.1), p.2 ∙ sym q.2)

-- ---- holidays

module _ (w : World) (days : List ℕ) where
  listed_told : (answer : Answer) (new : World) → HolidaysStep w days answer new → IsGiven answer
      → (added known : ℕ) × (answer ≡ told.HolidaysAdded added known) × HolidaysStep w days (told.HolidaysAdded added known) new
  listed_told (told.Imported added known) new step is_given = absurd step
  listed_told (told.Substituted count) new step is_given = absurd step
  listed_told (told.Known count) new step is_given = absurd step
  listed_told (told.HolidaysAdded added known) new step is_given = (added, known, refl, step)
  listed_told (told.Day it) new step is_given = absurd step
  listed_told (told.Versions it) new step is_given = absurd step
  listed_told (told.Period it) new step is_given = absurd step
  listed_told (told.Streams answers) new step is_given = absurd step
  listed_told (told.Gaps text) new step is_given = absurd step
  listed_told (told.Finals text) new step is_given = absurd step
  listed_told (told.Missing text) new step is_given = absurd step
  listed_told (told.Readings text) new step is_given = absurd step
  listed_told (told.Exported text) new step is_given = absurd step
  listed_told (told.File fault) new step is_given = absurd step
  listed_told (told.Refused refusal) new step is_given = absurd step
  listed_told told.Unavailable new step is_given = absurd (is_given refl)

  pub same_holidays : (v u : World) (a b : Answer) → HolidaysStep w days a v → HolidaysStep w days b u → IsGiven a
      → IsGiven b → AreSame a b × (v ≡ u)
  same_holidays v u a b x y is_given other_given =
      let p = listed_told a v x is_given in
      let q = listed_told b u y other_given in
      (told_same a b _ _ p.2 q.2 (p.3.1 ∙ sym q.3.1, p.3.2 ∙ sym q.3.2), p.3.0 ∙ sym q.3.0)

-- ---- a job

module _ (w : World) (lawful : IsLawful w) (job : Job) where
  abbrev JobTold : Answer → World → Type 0
  JobTold answer new =
      ((count : ℕ) × (answer ≡ told.Substituted count) × SubstituteStep w job (told.Substituted count) new)
      ⊎ (((count : ℕ) × (answer ≡ told.Known count) × SubstituteStep w job (told.Known count) new)
      ⊎ ((refusal : Refusal) × (answer ≡ told.Refused refusal) × SubstituteStep w job (told.Refused refusal) new))

  job_told : (answer : Answer) (new : World) → SubstituteStep w job answer new → IsGiven answer → JobTold answer new
  job_told (told.Imported added known) new step is_given = absurd step
  job_told (told.Substituted count) new step is_given = inl (count, refl, step)
  job_told (told.Known count) new step is_given = inr (inl (count, refl, step))
  job_told (told.HolidaysAdded added known) new step is_given = absurd step
  job_told (told.Day it) new step is_given = absurd step
  job_told (told.Versions it) new step is_given = absurd step
  job_told (told.Period it) new step is_given = absurd step
  job_told (told.Streams answers) new step is_given = absurd step
  job_told (told.Gaps text) new step is_given = absurd step
  job_told (told.Finals text) new step is_given = absurd step
  job_told (told.Missing text) new step is_given = absurd step
  job_told (told.Readings text) new step is_given = absurd step
  job_told (told.Exported text) new step is_given = absurd step
  job_told (told.File fault) new step is_given = absurd step
  job_told (told.Refused refusal) new step is_given = inr (inr (refusal, refl, step))
  job_told told.Unavailable new step is_given = absurd (is_given refl)

  both_done : (v u : World) (m n : ℕ) → SubstituteStep w job (told.Substituted m) v
      → SubstituteStep w job (told.Substituted n) u → (m ≡ n) × (v ≡ u)
  both_done v u m n (good, fresh, suits, (xs, are, count, is)) (fine, new, fits, (ys, too, many, end)) =
      let same : xs ≡ ys = one_substitutes w lawful.agrees (content_of job) xs ys are too in
      (count ∙ ap length same ∙ sym many, is ∙ ap (λ rs. union w (job_world job rs)) same ∙ sym end)

  pub same_job : (v u : World) (a b : Answer) → SubstituteStep w job a v → SubstituteStep w job b u → IsGiven a → IsGiven b
      → AreSame a b × (v ≡ u)
  same_job v u a b x y is_given other_given = by (job_told a v x is_given) (job_told b u y other_given)
    where
      by : JobTold a v → JobTold b u → AreSame a b × (v ≡ u)
      by (inl (m, e, p)) (inl (n, f, q)) =
          let both = both_done v u m n p q in (told_same a b _ _ e f both.0, both.1)
      by (inl (m, e, p)) (inr (inl (n, f, q))) = absurd (p.1 (content_of job) n q.1)
      by (inl (m, e, p)) (inr (inr (r, f, q))) =
          absurd (done_not_stopped w job p.3.0 r p.0 p.1 p.2 p.3.1 q.0)
      by (inr (inl (m, e, p))) (inl (n, f, q)) = absurd (q.1 (content_of job) m p.1)
      by (inr (inl (m, e, p))) (inr (inl (n, f, q))) =
          (told_same a b _ _ e f (lawful.one_job job.id (content_of job) (content_of job) m n p.1 q.1).1, p.2 ∙ sym q.2)
      by (inr (inl (m, e, p))) (inr (inr (r, f, q))) = absurd (known_not_stopped w job m r lawful p.0 p.1 q.0)
      by (inr (inr (r, e, p))) (inl (n, f, q)) =
          absurd (done_not_stopped w job q.3.0 r q.0 q.1 q.2 q.3.1 p.0)
      by (inr (inr (r, e, p))) (inr (inl (n, f, q))) = absurd (known_not_stopped w job n r lawful q.0 q.1 p.0)
      by (inr (inr (r, e, p))) (inr (inr (s, f, q))) =
          (told_same a b _ _ e f (one_stop w job r s p.0 q.0), p.1 ∙ sym q.1)
