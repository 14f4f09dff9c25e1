-- A job and a file, one after the other and the other way round.
use Rattle.std.specs.Prelude.{◌≡◌, ◌↔◌, ℕ, None, List, [], ◌∷◌}
use Rattle.std.proofs.Common.{sym, ap, ◌∙◌, subst, inl, inr, refl}
use Rattle.std.specs.declared.alloc.Global.{Global}
use Rattle.std.specs.declared.vec.Vec.{Vec}
use Rattle.mds_marks.specs.Reading.{ReadingValue}
use Rattle.mds_records.specs.declared.file.FileKind.{FileKind}
use Rattle.mds_statements.specs.Statements.{Statement}
use Rattle.mds_statements.specs.Statements.Statement.{HeaderOf, StreamOf, DetailsOf, DayOf, EventOf, PeriodOf}
use Rattle.mds_world.specs.declared.facts.Head.{Head}
use Rattle.mds_world.specs.declared.facts.Key.{Key}
use Rattle.mds_world.specs.Facts.{Fact, JobContent}
use Rattle.mds_world.specs.Facts.Fact.{HeadIs, VersionIs, HolidayIs, JobIs}
use Rattle.mds_world.specs.Lists.{Member}
use Rattle.mds_world.proofs.Members.{in_union, union_left}
use Rattle.mds_world.specs.Sets.{◌∈◌}
use Rattle.mds_world.specs.Stated.{facts_of, stated}
use Rattle.mds_world.specs.World.{World, union}
use Rattle.mds_world.proofs.Worlds.{either_order}
use Rattle.mds_jobs.specs.Jobs.{content_of}
use Rattle.mds_jobs.specs.declared.job.Job.{Job}
use Rattle.mds_keeper.specs.Merge.{IsRefusal, upto}
use Rattle.mds_keeper.specs.declared.refusal.Refusal.{Refusal}
use Rattle.mds_keeper.proofs.Taken.{from_versions}
use Rattle.mds_fill.specs.Fills.{AreSubstitutes}
use Rattle.mds_messages.specs.declared.request.Request.TheVariants as asked
use Rattle.mds_messages.specs.declared.answer.Answer.{Answer}
use Rattle.mds_messages.specs.declared.answer.Answer.TheVariants as told
use Rattle.mds_service.specs.Machine.{ImportStep, Run, fault_in, stated_in}
use Rattle.mds_service.specs.Substitution.{SubstituteStep, SuitsDay, job_world}
use Rattle.mds_laws.specs.Exchange.{LeavesAlone, MayLookAt}
use Rattle.mds_laws.proofs.Conflicts.{upto_within}
use Rattle.mds_laws.proofs.Lawful.{no_job}
use Rattle.mds_laws.proofs.Members as members
use Rattle.mds_laws.proofs.Members.{in_stated, same_key}
use Rattle.mds_laws.proofs.PutBeside.{AreElsewhere, agrees_less, agrees_more, breaks_less, breaks_more, same_added, same_known}
use Rattle.mds_laws.proofs.Seen.{AreAlike, back, job_refusal, new_job, substitutes, suits_day}

-- ---- what a file states of other days

day_of_version : (s : Statement) (key : Key) (reading : ReadingValue) → Member (VersionIs key reading) (facts_of s)
    → (head : Head) × Member (HeadIs head) (facts_of s) × (head.stream ≡ key.stream) × (head.day ≡ key.day)
day_of_version (HeaderOf header) key reading m = absurd m
day_of_version (StreamOf stream) key reading m = absurd m
day_of_version (DetailsOf details) key reading (inl e) = cc
day_of_version (DetailsOf details) key reading (inr m) = absurd m
day_of_version (DayOf day) key reading (inl e) = cc
day_of_version (DayOf day) key reading (inr m) =
    let v = from_versions day.stream day.date day.length day.update 1 day.readings _ m in
    let same = (same_key _ _ _ _ v.3).0 in
    (_, inl refl, sym (ap (λ (k : Key). k.stream) same), sym (ap (λ (k : Key). k.day) same))
day_of_version (EventOf event) key reading (inl e) = cc
day_of_version (EventOf event) key reading (inr m) = absurd m
day_of_version (PeriodOf period) key reading (inl e) = cc
day_of_version (PeriodOf period) key reading (inr m) = absurd m

no_holiday : (s : Statement) (day : ℕ) → Member (HolidayIs day) (facts_of s) → ⊥
no_holiday (HeaderOf header) day m = m
no_holiday (StreamOf stream) day m = m
no_holiday (DetailsOf details) day (inl e) = cc
no_holiday (DetailsOf details) day (inr m) = m
no_holiday (DayOf of_day) day (inl e) = cc
no_holiday (DayOf of_day) day (inr m) =
    let v = from_versions of_day.stream of_day.date of_day.length of_day.update 1 of_day.readings _ m in let e = v.3 in cc
no_holiday (EventOf event) day (inl e) = cc
no_holiday (EventOf event) day (inr m) = m
no_holiday (PeriodOf period) day (inl e) = cc
no_holiday (PeriodOf period) day (inr m) = m

module _ (w : World) (xs : List Statement) (job : Job) (alone : LeavesAlone w (stated xs) job) where
  no_version : (key : Key) (reading : ReadingValue) → VersionIs key reading ∈ stated xs → key.stream ≡ job.stream
      → MayLookAt w (content_of job) key.day → ⊥
  no_version key reading h e l =
      let s = in_stated xs (VersionIs key reading) h in
      let d = day_of_version s.0 key reading s.2 in
      alone d.0 (members.stated_in xs (HeadIs d.0) s.0 s.1 d.1) (d.2 ∙ e)
      (subst (MayLookAt w (content_of job)) (sym d.3) l)

  kept : (f : Fact) → (f ∈ stated xs → ⊥) → (f ∈ w) ↔ (f ∈ union w (stated xs))
  kept f none = (
    union_left w (stated xs) f,
    (λ h. elim (in_union w (stated xs) f h) [ inl a ↦ a | inr b ↦ absurd (none b) ]),
  )

  alike : AreAlike w (union w (stated xs)) (content_of job)
  alike = record {
    heads = λ head e l. kept (HeadIs head) (λ h. alone head h e l);
    versions = λ key reading e l. kept (VersionIs key reading) (λ h. no_version key reading h e l);
    holidays = λ day. kept (HolidayIs day) (λ h. let s = in_stated xs (HolidayIs day) h in no_holiday s.0 day s.2);
    jobs = λ id content n.
        kept (JobIs id content n) (λ h. let s = in_stated xs (JobIs id content n) h in no_job s.0 id content n s.2);
  }

  part_elsewhere : (part : World) → ((f : Fact) → f ∈ part → f ∈ stated xs) → AreElsewhere job part
  part_elsewhere part within = record {
    heads = λ head h s d. alone head (within (HeadIs head) h) s (inl d);
    versions = λ key reading h s d. no_version key reading (within (VersionIs key reading) h) s (inl d);
  }

alike_itself : (w : World) (job : JobContent) → AreAlike w w job
alike_itself w job = record {
  heads = λ head e l. ((λ h. h), (λ h. h));
  versions = λ key reading e l. ((λ h. h), (λ h. h));
  holidays = λ day. ((λ h. h), (λ h. h));
  jobs = λ id content n. ((λ h. h), (λ h. h));
}

module _ (w : World) (kind : FileKind) (bytes : Vec ℕ Global) (job : Job)
    (alone : fault_in kind bytes.items ≡ None → LeavesAlone w (stated (stated_in kind bytes.items)) job) where
  abbrev xs : List Statement
  xs = stated_in kind bytes.items

  -- the World after the file is to the job as that before
  file_alike : (answer : Answer) (m : World) → ImportStep w kind bytes.items answer m → AreAlike w m (content_of job)
  file_alike (told.Imported added known) m step =
      subst (λ v. AreAlike w v (content_of job)) (sym step.2) (alike w xs job (alone step.0))
  file_alike (told.File fault) m step = subst (λ v. AreAlike w v (content_of job)) (sym step.1) (alike_itself w (content_of job))
  file_alike (told.Refused refusal) m step =
      subst (λ v. AreAlike w v (content_of job)) (sym step.2) (alike_itself w (content_of job))
  file_alike told.Unavailable m step = subst (λ v. AreAlike w v (content_of job)) (sym step) (alike_itself w (content_of job))
  file_alike (told.Substituted count) m step = absurd step
  file_alike (told.Known count) m step = absurd step
  file_alike (told.HolidaysAdded added known) m step = absurd step
  file_alike (told.Day answer) m step = absurd step
  file_alike (told.Versions answer) m step = absurd step
  file_alike (told.Period answer) m step = absurd step
  file_alike (told.Streams answers) m step = absurd step
  file_alike (told.Gaps text) m step = absurd step
  file_alike (told.Finals text) m step = absurd step
  file_alike (told.Missing text) m step = absurd step
  file_alike (told.Readings text) m step = absurd step
  file_alike (told.Exported text) m step = absurd step

  module _ (readings : List ReadingValue) (are : AreSubstitutes w (content_of job) readings) (suits : SuitsDay w job) where
    abbrev put : World
    put = job_world job readings

    upto_elsewhere : fault_in kind bytes.items ≡ None → (line : ℕ) → AreElsewhere job (upto line xs)
    upto_elsewhere well line = part_elsewhere w xs job (alone well) (upto line xs) (upto_within line xs)

    all_elsewhere : fault_in kind bytes.items ≡ None → AreElsewhere job (stated xs)
    all_elsewhere well = part_elsewhere w xs job (alone well) (stated xs) (λ f h. h)

    refused_over : fault_in kind bytes.items ≡ None → (refusal : Refusal) → IsRefusal w (λ line. upto line xs) refusal
        → IsRefusal (union w put) (λ line. upto line xs) refusal
    refused_over well refusal is = record {
      breaks = breaks_more w job readings are suits (upto refusal.line xs) (upto_elsewhere well refusal.line)
          refusal.code refusal.interval is.breaks;
      before = λ line lt.
          agrees_more w job readings are suits (upto line xs) (upto_elsewhere well line) (is.before line lt);
      no_field = is.no_field;
    }

    refused_back : fault_in kind bytes.items ≡ None → (refusal : Refusal)
        → IsRefusal (union w put) (λ line. upto line xs) refusal → IsRefusal w (λ line. upto line xs) refusal
    refused_back well refusal is = record {
      breaks = breaks_less w job readings are suits (upto refusal.line xs) (upto_elsewhere well refusal.line)
          refusal.code refusal.interval is.breaks;
      before = λ line lt.
          agrees_less w job readings are suits (upto line xs) (upto_elsewhere well line) (is.before line lt);
      no_field = is.no_field;
    }

    -- the file has the same answer over what the job puts
    file_over : (answer : Answer) (m : World) → ImportStep w kind bytes.items answer m
        → ImportStep (union w put) kind bytes.items answer (union m put)
    file_over (told.Imported added known) m (well, agrees, is, a, k) = (
      well,
      agrees_more w job readings are suits (stated xs) (all_elsewhere well) agrees,
      ap (λ v. union v put) is ∙ either_order w (stated xs) put,
      a ∙ sym (same_added w job readings are suits (stated xs) (all_elsewhere well)),
      k ∙ sym (same_known w job readings are suits (stated xs) (all_elsewhere well)),
    )
    file_over (told.File fault) m step = (step.0, ap (λ v. union v put) step.1)
    file_over (told.Refused refusal) m (well, is, same) =
        (well, refused_over well refusal is, ap (λ v. union v put) same)
    file_over told.Unavailable m step = ap (λ v. union v put) step
    file_over (told.Substituted count) m step = absurd step
    file_over (told.Known count) m step = absurd step
    file_over (told.HolidaysAdded added known) m step = absurd step
    file_over (told.Day answer) m step = absurd step
    file_over (told.Versions answer) m step = absurd step
    file_over (told.Period answer) m step = absurd step
    file_over (told.Streams answers) m step = absurd step
    file_over (told.Gaps text) m step = absurd step
    file_over (told.Finals text) m step = absurd step
    file_over (told.Missing text) m step = absurd step
    file_over (told.Readings text) m step = absurd step
    file_over (told.Exported text) m step = absurd step

    -- and under it
    file_back : (answer : Answer) (v : World) → ImportStep (union w put) kind bytes.items answer v
        → (m : World) × ImportStep w kind bytes.items answer m × (v ≡ union m put)
    file_back (told.Imported added known) v (well, agrees, is, a, k) = (
      union w (stated xs),
      (
        well,
        agrees_less w job readings are suits (stated xs) (all_elsewhere well) agrees,
        refl,
        a ∙ same_added w job readings are suits (stated xs) (all_elsewhere well),
        k ∙ same_known w job readings are suits (stated xs) (all_elsewhere well),
      ),
      is ∙ either_order w put (stated xs),
    )
    file_back (told.File fault) v step = (w, (step.0, refl), step.1)
    file_back (told.Refused refusal) v (well, is, same) = (w, (well, refused_back well refusal is, refl), same)
    file_back told.Unavailable v step = (w, refl, step)
    file_back (told.Substituted count) v step = absurd step
    file_back (told.Known count) v step = absurd step
    file_back (told.HolidaysAdded added known) v step = absurd step
    file_back (told.Day answer) v step = absurd step
    file_back (told.Versions answer) v step = absurd step
    file_back (told.Period answer) v step = absurd step
    file_back (told.Streams answers) v step = absurd step
    file_back (told.Gaps text) v step = absurd step
    file_back (told.Finals text) v step = absurd step
    file_back (told.Missing text) v step = absurd step
    file_back (told.Readings text) v step = absurd step
    file_back (told.Exported text) v step = absurd step

-- ---- a job over a World that is the same to it

-- no job was done
abbrev NothingDone : Answer → Type 0
NothingDone (told.Substituted count) = ⊥
NothingDone answer = Unit {0}

job_idle : (w m : World) (job : Job) → AreAlike w m (content_of job) → (answer : Answer) (new : World) → NothingDone answer
    → SubstituteStep w job answer new → (new ≡ w) × SubstituteStep m job answer m
job_idle w m job s (told.Substituted count) new none step = absurd none
job_idle w m job s (told.Known count) new none (good, held, same) =
    (same, (good, (s.jobs job.id (content_of job) count).0 held, refl))
job_idle w m job s (told.Refused refusal) new none (is, same) = (same, (job_refusal w m job s refusal is, refl))
job_idle w m job s told.Unavailable new none (good, same) = (same, (good, refl))
job_idle w m job s (told.Imported added known) new none step = absurd step
job_idle w m job s (told.HolidaysAdded added known) new none step = absurd step
job_idle w m job s (told.Day answer) new none step = absurd step
job_idle w m job s (told.Versions answer) new none step = absurd step
job_idle w m job s (told.Period answer) new none step = absurd step
job_idle w m job s (told.Streams answers) new none step = absurd step
job_idle w m job s (told.Gaps text) new none step = absurd step
job_idle w m job s (told.Finals text) new none step = absurd step
job_idle w m job s (told.Missing text) new none step = absurd step
job_idle w m job s (told.Readings text) new none step = absurd step
job_idle w m job s (told.Exported text) new none step = absurd step
job_idle w m job s (told.File fault) new none step = absurd step

-- ---- both, in either order

module _ (old new : World) (kind : FileKind) (bytes : Vec ℕ Global) (job : Job) (of_file : Answer)
    (alone : fault_in kind bytes.items ≡ None → LeavesAlone old (stated (stated_in kind bytes.items)) job) where
  abbrev FileFirst : Answer → Type 0
  FileFirst of_job = Run old (asked.Import kind bytes ∷ asked.Substitute job ∷ []) (of_file ∷ of_job ∷ []) new

  abbrev JobFirst : Answer → Type 0
  JobFirst of_job = Run old (asked.Substitute job ∷ asked.Import kind bytes ∷ []) (of_job ∷ of_file ∷ []) new

  idle_either : (of_job : Answer) → NothingDone of_job → FileFirst of_job ↔ JobFirst of_job
  idle_either of_job none = (
    (λ x.
        let s = back old x.0 (content_of job) (file_alike old kind bytes job alone of_file x.0 x.1) in
        let idle = job_idle x.0 old job s of_job x.2.0 none x.2.1 in
        (old, idle.1, (x.0, x.1, x.2.2 ∙ idle.0))),
    (λ x.
        let same : x.0 ≡ old = (job_idle old old job (alike_itself old (content_of job)) of_job x.0 none x.1).0 in
        let here : ImportStep old kind bytes.items of_file x.2.0 =
        subst (λ w. ImportStep w kind bytes.items of_file x.2.0) same x.2.1 in
        let s = file_alike old kind bytes job alone of_file x.2.0 here in
        let idle = job_idle old x.2.0 job s of_job x.0 none x.1 in
        (x.2.0, here, (x.2.0, idle.1, x.2.2))),
  )

  done_job_first : (count : ℕ) → FileFirst (told.Substituted count) → JobFirst (told.Substituted count)
  done_job_first count (m, by_file, (v, (good, fresh, suits, (readings, are, counted, is)), end)) =
      let s = back old m (content_of job) (file_alike old kind bytes job alone of_file m by_file) in
      let are_there = substitutes m old (content_of job) s readings are in
      let suits_there = suits_day m old job s suits in (
        union old (job_world job readings),
        (good, new_job m old job s fresh, suits_there, (readings, are_there, counted, refl)),
        (
          union m (job_world job readings),
          file_over old kind bytes job alone readings are_there suits_there of_file m by_file,
          end ∙ is,
        ),
      )

  done_file_first : (count : ℕ) → JobFirst (told.Substituted count) → FileFirst (told.Substituted count)
  done_file_first count (m, (good, fresh, suits, (readings, are, counted, is)), (v, by_file, end)) =
      let here = file_back old kind bytes job alone readings are suits of_file v
      (subst (λ w. ImportStep w kind bytes.items of_file v) is by_file) in
      let s = file_alike old kind bytes job alone of_file here.0 here.1 in (
        here.0,
        here.1,
        (
          v,
          (
            good,
            new_job old here.0 job s fresh,
            suits_day old here.0 job s suits,
            (readings, substitutes old here.0 (content_of job) s readings are, counted, here.2),
          ),
          end,
        ),
      )

  either : (of_job : Answer) → FileFirst of_job ↔ JobFirst of_job
  either (told.Substituted count) = (done_job_first count, done_file_first count)
  either (told.Known count) = idle_either (told.Known count) tt
  either (told.Refused refusal) = idle_either (told.Refused refusal) tt
  either told.Unavailable = idle_either told.Unavailable tt
  either (told.Imported added known) = idle_either (told.Imported added known) tt
  either (told.HolidaysAdded added known) = idle_either (told.HolidaysAdded added known) tt
  either (told.Day answer) = idle_either (told.Day answer) tt
  either (told.Versions answer) = idle_either (told.Versions answer) tt
  either (told.Period answer) = idle_either (told.Period answer) tt
  either (told.Streams answers) = idle_either (told.Streams answers) tt
  either (told.Gaps text) = idle_either (told.Gaps text) tt
  either (told.Finals text) = idle_either (told.Finals text) tt
  either (told.Missing text) = idle_either (told.Missing text) tt
  either (told.Readings text) = idle_either (told.Readings text) tt
  either (told.Exported text) = idle_either (told.Exported text) tt
  either (told.File fault) = idle_either (told.File fault) tt

pub may_change_places : (old new : World) (kind : FileKind) (bytes : Vec ℕ Global) (job : Job) (of_file of_job : Answer)
    → (fault_in kind bytes.items ≡ None → LeavesAlone old (stated (stated_in kind bytes.items)) job)
    → (Run old (asked.Import kind bytes ∷ asked.Substitute job ∷ []) (of_file ∷ of_job ∷ []) new)
    ↔ (Run old (asked.Substitute job ∷ asked.Import kind bytes ∷ []) (of_job ∷ of_file ∷ []) new)
may_change_places old new kind bytes job of_file of_job alone = either old new kind bytes job of_file alone of_job
