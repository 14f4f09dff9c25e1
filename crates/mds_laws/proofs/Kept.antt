-- What one request adds, and what a run does.
use Rattle.std.specs.Prelude.{◌≡◌, ℕ, ◌+◌, ◌<◌, true, List, [], ◌∷◌, length, map, slice_get, Some}
use Rattle.std.proofs.Common.{sym, ap, ◌∙◌, subst, inl, inr, arith, refl}
use Rattle.std.specs.FinSet as set
use Rattle.std.specs.declared.vec.Vec.{Vec}
use Rattle.std.specs.declared.alloc.Global.{Global}
use Rattle.std.specs.List.{sum_by}
use Rattle.std.proofs.lemmas.List.Sums.{sum_by-cons}
use Rattle.mds_marks.specs.Reading.{ReadingValue}
use Rattle.mds_records.specs.declared.file.FileKind.{FileKind}
use Rattle.mds_statements.specs.Delivered.{header_value}
use Rattle.mds_world.specs.declared.facts.Key.{Key}
use Rattle.mds_world.specs.Counts.{added_by, countable, counted, is_counted}
use Rattle.mds_world.specs.FactOrder.{exact, fact_cmp, total}
use Rattle.mds_world.specs.Facts.{Fact}
use Rattle.mds_world.specs.Facts.Fact.{HeadIs, VersionIs, PeriodIs, HolidayIs, JobIs}
use Rattle.mds_world.proofs.Forms.{one_under}
use Rattle.mds_world.proofs.Lists.{in_map}
use Rattle.mds_world.specs.Lists.{Member}
use Rattle.mds_world.proofs.Members.{in_list, in_union, len_list, list_in, same_by, union_left}
use Rattle.mds_world.proofs.Sets.{decided, difference_in, difference_none, in_difference, in_retain, not_in_empty, retain_in}
use Rattle.mds_world.specs.Sets.{◌∈◌}
use Rattle.mds_world.specs.Stated.{stated, versions_from}
use Rattle.mds_world.specs.World.{IsLawful, World, union}
use Rattle.mds_world.proofs.Worlds.{counts}
use Rattle.mds_jobs.specs.Jobs.{content_of}
use Rattle.mds_jobs.specs.declared.job.Job.{Job}
use Rattle.mds_keeper.proofs.Taken.{from_versions}
use Rattle.mds_fill.specs.Fills.{AreSubstitutes, IsTarget, target_count}
use Rattle.mds_messages.specs.declared.request.Request.{Request}
use Rattle.mds_messages.specs.declared.request.Request.TheVariants as asked
use Rattle.mds_messages.specs.declared.answer.Answer.{Answer}
use Rattle.mds_messages.specs.declared.answer.Answer.TheVariants as told
use Rattle.mds_service.specs.Holidays.{HolidaysStep, holidays_world}
use Rattle.mds_service.specs.Machine.{ImportStep, Run, Step, TellsDay, TellsPeriods, TellsStreams, TellsVersions, stated_in}
use Rattle.mds_service.specs.RangeAnswers.{TellsExport, TellsFinals, TellsGaps, TellsMissing, TellsReadings}
use Rattle.mds_service.specs.Substitution.{SubstituteStep, SuitsDay, head_of, job_world}
use Rattle.mds_service.proofs.ListedWorld.{lawful_with_holidays}
use Rattle.mds_service.proofs.Substituted.{lawful_with_job}
use Rattle.mds_laws.specs.Kept.{AreUnaltered, CameBy, ComesBy, IsOfJob, came_in}
use Rattle.mds_laws.proofs.Lawful.{lawful_with_file}
use Rattle.mds_laws.proofs.Members.{none_in, versions_apart, versions_count, within}

-- One request makes the World its union with something, of which as much counts as the answer tells.
pub record Grows (old : World) (request : Request) (answer : Answer) (new : World) : Type 0 where
  pub more : World
  pub is : new ≡ union old more
  pub count : added_by old more ≡ came_in answer
  pub by : (f : Fact) → is_counted f ≡ true → f ∈ more → ComesBy old request answer f
  pub stays : IsLawful old → IsLawful (union old more)

-- what doesn't count adds nothing
none_added : (old more : World) → ((f : Fact) → is_counted f ≡ true → f ∈ more → ⊥) → added_by old more ≡ 0
none_added old more none =
    let within : (f : Fact) → f ∈ countable more → f ∈ countable old = λ f h.
    let r = in_retain total exact more is_counted f h in absurd (none f r.1 r.0) in
    ap set.len (difference_none total exact (countable more) (countable old) within) ∙ set.len-empty fact_cmp

-- a request that changes nothing
idle : (old : World) (request : Request) (answer : Answer) (new : World) → came_in answer ≡ 0 → new ≡ old
    → Grows old request answer new
idle old request answer new zero same =
    let none : (f : Fact) → is_counted f ≡ true → f ∈ set.empty {R = fact_cmp} → ⊥ =
    λ f c h. not_in_empty total exact f h in record {
      more = set.empty;
      is = same ∙ sym (none_in old);
      count = none_added old set.empty none ∙ sym zero;
      by = λ f c h. absurd (none f c h);
      stays = λ lawful. subst IsLawful (sym (none_in old)) lawful;
    }

-- ---- a file

grows_file : (old : World) (kind : FileKind) (bytes : Vec ℕ Global) (added known : ℕ) (new : World)
    → ImportStep old kind bytes.items (told.Imported added known) new
    → Grows old (asked.Import kind bytes) (told.Imported added known) new
grows_file old kind bytes added known new step = record {
  more = stated (stated_in kind bytes.items);
  is = step.2;
  count = sym step.3;
  by = λ f c h. h;
  stays = λ lawful. lawful_with_file old kind bytes.items step.0 lawful step.1;
}

-- ---- holidays

holiday_counts : (f : Fact) (day : ℕ) → f ≡ HolidayIs day → is_counted f ≡ true → ⊥
holiday_counts f day e c = let n : is_counted (HolidayIs day) ≡ true = ap is_counted (sym e) ∙ c in cc

holiday_member : (days : List ℕ) (f : Fact) → is_counted f ≡ true → f ∈ holidays_world days → ⊥
holiday_member days f c h =
    let r = in_map HolidayIs days f (in_list (map HolidayIs days) f h) in holiday_counts f r.0 r.2 c

grows_holidays : (old : World) (days : Vec ℕ Global) (added known : ℕ) (new : World)
    → HolidaysStep old days.items (told.HolidaysAdded added known) new
    → Grows old (asked.Holidays days) (told.HolidaysAdded added known) new
grows_holidays old days added known new step = record {
  more = holidays_world days.items;
  is = step.0;
  count = none_added old (holidays_world days.items) (holiday_member days.items);
  by = λ f c h. absurd (holiday_member days.items f c h);
  stays = lawful_with_holidays old days.items;
}

-- ---- a job

-- of what a job puts only its versions count
pub version_of_job : (job : Job) (readings : List ReadingValue) (f : Fact) → is_counted f ≡ true → f ∈ job_world job readings
    → Member f (versions_from job.stream job.day job.length job.update job.first readings)
version_of_job job readings f c h =
    elim (in_list (HeadIs (head_of job) ∷ JobIs job.id (content_of job) (length readings)
    ∷ versions_from job.stream job.day job.length job.update job.first readings) f h) [
      | inl e ↦ let n : is_counted (HeadIs (head_of job)) ≡ true = ap is_counted (sym e) ∙ c in cc
      | inr m ↦ elim m [
        | inl e ↦
            let n : is_counted (JobIs job.id (content_of job) (length readings)) ≡ true = ap is_counted (sym e) ∙ c in cc
        | inr v ↦ v
      ]
    ]

counts_version : (key : Key) (reading : ReadingValue) (f : Fact) → f ≡ VersionIs key reading → is_counted f ≡ true
counts_version key reading f e = ap is_counted e

version_there : (job : Job) (readings : List ReadingValue) (f : Fact)
    → Member f (versions_from job.stream job.day job.length job.update job.first readings)
    → (f ∈ job_world job readings) × (is_counted f ≡ true)
version_there job readings f m =
    let v = from_versions job.stream job.day job.length job.update job.first readings f m in (
      list_in (HeadIs (head_of job) ∷ JobIs job.id (content_of job) (length readings)
          ∷ versions_from job.stream job.day job.length job.update job.first readings) f (inr (inr m)),
      counts_version _ v.1 f v.3,
    )

module _ (old : World) (job : Job) (readings : List ReadingValue) (are : AreSubstitutes old (content_of job) readings) where
  pub target : (k : ℕ) (r : ReadingValue) → slice_get readings k ≡ Some r → IsTarget (content_of job) (job.first + k)
  target k r e =
      let n : k < length readings = within readings k r e in
      let below : k < target_count (content_of job) = subst (λ m. k < m) are.count n in
      (omega arith, omega (arith, below))

  -- M6: no version of a target is of the job's update
  fresh : SuitsDay old job → (f : Fact)
      → Member f (versions_from job.stream job.day job.length job.update job.first readings) → f ∈ old → ⊥
  fresh suits f m h =
      let v = from_versions job.stream job.day job.length job.update job.first readings f m in
      are.free.fresh (job.first + v.0) (
        target v.0 v.1 v.2,
        record {
          minutes = job.length;
          of_day = suits.current;
          update = job.update;
          reading = v.1;
          held = subst (λ g. g ∈ old) v.3 h;
          late = omega arith;
        },
      )

  job_count : SuitsDay old job → added_by old (job_world job readings) ≡ length readings
  job_count suits =
      let versions = versions_from job.stream job.day job.length job.update job.first readings in
      let same : set.difference (countable (job_world job readings)) (countable old) ≡ set.from_list versions = same_by _ _
      (λ f h.
      let d = in_difference total exact (countable (job_world job readings)) (countable old) f h in
      let r = in_retain total exact (job_world job readings) is_counted f d.0 in
      list_in versions f (version_of_job job readings f r.1 r.0))
      (λ f h.
      let m = in_list versions f h in
      let t = version_there job readings f m in
      difference_in total exact (countable (job_world job readings)) (countable old) f
      (retain_in total exact (job_world job readings) is_counted f t.0 t.1)
      (λ k. fresh suits f m (in_retain total exact old is_counted f k).0)) in
      ap set.len same ∙ len_list versions (versions_apart job.stream job.day job.length job.update job.first readings)
      ∙ versions_count job.stream job.day job.length job.update job.first readings

  job_by : (f : Fact) → is_counted f ≡ true → f ∈ job_world job readings → IsOfJob old job f
  job_by f c h =
      let v = from_versions job.stream job.day job.length job.update job.first readings f (version_of_job job readings f c h) in
      subst (IsOfJob old job) (sym v.3) (refl, refl, refl, refl, target v.0 v.1 v.2, are.each v.0 v.1 v.2)

grows_job : (old : World) (job : Job) (count : ℕ) (new : World) → SubstituteStep old job (told.Substituted count) new
    → Grows old (asked.Substitute job) (told.Substituted count) new
grows_job old job count new step = record {
  more = job_world job step.3.0;
  is = step.3.3;
  count = job_count old job step.3.0 step.3.1 step.2 ∙ sym step.3.2;
  by = job_by old job step.3.0 step.3.1;
  stays = lawful_with_job old job step.0 step.1 step.2 step.3.0 step.3.1;
}

-- ---- any request

-- an answer that is none of those that something came in by
quiet : (Tells : Answer → Type 0) (answer : Answer)
    → ((added known : ℕ) → Tells (told.Imported added known) → ⊥) → ((count : ℕ) → Tells (told.Substituted count) → ⊥)
    → Tells answer → came_in answer ≡ 0
quiet Tells (told.Imported added known) file job tells = absurd (file added known tells)
quiet Tells (told.Substituted count) file job tells = absurd (job count tells)
quiet Tells (told.Known count) file job tells = refl
quiet Tells (told.HolidaysAdded added known) file job tells = refl
quiet Tells (told.Day answer) file job tells = refl
quiet Tells (told.Versions answer) file job tells = refl
quiet Tells (told.Period answer) file job tells = refl
quiet Tells (told.Streams answers) file job tells = refl
quiet Tells (told.Gaps text) file job tells = refl
quiet Tells (told.Finals text) file job tells = refl
quiet Tells (told.Missing text) file job tells = refl
quiet Tells (told.Readings text) file job tells = refl
quiet Tells (told.Exported text) file job tells = refl
quiet Tells (told.File fault) file job tells = refl
quiet Tells (told.Refused refusal) file job tells = refl
quiet Tells told.Unavailable file job tells = refl

pub grows : (old : World) (request : Request) (answer : Answer) (new : World) → Step old request answer new
    → Grows old request answer new
grows old (asked.Import kind bytes) (told.Imported added known) new step = grows_file old kind bytes added known new step
grows old (asked.Import kind bytes) (told.File fault) new step = idle _ _ _ _ refl step.1
grows old (asked.Import kind bytes) (told.Refused refusal) new step = idle _ _ _ _ refl step.2
grows old (asked.Import kind bytes) told.Unavailable new step = idle _ _ _ _ refl step
grows old (asked.Import kind bytes) (told.Substituted count) new step = absurd step
grows old (asked.Import kind bytes) (told.Known count) new step = absurd step
grows old (asked.Import kind bytes) (told.HolidaysAdded added known) new step = absurd step
grows old (asked.Import kind bytes) (told.Day answer) new step = absurd step
grows old (asked.Import kind bytes) (told.Versions answer) new step = absurd step
grows old (asked.Import kind bytes) (told.Period answer) new step = absurd step
grows old (asked.Import kind bytes) (told.Streams answers) new step = absurd step
grows old (asked.Import kind bytes) (told.Gaps text) new step = absurd step
grows old (asked.Import kind bytes) (told.Finals text) new step = absurd step
grows old (asked.Import kind bytes) (told.Missing text) new step = absurd step
grows old (asked.Import kind bytes) (told.Readings text) new step = absurd step
grows old (asked.Import kind bytes) (told.Exported text) new step = absurd step
grows old (asked.Substitute job) (told.Substituted count) new step = grows_job old job count new step
grows old (asked.Substitute job) (told.Known count) new step = idle _ _ _ _ refl step.2
grows old (asked.Substitute job) (told.Refused refusal) new step = idle _ _ _ _ refl step.1
grows old (asked.Substitute job) told.Unavailable new step = idle _ _ _ _ refl step.1
grows old (asked.Substitute job) (told.Imported added known) new step = absurd step
grows old (asked.Substitute job) (told.HolidaysAdded added known) new step = absurd step
grows old (asked.Substitute job) (told.Day answer) new step = absurd step
grows old (asked.Substitute job) (told.Versions answer) new step = absurd step
grows old (asked.Substitute job) (told.Period answer) new step = absurd step
grows old (asked.Substitute job) (told.Streams answers) new step = absurd step
grows old (asked.Substitute job) (told.Gaps text) new step = absurd step
grows old (asked.Substitute job) (told.Finals text) new step = absurd step
grows old (asked.Substitute job) (told.Missing text) new step = absurd step
grows old (asked.Substitute job) (told.Readings text) new step = absurd step
grows old (asked.Substitute job) (told.Exported text) new step = absurd step
grows old (asked.Substitute job) (told.File fault) new step = absurd step
grows old (asked.Holidays days) (told.HolidaysAdded added known) new step = grows_holidays old days added known new step
grows old (asked.Holidays days) told.Unavailable new step = idle _ _ _ _ refl step
grows old (asked.Holidays days) (told.Imported added known) new step = absurd step
grows old (asked.Holidays days) (told.Substituted count) new step = absurd step
grows old (asked.Holidays days) (told.Known count) new step = absurd step
grows old (asked.Holidays days) (told.Day answer) new step = absurd step
grows old (asked.Holidays days) (told.Versions answer) new step = absurd step
grows old (asked.Holidays days) (told.Period answer) new step = absurd step
grows old (asked.Holidays days) (told.Streams answers) new step = absurd step
grows old (asked.Holidays days) (told.Gaps text) new step = absurd step
grows old (asked.Holidays days) (told.Finals text) new step = absurd step
grows old (asked.Holidays days) (told.Missing text) new step = absurd step
grows old (asked.Holidays days) (told.Readings text) new step = absurd step
grows old (asked.Holidays days) (told.Exported text) new step = absurd step
grows old (asked.Holidays days) (told.File fault) new step = absurd step
grows old (asked.Holidays days) (told.Refused refusal) new step = absurd step
grows old (asked.Day stream day) answer new step =
    idle _ _ _ _ (quiet (TellsDay old stream day) answer (λ _ _ h. h) (λ _ h. h) step.0) step.1
grows old (asked.Versions stream day interval) answer new step =
    idle _ _ _ _ (quiet (TellsVersions old stream day interval) answer (λ _ _ h. h) (λ _ h. h) step.0) step.1
grows old (asked.Period stream) answer new step =
    idle _ _ _ _ (quiet (TellsPeriods old stream) answer (λ _ _ h. h) (λ _ h. h) step.0) step.1
grows old asked.Streams answer new step =
    idle _ _ _ _ (quiet (TellsStreams old) answer (λ _ _ h. h) (λ _ h. h) step.0) step.1
grows old (asked.Gaps stream first last) answer new step =
    idle _ _ _ _ (quiet (TellsGaps old stream first last) answer (λ _ _ h. h) (λ _ h. h) step.0) step.1
grows old (asked.Finals stream first last) answer new step =
    idle _ _ _ _ (quiet (TellsFinals old stream first last) answer (λ _ _ h. h) (λ _ h. h) step.0) step.1
grows old (asked.Missing first last since) answer new step =
    idle _ _ _ _ (quiet (TellsMissing old first last since) answer (λ _ _ h. h) (λ _ h. h) step.0) step.1
grows old (asked.Readings stream first last) answer new step =
    idle _ _ _ _ (quiet (TellsReadings old stream first last) answer (λ _ _ h. h) (λ _ h. h) step.0) step.1
grows old (asked.Export nmi suffixes first last header) answer new step =
    idle _ _ _ _ (quiet (TellsExport old nmi suffixes.items first last (header_value header)) answer (λ _ _ h. h) (λ _ h. h) step.0) step.1

-- ---- a run

step_keeps : (old : World) (request : Request) (answer : Answer) (new : World) → Step old request answer new
    → (f : Fact) → f ∈ old → f ∈ new
step_keeps old request answer new step f h =
    let g = grows old request answer new step in subst (λ w. f ∈ w) (sym g.is) (union_left old g.more f h)

pub step_counts : (old : World) (request : Request) (answer : Answer) (new : World) → Step old request answer new
    → counted new ≡ counted old + came_in answer
step_counts old request answer new step =
    let g = grows old request answer new step in
    ap counted g.is ∙ counts old g.more ∙ ap (λ n. counted old + n) g.count

pub nothing_is_missing : (old new : World) (requests : List Request) (answers : List Answer)
    → Run old requests answers new → (f : Fact) → f ∈ old → f ∈ new
nothing_is_missing old new [] [] run f h = subst (λ w. f ∈ w) (sym run) h
nothing_is_missing old new [] (answer ∷ answers) run f h = absurd run
nothing_is_missing old new (request ∷ requests) [] run f h = absurd run
nothing_is_missing old new (request ∷ requests) (answer ∷ answers) run f h =
    nothing_is_missing run.0 new requests answers run.2 f (step_keeps old request answer run.0 run.1 f h)

pub law_stays : (old new : World) (requests : List Request) (answers : List Answer)
    → Run old requests answers new → IsLawful old → IsLawful new
law_stays old new [] [] run lawful = subst IsLawful (sym run) lawful
law_stays old new [] (answer ∷ answers) run lawful = absurd run
law_stays old new (request ∷ requests) [] run lawful = absurd run
law_stays old new (request ∷ requests) (answer ∷ answers) run lawful =
    let g = grows old request answer run.0 run.1 in
    law_stays run.0 new requests answers run.2 (subst IsLawful (sym g.is) (g.stays lawful))

pub nothing_is_altered : (old new : World) (requests : List Request) (answers : List Answer)
    → Run old requests answers new → IsLawful old → AreUnaltered old new
nothing_is_altered old new requests answers run lawful =
    let keep = nothing_is_missing old new requests answers run in
    let stays = law_stays old new requests answers run lawful in
    let agrees = stays.agrees in record {
      versions = λ key a b h k. agrees.one_reading key a b (keep (VersionIs key a) h) k;
      heads = λ a b h k s d u. one_under new a b agrees (keep (HeadIs a) h) k s d u;
      units = λ a b h k s d. agrees.one_unit a b (keep (HeadIs a) h) k s d;
      periods = λ key a b h k. agrees.one_content key a b (keep (PeriodIs key a) h) k;
      jobs = λ id a b m n h k. stays.one_job id a b m n (keep (JobIs id a m) h) k;
    }

three : (a b c d e : ℕ) → a ≡ b + e → b ≡ c + d → a ≡ c + (d + e)
three a b c d e p q = omega (arith, p, q)

pub counts_of_run : (old new : World) (requests : List Request) (answers : List Answer)
    → Run old requests answers new → counted new ≡ counted old + sum_by came_in answers
counts_of_run old new [] [] run = let same : counted new ≡ counted old = ap counted run in omega (arith, same)
counts_of_run old new [] (answer ∷ answers) run = absurd run
counts_of_run old new (request ∷ requests) [] run = absurd run
counts_of_run old new (request ∷ requests) (answer ∷ answers) run =
    three _ _ _ _ _ (counts_of_run run.0 new requests answers run.2) (step_counts old request answer run.0 run.1)
    ∙ ap (λ n. counted old + n) (sym (sum_by-cons came_in answer answers))

-- a request of the rest of a run is one of the run
later_step : (old new : World) (request : Request) (answer : Answer) (mid : World) (requests : List Request)
    (answers : List Answer) (f : Fact) → Step old request answer mid → CameBy mid new requests answers f
    → CameBy old new (request ∷ requests) (answer ∷ answers) f
later_step old new request answer mid requests answers f step came = record {
  before = came.before;
  after = came.after;
  request = came.request;
  answer = came.answer;
  step = record {
    earlier = request ∷ came.step.earlier;
    later = came.step.later;
    told_earlier = answer ∷ came.step.told_earlier;
    told_later = came.step.told_later;
    asked = ap (λ l. request ∷ l) came.step.asked;
    answered = ap (λ l. answer ∷ l) came.step.answered;
    run_before = (mid, step, came.step.run_before);
    step = came.step.step;
    run_after = came.step.run_after;
  };
  absent = came.absent;
  present = came.present;
  by = came.by;
}

first_step : (old new : World) (request : Request) (answer : Answer) (mid : World) (requests : List Request)
    (answers : List Answer) (f : Fact) → is_counted f ≡ true → Step old request answer mid → Run mid requests answers new
    → (f ∈ old → ⊥) → f ∈ mid → CameBy old new (request ∷ requests) (answer ∷ answers) f
first_step old new request answer mid requests answers f c step run absent here =
    let g = grows old request answer mid step in record {
      before = old;
      after = mid;
      request = request;
      answer = answer;
      step = record {
        earlier = [];
        later = requests;
        told_earlier = [];
        told_later = answers;
        asked = refl;
        answered = refl;
        run_before = refl;
        step = step;
        run_after = run;
      };
      absent = absent;
      present = here;
      by = elim (in_union old g.more f (subst (λ w. f ∈ w) g.is here)) [
        | inl a ↦ absurd (absent a)
        | inr b ↦ g.by f c b
      ];
    }

pub each_came_by_one : (old new : World) (requests : List Request) (answers : List Answer) (f : Fact)
    → is_counted f ≡ true → Run old requests answers new → f ∈ new → (f ∈ old → ⊥)
    → CameBy old new requests answers f
each_came_by_one old new [] [] f c run here absent = absurd (absent (subst (λ w. f ∈ w) run here))
each_came_by_one old new [] (answer ∷ answers) f c run here absent = absurd run
each_came_by_one old new (request ∷ requests) [] f c run here absent = absurd run
each_came_by_one old new (request ∷ requests) (answer ∷ answers) f c run here absent =
    elim (decided (set.contains run.0 f)) [
      | inl now ↦ first_step old new request answer run.0 requests answers f c run.1 run.2 absent now
      | inr later ↦ later_step old new request answer run.0 requests answers f run.1
          (each_came_by_one run.0 new requests answers f c run.2 here later)
    ]
