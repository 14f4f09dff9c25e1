-- What a job does turns on what it may look at.
use Rattle.std.specs.Prelude.{◌≡◌, ◌↔◌, ◌+◌, ℕ, ℤ, List, Option, Some, None}
use Rattle.std.proofs.Common.{inl, inr, refl, subst, sym}
use Rattle.mds_quantity.specs.declared.unit.Unit.{Unit as MeasureUnit}
use Rattle.mds_marks.specs.Reading.{ReadingValue}
use Rattle.mds_world.specs.declared.facts.Head.{Head}
use Rattle.mds_world.specs.declared.facts.Key.{Key}
use Rattle.mds_world.specs.Current.{IsDayReading, IsFormOf, IsHeadOf}
use Rattle.mds_world.specs.Facts.{JobContent}
use Rattle.mds_world.specs.Facts.Fact.{HeadIs, VersionIs, HolidayIs, JobIs}
use Rattle.mds_world.specs.Sets.{◌∈◌}
use Rattle.mds_world.specs.World.{World}
use Rattle.mds_jobs.specs.Jobs.{content_of}
use Rattle.mds_jobs.specs.declared.job.Job.{Job}
use Rattle.mds_keeper.specs.declared.refusal.Refusal.{Refusal}
use Rattle.mds_keeper.specs.declared.refusal.RefusalCode.{RefusalCode}
use Rattle.mds_keeper.specs.declared.refusal.RefusalCode.TheVariants as code
use Rattle.mds_fill.specs.Fills.{AreSubstitutes, Finds, HasAll, IsFillFault, IsFilled, IsFree, IsLike, IsLikeValue, IsNearestLike, IsProtected, IsStale, IsTally, IsUsable, IsValueAfter, IsValueBefore, LacksAnchor, LacksLikeDay}
use Rattle.mds_service.specs.Substitution.{HasOtherLength, IsJobFault, IsJobRefusal, IsNewJob, SuitsDay}
use Rattle.mds_laws.specs.Exchange.{MayLookAt}

-- Of what a job may look at, both hold the same.
pub record AreAlike (w m : World) (job : JobContent) : Type 0 where
  pub heads : (head : Head) → head.stream ≡ job.stream → MayLookAt w job head.day → (HeadIs head ∈ w) ↔ (HeadIs head ∈ m)
  pub versions : (key : Key) (reading : ReadingValue) → key.stream ≡ job.stream → MayLookAt w job key.day
      → (VersionIs key reading ∈ w) ↔ (VersionIs key reading ∈ m)
  pub holidays : (day : ℕ) → (HolidayIs day ∈ w) ↔ (HolidayIs day ∈ m)
  pub jobs : (id : List ℕ) (content : JobContent) (n : ℕ) → (JobIs id content n ∈ w) ↔ (JobIs id content n ∈ m)

like : (w m : World) (job : JobContent) → ((day : ℕ) → (HolidayIs day ∈ w) ↔ (HolidayIs day ∈ m)) → (place day : ℕ)
    → IsLike w job place day → IsLike m job place day
like w m job same place day (lt, inl (h, sunday, a, b)) = (lt, inl ((same job.day).0 h, sunday, a, b))
like w m job same place day (lt, inr (n, c, e)) = (lt, inr ((λ x. n ((same job.day).1 x)), (λ x. c ((same day).1 x)), e))

looks : (w m : World) (job : JobContent) → ((day : ℕ) → (HolidayIs day ∈ w) ↔ (HolidayIs day ∈ m)) → (day : ℕ)
    → MayLookAt w job day → MayLookAt m job day
looks w m job same day (inl e) = inl e
looks w m job same day (inr (inl e)) = inr (inl e)
looks w m job same day (inr (inr (inl e))) = inr (inr (inl e))
looks w m job same day (inr (inr (inr (place, l)))) = inr (inr (inr (place, like w m job same place day l)))

pub back : (w m : World) (job : JobContent) → AreAlike w m job → AreAlike m w job
back w m job s =
    let other : (day : ℕ) → (HolidayIs day ∈ m) ↔ (HolidayIs day ∈ w) = λ day. ((s.holidays day).1, (s.holidays day).0) in
    record {
      heads = λ head e l. let p = s.heads head e (looks m w job other head.day l) in (p.1, p.0);
      versions = λ key r e l. let p = s.versions key r e (looks m w job other key.day l) in (p.1, p.0);
      holidays = other;
      jobs = λ id content n. ((s.jobs id content n).1, (s.jobs id content n).0);
    }

-- a day that a job may look at has the same heads in both
head_there : (w m : World) (job : JobContent) → AreAlike w m job → (day : ℕ) (head : Head) → MayLookAt w job day
    → IsHeadOf w job.stream day head → IsHeadOf m job.stream day head
head_there w m job s day head l (h, e, d) = ((s.heads head e (subst (MayLookAt w job) (sym d) l)).0 h, e, d)

head_back : (w m : World) (job : JobContent) → AreAlike w m job → (day : ℕ) (head : Head) → MayLookAt w job day
    → IsHeadOf m job.stream day head → IsHeadOf w job.stream day head
head_back w m job s day head l = head_there m w job (back w m job s) day head (looks w m job s.holidays day l)

-- so it has the same form
form_there : (w m : World) (job : JobContent) → AreAlike w m job → (day length : ℕ) (unit : MeasureUnit)
    → MayLookAt w job day → IsFormOf w job.stream day length unit → IsFormOf m job.stream day length unit
form_there w m job s day length unit l (head, form, size, measured) = (
  head,
  record {
    held = head_there w m job s day head l form.held;
    greatest = λ other h. form.greatest other (head_back w m job s day other l h);
  },
  size,
  measured,
)

shown : (w m : World) (job : JobContent) → AreAlike w m job → (day i : ℕ) (reading : ReadingValue) → MayLookAt w job day
    → IsDayReading w job.stream day i reading → IsDayReading m job.stream day i reading
shown w m job s day i reading l (inl (minutes, unit, form, inl (update, c))) = inl (
  minutes,
  unit,
  form_there w m job s day minutes unit l form,
  inl (
    update,
    record {
      held = (s.versions _ reading refl l).0 c.held;
      greatest = λ other of h. c.greatest other of ((s.versions _ of refl l).1 h);
    },
  ),
)
shown w m job s day i reading l (inl (minutes, unit, form, inr (none, bare))) = inl (
  minutes,
  unit,
  form_there w m job s day minutes unit l form,
  inr ((λ u q h. none u q ((s.versions _ q refl l).1 h)), bare),
)
shown w m job s day i reading l (inr (unknown, bare)) = inr (
  (λ k. let h = head_back w m job s day k.0 l (k.1, k.2, k.3) in unknown (k.0, h.0, h.1, h.2)),
  bare,
)

usable : (w m : World) (job : JobContent) → AreAlike w m job → (day i : ℕ) (value : ℤ) → MayLookAt w job day
    → IsUsable w job day i value → IsUsable m job day i value
usable w m job s day i value l u = record {
  known = form_there w m job s day job.length job.unit l u.known;
  reading = u.reading;
  shown = shown w m job s day i u.reading l u.shown;
  flag = u.flag;
  same = u.same;
}

protected : (w m : World) (job : JobContent) → AreAlike w m job → (i : ℕ) → IsProtected w job.stream job.day i
    → IsProtected m job.stream job.day i
protected w m job s i p = record {
  reading = p.reading;
  shown = shown w m job s job.day i p.reading (inl refl) p.shown;
  flag = p.flag;
}

stale : (w m : World) (job : JobContent) → AreAlike w m job → (i : ℕ) → IsStale w job.stream job.day i job.update
    → IsStale m job.stream job.day i job.update
stale w m job s i p = record {
  minutes = p.minutes;
  of_day = λ length unit form. p.of_day length unit (form_there m w job (back w m job s) job.day length unit (inl refl) form);
  update = p.update;
  reading = p.reading;
  held = (s.versions _ p.reading refl (inl refl)).0 p.held;
  late = p.late;
}

free : (w m : World) (job : JobContent) → AreAlike w m job → IsFree w job → IsFree m job
free w m job s f = record {
  unprotected = λ i p. f.unprotected i (p.0, protected m w job (back w m job s) i p.1);
  fresh = λ i p. f.fresh i (p.0, stale m w job (back w m job s) i p.1);
}

has_all : (w m : World) (job : JobContent) → AreAlike w m job → (day : ℕ) → MayLookAt w job day → HasAll w job day
    → HasAll m job day
has_all w m job s day l h = λ i t. let r = h i t in (r.0, usable w m job s day i r.0 l r.1)

nearest : (w m : World) (job : JobContent) → AreAlike w m job → (day : ℕ) → IsNearestLike w job day → IsNearestLike m job day
nearest w m job s day n = record {
  place = n.place;
  like = like w m job s.holidays n.place day n.like;
  all = has_all w m job s day (inr (inr (inr (n.place, n.like)))) n.all;
  nearest = λ lesser other lt l h.
      let t = back w m job s in
      n.nearest lesser other lt (like m w job t.holidays lesser other l)
      (has_all m w job t other (inr (inr (inr (lesser, l)))) h);
}

like_value : (w m : World) (job : JobContent) → AreAlike w m job → (place i : ℕ) (value : ℤ) → IsLikeValue w job place i value
    → IsLikeValue m job place i value
like_value w m job s place i value (day, l, u) =
    (day, like w m job s.holidays place day l, usable w m job s day i value (inr (inr (inr (place, l)))) u)

found : (w m : World) (job : JobContent) → AreAlike w m job → (place i : ℕ) (slot : Option ℤ)
    → Finds (IsLikeValue w job place i) slot → Finds (IsLikeValue m job place i) slot
found w m job s place i (Some value) f = like_value w m job s place i value f
found w m job s place i None f = λ value p. f value (like_value m w job (back w m job s) place i value p)

tally : (w m : World) (job : JobContent) → AreAlike w m job → (i : ℕ) (slots : List (Option ℤ)) → IsTally w job i slots
    → IsTally m job i slots
tally w m job s i slots t = record {
  four = t.four;
  each = λ place slot e. found w m job s place i slot (t.each place slot e);
}

before : (w m : World) (job : JobContent) → AreAlike w m job → (value : ℤ) → IsValueBefore w job value
    → IsValueBefore m job value
before w m job s value (inl (lt, u)) = inl (lt, usable w m job s job.day _ value (inl refl) u)
before w m job s value (inr (e, (day, f, u))) = inr (e, (day, f, usable w m job s day _ value (inr (inl f)) u))

after : (w m : World) (job : JobContent) → AreAlike w m job → (value : ℤ) → IsValueAfter w job value → IsValueAfter m job value
after w m job s value (inl (lt, u)) = inl (lt, usable w m job s job.day _ value (inl refl) u)
after w m job s value (inr (e, lt, u)) = inr (e, lt, usable w m job s (job.day + 1) 1 value (inr (inr (inl refl))) u)

filled : (w m : World) (job : JobContent) → AreAlike w m job → (i : ℕ) (value : ℤ) → IsFilled w job i value
    → IsFilled m job i value
filled w m job s i value (inl (e, (day, n, u))) =
    inl (e, (day, nearest w m job s day n, usable w m job s day i value (inr (inr (inr (n.place, n.like)))) u))
filled w m job s i value (inr (inl (e, (slots, t, one, r)))) = inr (inl (e, (slots, tally w m job s i slots t, one, r)))
filled w m job s i value (inr (inr (inl (e, (a, b, x, y, r))))) =
    inr (inr (inl (e, (a, b, before w m job s a x, after w m job s b y, r))))
filled w m job s i value (inr (inr (inr z))) = inr (inr (inr z))

pub substitutes : (w m : World) (job : JobContent) → AreAlike w m job → (readings : List ReadingValue)
    → AreSubstitutes w job readings → AreSubstitutes m job readings
substitutes w m job s readings are = record {
  free = free w m job s are.free;
  short = are.short;
  count = are.count;
  each = λ k reading e. let x = are.each k reading e in record {
    mark = x.mark;
    value = x.value;
    same = x.same;
    filled = filled w m job s (job.first + k) x.value x.filled;
  };
}

lacks_like : (w m : World) (job : JobContent) → AreAlike w m job → LacksLikeDay w job → LacksLikeDay m job
lacks_like w m job s (inl (e, h)) =
    let t = back w m job s in
    inl (
      e,
      (λ place day l all. h place day (like m w job t.holidays place day l)
          (has_all m w job t day (inr (inr (inr (place, l)))) all)),
    )
lacks_like w m job s (inr (e, (i, t, h))) =
    inr (e, (i, t, λ place value p. h place value (like_value m w job (back w m job s) place i value p)))

lacks_anchor : (w m : World) (job : JobContent) → AreAlike w m job → LacksAnchor w job → LacksAnchor m job
lacks_anchor w m job s (e, inl h) = (e, inl (λ value p. h value (before m w job (back w m job s) value p)))
lacks_anchor w m job s (e, inr h) = (e, inr (λ value p. h value (after m w job (back w m job s) value p)))

fill_fault : (w m : World) (job : JobContent) → AreAlike w m job → (broken : RefusalCode) (interval : ℕ)
    → IsFillFault w job broken interval → IsFillFault m job broken interval
fill_fault w m job s code.Protected interval ((t, p), least) =
    ((t, protected w m job s interval p), λ j q. least j (q.0, protected m w job (back w m job s) j q.1))
fill_fault w m job s code.StaleUpdate interval (none, ((t, p), least)) = (
  (λ i q. none i (q.0, protected m w job (back w m job s) i q.1)),
  ((t, stale w m job s interval p), λ j q. least j (q.0, stale m w job (back w m job s) j q.1)),
)
fill_fault w m job s code.TooLong interval (f, long, z) = (free w m job s f, long, z)
fill_fault w m job s code.NoLikeDay interval (f, lacks, z) = (free w m job s f, lacks_like w m job s lacks, z)
fill_fault w m job s code.NoAnchor interval (f, short, lacks, z) = (free w m job s f, short, lacks_anchor w m job s lacks, z)
fill_fault w m job s code.LengthConflict interval f = f
fill_fault w m job s code.UnitConflict interval f = f
fill_fault w m job s code.VersionConflict interval f = f
fill_fault w m job s code.JobReused interval f = f
fill_fault w m job s code.UnknownDay interval f = f
fill_fault w m job s code.BadJob interval f = f
fill_fault w m job s code.RangeTooWide interval f = f

pub new_job : (w m : World) (job : Job) → AreAlike w m (content_of job) → IsNewJob w job → IsNewJob m job
new_job w m job s new content n h = new content n ((s.jobs job.id content n).1 h)

pub suits_day : (w m : World) (job : Job) → AreAlike w m (content_of job) → SuitsDay w job → SuitsDay m job
suits_day w m job s suits = record {
  current = λ length unit form. suits.current length unit
      (form_there m w (content_of job) (back w m (content_of job) s) job.day length unit (inl refl) form);
  under = λ head h. suits.under head (head_back w m (content_of job) s job.day head (inl refl) h);
  unit = λ head h. suits.unit head (head_back w m (content_of job) s job.day head (inl refl) h);
}

other_length : (w m : World) (job : Job) → AreAlike w m (content_of job) → HasOtherLength w job → HasOtherLength m job
other_length w m job s (inl (length, unit, form, other)) =
    inl (length, unit, form_there w m (content_of job) s job.day length unit (inl refl) form, other)
other_length w m job s (inr (head, h, update, other)) =
    inr (head, head_there w m (content_of job) s job.day head (inl refl) h, update, other)

job_fault : (w m : World) (job : Job) → AreAlike w m (content_of job) → (broken : RefusalCode) (interval : ℕ)
    → IsJobFault w job broken interval → IsJobFault m job broken interval
job_fault w m job s code.BadJob interval f = f
job_fault w m job s code.RangeTooWide interval (good, new, suits, f) = absurd f
job_fault w m job s code.JobReused interval (good, (content, n, h, other), z) =
    (good, (content, n, (s.jobs job.id content n).0 h, other), z)
job_fault w m job s code.LengthConflict interval (good, new, other, z) =
    (good, new_job w m job s new, other_length w m job s other, z)
job_fault w m job s code.UnitConflict interval (good, new, one, (head, h, other), z) = (
  good,
  new_job w m job s new,
  (λ length. one (other_length m w job (back w m (content_of job) s) length)),
  (head, head_there w m (content_of job) s job.day head (inl refl) h, other),
  z,
)
job_fault w m job s code.Protected interval (good, new, suits, f) =
    (good, new_job w m job s new, suits_day w m job s suits, fill_fault w m (content_of job) s code.Protected interval f)
job_fault w m job s code.StaleUpdate interval (good, new, suits, f) =
    (good, new_job w m job s new, suits_day w m job s suits, fill_fault w m (content_of job) s code.StaleUpdate interval f)
job_fault w m job s code.TooLong interval (good, new, suits, f) =
    (good, new_job w m job s new, suits_day w m job s suits, fill_fault w m (content_of job) s code.TooLong interval f)
job_fault w m job s code.NoLikeDay interval (good, new, suits, f) =
    (good, new_job w m job s new, suits_day w m job s suits, fill_fault w m (content_of job) s code.NoLikeDay interval f)
job_fault w m job s code.NoAnchor interval (good, new, suits, f) =
    (good, new_job w m job s new, suits_day w m job s suits, fill_fault w m (content_of job) s code.NoAnchor interval f)
job_fault w m job s code.VersionConflict interval (good, new, suits, f) = absurd f
job_fault w m job s code.UnknownDay interval (good, new, suits, f) = absurd f

pub job_refusal : (w m : World) (job : Job) → AreAlike w m (content_of job) → (refusal : Refusal) → IsJobRefusal w job refusal
    → IsJobRefusal m job refusal
job_refusal w m job s refusal is = record {
  line = is.line;
  field = is.field;
  fault = job_fault w m job s refusal.code refusal.interval is.fault;
}
