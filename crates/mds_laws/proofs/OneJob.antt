-- What becomes of a job is determined.
use Rattle.std.specs.Prelude.{◌≡◌, ◌⊎◌, ℕ, ℤ, ◌+◌, ◌-◌, ◌<◌, ◌≤◌, List, [], ◌∷◌, length, get_or, slice_get, Option, Some, None}
use Rattle.std.proofs.Common.{sym, ◌∙◌, subst, inl, inr, arith, refl, suc}
use Rattle.std.proofs.lemmas.Option.{slice_get-get_or}
use Rattle.std.proofs.Math.Nat.{le_antisymm}
use Rattle.std.proofs.lemmas.Bool.{cases_lt}
use Rattle.mds_marks.specs.Reading.{ReadingValue}
use Rattle.mds_world.specs.Current.{no_reading}
use Rattle.mds_world.specs.Facts.{JobContent}
use Rattle.mds_world.specs.Facts.Fact.{JobIs}
use Rattle.mds_world.specs.Sets.{◌∈◌}
use Rattle.mds_world.specs.World.{IsLawful, World}
use Rattle.mds_jobs.specs.Jobs.{IsBad, content_of}
use Rattle.mds_jobs.specs.declared.job.Job.{Job}
use Rattle.mds_keeper.specs.declared.refusal.Refusal.{Refusal}
use Rattle.mds_keeper.specs.declared.refusal.RefusalCode.{RefusalCode}
use Rattle.mds_keeper.specs.declared.refusal.RefusalCode.TheVariants as code
use Rattle.mds_fill.specs.Fills.{AreSubstitutes, IsCopied, IsFillFault, IsFilled, IsLeast, IsMean, IsOnLine, IsProtectedTarget, IsStaleTarget, IsTarget, IsTooLong, LacksAnchor, LacksLikeDay, count_some}
use Rattle.mds_service.specs.Substitution.{HasOtherLength, HasOtherUnit, IsJobFault, IsJobRefusal, IsNewJob, IsReused, SuitsDay}
use Rattle.mds_laws.proofs.OneList.{first_of}
use Rattle.mds_laws.proofs.OneRefusal.{one_refusal}

-- ---- which rule stops a job: from a rule on, this one, or where it doesn't hold one from the next on

abbrev FromAnchor : World → JobContent → RefusalCode → ℕ → Type 0
FromAnchor w job stop interval = (stop ≡ code.NoAnchor) × LacksAnchor w job × (interval ≡ 0)

abbrev FromLikeDay : World → JobContent → RefusalCode → ℕ → Type 0
FromLikeDay w job stop interval =
    ((stop ≡ code.NoLikeDay) × LacksLikeDay w job × (interval ≡ 0))
    ⊎ ((LacksLikeDay w job → ⊥) × FromAnchor w job stop interval)

abbrev FromTooLong : World → JobContent → RefusalCode → ℕ → Type 0
FromTooLong w job stop interval =
    ((stop ≡ code.TooLong) × IsTooLong job × (interval ≡ 0)) ⊎ ((IsTooLong job → ⊥) × FromLikeDay w job stop interval)

abbrev FromStale : World → JobContent → RefusalCode → ℕ → Type 0
FromStale w job stop interval =
    ((stop ≡ code.StaleUpdate) × IsLeast (IsStaleTarget w job) interval)
    ⊎ (((i : ℕ) → IsStaleTarget w job i → ⊥) × FromTooLong w job stop interval)

abbrev FromProtected : World → JobContent → RefusalCode → ℕ → Type 0
FromProtected w job stop interval =
    ((stop ≡ code.Protected) × IsLeast (IsProtectedTarget w job) interval)
    ⊎ (((i : ℕ) → IsProtectedTarget w job i → ⊥) × FromStale w job stop interval)

-- where a value beside the targets is asked for, no day is
lacks_one : (w : World) (job : JobContent) → LacksAnchor w job → LacksLikeDay w job → ⊥
lacks_one w job (m, lack) (inl (n, none)) = omega (arith, m, n)
lacks_one w job (m, lack) (inr (n, none)) = omega (arith, m, n)

not_long : (w : World) (job : JobContent) → LacksLikeDay w job → IsTooLong job → ⊥
not_long w job (inl (n, none)) (m, more) = omega (arith, m, n)
not_long w job (inr (n, none)) (m, more) = omega (arith, m, n)

by_fill_rule : (w : World) (job : JobContent) (stop : RefusalCode) (interval : ℕ) → IsFillFault w job stop interval
    → FromProtected w job stop interval
by_fill_rule w job code.Protected interval least = inl (refl, least)
by_fill_rule w job code.StaleUpdate interval (none, least) = inr (none, inl (refl, least))
by_fill_rule w job code.TooLong interval (free, long, zero) =
    inr (free.unprotected, inr (free.fresh, inl (refl, long, zero)))
by_fill_rule w job code.NoLikeDay interval (free, lack, zero) =
    inr (free.unprotected, inr (free.fresh, inr (not_long w job lack, inl (refl, lack, zero))))
by_fill_rule w job code.NoAnchor interval (free, short, lack, zero) =
    inr (free.unprotected, inr (free.fresh, inr (short, inr (lacks_one w job lack, (refl, lack, zero)))))
by_fill_rule w job code.LengthConflict interval fault = absurd fault
by_fill_rule w job code.UnitConflict interval fault = absurd fault
by_fill_rule w job code.VersionConflict interval fault = absurd fault
by_fill_rule w job code.JobReused interval fault = absurd fault
by_fill_rule w job code.UnknownDay interval fault = absurd fault
by_fill_rule w job code.BadJob interval fault = absurd fault
by_fill_rule w job code.RangeTooWide interval fault = absurd fault

-- the least of its kind is one
one_least : (P : ℕ → Type 0) (i j : ℕ) → IsLeast P i → IsLeast P j → i ≡ j
one_least P i j a b = le_antisymm (a.1 j b.0) (b.1 i a.0)

-- of the rules of filling in one stops a job, at one interval
one_filling : (w : World) (job : JobContent) (stop other : RefusalCode) (i j : ℕ) → FromProtected w job stop i
    → FromProtected w job other j → (stop ≡ other) × (i ≡ j)
one_filling w job stop other i j =
    first_of (λ x no. no i x.1.0) (λ x no. no j x.1.0) (λ x y. (x.0 ∙ sym y.0, one_least _ i j x.1 y.1))
    (first_of (λ x no. no i x.1.0) (λ x no. no j x.1.0) (λ x y. (x.0 ∙ sym y.0, one_least _ i j x.1 y.1))
    (first_of (λ x no. no x.1) (λ x no. no x.1) (λ x y. (x.0 ∙ sym y.0, x.2 ∙ sym y.2))
    (first_of (λ x no. no x.1) (λ x no. no x.1) (λ x y. (x.0 ∙ sym y.0, x.2 ∙ sym y.2))
    (λ x y. (x.0 ∙ sym y.0, x.2 ∙ sym y.2)))))

abbrev FromUnit : World → Job → RefusalCode → ℕ → Type 0
FromUnit w job stop interval =
    ((stop ≡ code.UnitConflict) × HasOtherUnit w job × (interval ≡ 0))
    ⊎ (SuitsDay w job × FromProtected w (content_of job) stop interval)

abbrev FromLength : World → Job → RefusalCode → ℕ → Type 0
FromLength w job stop interval =
    ((stop ≡ code.LengthConflict) × HasOtherLength w job × (interval ≡ 0))
    ⊎ ((HasOtherLength w job → ⊥) × FromUnit w job stop interval)

abbrev FromId : World → Job → RefusalCode → ℕ → Type 0
FromId w job stop interval =
    ((stop ≡ code.JobReused) × IsReused w job × (interval ≡ 0)) ⊎ (IsNewJob w job × FromLength w job stop interval)

abbrev FromBad : World → Job → RefusalCode → ℕ → Type 0
FromBad w job stop interval =
    ((stop ≡ code.BadJob) × IsBad (content_of job) × (interval ≡ 0))
    ⊎ ((IsBad (content_of job) → ⊥) × FromId w job stop interval)

-- a job that suits its day has its length, now and under the job's update, and its unit
no_other_length : (w : World) (job : Job) → SuitsDay w job → HasOtherLength w job → ⊥
no_other_length w job suits (inl (length, unit, form, other)) = other (suits.current length unit form)
no_other_length w job suits (inr (head, held, update, other)) = other (suits.under head held update)

no_other_unit : (w : World) (job : Job) → SuitsDay w job → HasOtherUnit w job → ⊥
no_other_unit w job suits (head, held, other) = other (suits.unit head held)

module _ (w : World) (job : Job) where
  -- a rule of filling in stands behind all others
  filled : (stop : RefusalCode) (interval : ℕ)
      → (IsBad (content_of job) → ⊥) × IsNewJob w job × SuitsDay w job × IsFillFault w (content_of job) stop interval
      → FromBad w job stop interval
  filled stop interval (good, fresh, suits, fault) = inr (
    good,
    inr (
      fresh,
      inr (no_other_length w job suits, inr (suits, by_fill_rule w (content_of job) stop interval fault)),
    ),
  )

  by_job_rule : (stop : RefusalCode) (interval : ℕ) → IsJobFault w job stop interval → FromBad w job stop interval
  by_job_rule code.BadJob interval (bad, zero) = inl (refl, bad, zero)
  by_job_rule code.JobReused interval (good, reused, zero) = inr (good, inl (refl, reused, zero))
  by_job_rule code.LengthConflict interval (good, fresh, other, zero) =
      inr (good, inr (fresh, inl (refl, other, zero)))
  by_job_rule code.UnitConflict interval (good, fresh, one, other, zero) =
      inr (good, inr (fresh, inr (one, inl (refl, other, zero))))
  by_job_rule code.VersionConflict interval fault = filled code.VersionConflict interval fault
  by_job_rule code.Protected interval fault = filled code.Protected interval fault
  by_job_rule code.StaleUpdate interval fault = filled code.StaleUpdate interval fault
  by_job_rule code.NoLikeDay interval fault = filled code.NoLikeDay interval fault
  by_job_rule code.TooLong interval fault = filled code.TooLong interval fault
  by_job_rule code.NoAnchor interval fault = filled code.NoAnchor interval fault
  by_job_rule code.UnknownDay interval fault = filled code.UnknownDay interval fault
  by_job_rule code.RangeTooWide interval fault = filled code.RangeTooWide interval fault

  reused_new : IsReused w job → IsNewJob w job → ⊥
  reused_new (content, count, held, other) fresh = fresh content count held

  -- one refusal stops a job
  pub one_stop : (r s : Refusal) → IsJobRefusal w job r → IsJobRefusal w job s → r ≡ s
  one_stop r s a b =
      let rule : (r.code ≡ s.code) × (r.interval ≡ s.interval) =
      first_of (λ x no. no x.1) (λ x no. no x.1) (λ x y. (x.0 ∙ sym y.0, x.2 ∙ sym y.2))
      (first_of (λ x no. reused_new x.1 no) (λ x no. reused_new x.1 no) (λ x y. (x.0 ∙ sym y.0, x.2 ∙ sym y.2))
      (first_of (λ x no. no x.1) (λ x no. no x.1) (λ x y. (x.0 ∙ sym y.0, x.2 ∙ sym y.2))
      (first_of (λ x no. no_other_unit w job no x.1) (λ x no. no_other_unit w job no x.1)
      (λ x y. (x.0 ∙ sym y.0, x.2 ∙ sym y.2))
      (one_filling w (content_of job) r.code s.code r.interval s.interval))))
      (by_job_rule r.code r.interval a.fault) (by_job_rule s.code s.interval b.fault) in
      one_refusal r s rule.0 (a.line ∙ sym b.line) (a.field ∙ sym b.field) rule.1

-- ---- a job that was done wasn't stopped

module _ (w : World) (job : JobContent) (readings : List ReadingValue) (are : AreSubstitutes w job readings) where
  -- each target is filled
  filled_at : (i : ℕ) → IsTarget job i → (value : ℤ) × IsFilled w job i value
  filled_at i (from, upto) =
      let k : ℕ = i - job.first in
      let below : k < length readings = subst (λ n. k < n) (sym are.count) (omega (arith, from, upto)) in
      let at : job.first + k ≡ i = omega (arith, from) in
      let is = are.each k (get_or readings k no_reading) (slice_get-get_or readings k no_reading below) in
      (is.value, subst (λ n. IsFilled w job n is.value) at is.filled)

  -- by the job's method
  copied : (i : ℕ) (value : ℤ) → job.method ≡ 14 → IsFilled w job i value → IsCopied w job i value
  copied i value m (inl (n, x)) = x
  copied i value m (inr (inl (n, x))) = absurd (omega (arith, m, n))
  copied i value m (inr (inr (inl (n, x)))) = absurd (omega (arith, m, n))
  copied i value m (inr (inr (inr (n, x)))) = absurd (omega (arith, m, n))

  on_line : (i : ℕ) (value : ℤ) → job.method ≡ 17 → IsFilled w job i value → IsOnLine w job i value
  on_line i value m (inl (n, x)) = absurd (omega (arith, m, n))
  on_line i value m (inr (inl (n, x))) = absurd (omega (arith, m, n))
  on_line i value m (inr (inr (inl (n, x)))) = x
  on_line i value m (inr (inr (inr (n, x)))) = absurd (omega (arith, m, n))

  mean : (i : ℕ) (value : ℤ) → job.method ≡ 15 → IsFilled w job i value → IsMean w job i value
  mean i value m (inl (n, x)) = absurd (omega (arith, m, n))
  mean i value m (inr (inl (n, x))) = x
  mean i value m (inr (inr (inl (n, x)))) = absurd (omega (arith, m, n))
  mean i value m (inr (inr (inr (n, x)))) = absurd (omega (arith, m, n))

  -- a tally that isn't empty has a value
  some_slot : (tally : List (Option ℤ)) → 1 ≤ count_some tally
      → (k : ℕ) × (value : ℤ) × (slice_get tally k ≡ Some (Some value))
  some_slot [] some = absurd (omega (arith, some))
  some_slot (Some value ∷ rest) some = (0, value, refl)
  some_slot (None ∷ rest) some = let r = some_slot rest some in (suc r.0, r.1, r.2)

  -- so that what it needs isn't lacking
  has_like : job.first ≤ job.last → LacksLikeDay w job → ⊥
  has_like some (inl (m, none)) =
      let f = filled_at job.first (omega arith, some) in
      let c = copied job.first f.0 m f.1 in none c.1.place c.0 c.1.like c.1.all
  has_like some (inr (m, (i, target, none))) =
      let f = filled_at i target in
      let x = mean i f.0 m f.1 in
      let s = some_slot x.0 x.2 in none s.0 s.1 (x.1.each s.0 (Some s.1) s.2)

  has_anchor : job.first ≤ job.last → LacksAnchor w job → ⊥
  has_anchor some (m, lack) =
      let f = filled_at job.first (omega arith, some) in
      let x = on_line job.first f.0 m f.1 in
      elim lack [ inl none ↦ none x.0 x.2 | inr none ↦ none x.1 x.3 ]

  not_stopped : job.first ≤ job.last → (stop : RefusalCode) (interval : ℕ) → FromProtected w job stop interval → ⊥
  not_stopped some stop interval (inl x) = are.free.unprotected interval x.1.0
  not_stopped some stop interval (inr (a, inl x)) = are.free.fresh interval x.1.0
  not_stopped some stop interval (inr (a, inr (b, inl x))) = are.short x.1
  not_stopped some stop interval (inr (a, inr (b, inr (c, inl x)))) = has_like some x.1
  not_stopped some stop interval (inr (a, inr (b, inr (c, inr (d, x))))) = has_anchor some x.1

-- a job that isn't bad has a target
some_target : (job : JobContent) → (IsBad job → ⊥) → job.first ≤ job.last
some_target job good = elim (cases_lt job.last job.first) [
  | inl less ↦ absurd (good (inr (inl less)))
  | inr upto ↦ upto
]

module _ (w : World) (job : Job) where
  pub done_not_stopped : (readings : List ReadingValue) (r : Refusal) → (IsBad (content_of job) → ⊥) → IsNewJob w job
      → SuitsDay w job → AreSubstitutes w (content_of job) readings → IsJobRefusal w job r → ⊥
  done_not_stopped readings r good fresh suits are is =
      elim (by_job_rule w job r.code r.interval is.fault) [
        | inl x ↦ good x.1
        | inr x ↦ elim x.1 [
          | inl y ↦ reused_new w job y.1 fresh
          | inr y ↦ elim y.1 [
            | inl z ↦ no_other_length w job suits z.1
            | inr z ↦ elim z.1 [
              | inl u ↦ no_other_unit w job suits u.1
              | inr u ↦ not_stopped w (content_of job) readings are (some_target (content_of job) good) r.code r.interval u.1
            ]
          ]
        ]
      ]

-- nor was one that is known
pub known_not_stopped : (w : World) (job : Job) (count : ℕ) (r : Refusal) → IsLawful w → (IsBad (content_of job) → ⊥)
    → JobIs job.id (content_of job) count ∈ w → IsJobRefusal w job r → ⊥
known_not_stopped w job count r lawful good held is =
    elim (by_job_rule w job r.code r.interval is.fault) [
      | inl x ↦ good x.1
      | inr x ↦ elim x.1 [
        | inl y ↦
            let reused = y.1 in
            reused.3 (lawful.one_job job.id reused.0 (content_of job) reused.1 count reused.2 held).0
        | inr y ↦ y.0 (content_of job) count held
      ]
    ]
