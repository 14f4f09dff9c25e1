-- What a job puts breaks no rule with facts that aren't of its day.
use Rattle.std.specs.Prelude.{◌≡◌, ◌⊎◌, ℕ, ◌+◌, List, ◌∷◌, length, slice_get, Some}
use Rattle.std.proofs.Common.{sym, ap, ◌∙◌, subst, inl, inr, arith, refl}
use Rattle.std.specs.FinSet as set
use Rattle.mds_marks.specs.Reading.{ReadingValue}
use Rattle.mds_world.specs.declared.facts.Head.{Head}
use Rattle.mds_world.specs.declared.facts.Key.{Key}
use Rattle.mds_world.specs.Counts.{added_by, countable, is_counted, known_by}
use Rattle.mds_world.specs.FactOrder.{exact, total}
use Rattle.mds_world.specs.Facts.{Fact, PeriodContent}
use Rattle.mds_statements.specs.declared.periods.PeriodKey.{PeriodKey}
use Rattle.mds_world.specs.Facts.Fact.{HeadIs, VersionIs, PeriodIs, JobIs}
use Rattle.mds_world.specs.Lists.{Member}
use Rattle.mds_world.proofs.Lawful.{agrees_within}
use Rattle.mds_world.proofs.Members.{in_list, in_union, same_by, union_left, union_right}
use Rattle.mds_world.proofs.Sets.{difference_in, in_difference, in_intersection, in_retain, intersection_in, retain_in}
use Rattle.mds_world.specs.Sets.{◌∈◌}
use Rattle.mds_world.specs.Stated.{versions_from}
use Rattle.mds_world.specs.World.{Agrees, World, union}
use Rattle.mds_jobs.specs.Jobs.{content_of}
use Rattle.mds_jobs.specs.declared.job.Job.{Job}
use Rattle.mds_keeper.specs.Merge.{Breaks, HasTwoLengths, HasTwoReadings, HasTwoUnits}
use Rattle.mds_keeper.specs.declared.refusal.RefusalCode.{RefusalCode}
use Rattle.mds_keeper.specs.declared.refusal.RefusalCode.TheVariants as code
use Rattle.mds_keeper.proofs.Taken.{from_versions}
use Rattle.mds_fill.specs.Fills.{AreSubstitutes}
use Rattle.mds_service.specs.Substitution.{SuitsDay, head_of, job_world}
use Rattle.mds_laws.proofs.Kept.{target, version_of_job}
use Rattle.mds_laws.proofs.Members.{same_key}

head_in_job : (job : Job) (readings : List ReadingValue) (head : Head) → HeadIs head ∈ job_world job readings
    → head ≡ head_of job
head_in_job job readings head h =
    elim (in_list (HeadIs (head_of job) ∷ JobIs job.id (content_of job) (length readings)
    ∷ versions_from job.stream job.day job.length job.update job.first readings) (HeadIs head) h) [
      | inl e ↦ same_head head (head_of job) e
      | inr m ↦ elim m [
        | inl e ↦ cc
        | inr v ↦
            let n = from_versions job.stream job.day job.length job.update job.first readings (HeadIs head) v in
            let e = n.3 in cc
      ]
    ]
  where
    same_head : (x y : Head) → HeadIs x ≡ HeadIs y → x ≡ y
    same_head x y e = cc

one_some : {T : Type 0} (xs : List T) (j k : ℕ) (x y : T) → slice_get xs j ≡ Some x → slice_get xs k ≡ Some y → j ≡ k
    → x ≡ y
one_some xs j k x y e f same = let g : slice_get xs j ≡ Some y = ap (slice_get xs) same ∙ f in cc

-- the facts are of other days than the job's
pub record AreElsewhere (job : Job) (facts : World) : Type 0 where
  pub heads : (head : Head) → HeadIs head ∈ facts → head.stream ≡ job.stream → head.day ≡ job.day → ⊥
  pub versions : (key : Key) (reading : ReadingValue) → VersionIs key reading ∈ facts → key.stream ≡ job.stream
      → key.day ≡ job.day → ⊥

module _ (w : World) (job : Job) (readings : List ReadingValue) (are : AreSubstitutes w (content_of job) readings)
    (suits : SuitsDay w job) where
  abbrev put : World
  put = job_world job readings

  abbrev versions : List Fact
  versions = versions_from job.stream job.day job.length job.update job.first readings

  module _ (facts : World) (elsewhere : AreElsewhere job facts) where
    abbrev less : World
    less = union w facts

    abbrev more : World
    more = union (union w put) facts

    wider : (f : Fact) → f ∈ less → f ∈ more
    wider f h = elim (in_union w facts f h) [
      | inl a ↦ union_left (union w put) facts f (union_left w put f a)
      | inr b ↦ union_right (union w put) facts f b
    ]

    whence : (f : Fact) → f ∈ more → (f ∈ less) ⊎ (f ∈ put)
    whence f h = elim (in_union (union w put) facts f h) [
      | inl a ↦ elim (in_union w put f a) [ inl x ↦ inl (union_left w facts f x) | inr y ↦ inr y ]
      | inr b ↦ inl (union_right w facts f b)
    ]

    -- a head of the job's day has the job's length under the job's update
    length_alone : (a : Head) → HeadIs a ∈ less → a.stream ≡ job.stream → a.day ≡ job.day → a.update ≡ job.update
        → a.length ≡ job.length
    length_alone a h s d u = elim (in_union w facts (HeadIs a) h) [
      | inl x ↦ suits.under a (x, s, d) u
      | inr y ↦ absurd (elsewhere.heads a y s d)
    ]

    -- and the job's unit under any
    unit_alone : (a : Head) → HeadIs a ∈ less → a.stream ≡ job.stream → a.day ≡ job.day → a.unit ≡ job.unit
    unit_alone a h s d = elim (in_union w facts (HeadIs a) h) [
      | inl x ↦ suits.unit a (x, s, d)
      | inr y ↦ absurd (elsewhere.heads a y s d)
    ]

    -- Two heads were both there, or they have a part in common: where one is the job's, the other has that part of it.
    heads_meet : {X : Type 0} (part : Head → X) (a b : Head) → HeadIs a ∈ more → HeadIs b ∈ more
        → (HeadIs a ∈ less → b ≡ head_of job → part a ≡ part (head_of job))
        → (HeadIs b ∈ less → a ≡ head_of job → part b ≡ part (head_of job))
        → (part a ≡ part b) ⊎ ((HeadIs a ∈ less) × (HeadIs b ∈ less))
    heads_meet part a b h k one other = elim (whence (HeadIs a) h) [
      | inl x ↦ elim (whence (HeadIs b) k) [
        | inl y ↦ inr (x, y)
        | inr y ↦ let e = head_in_job job readings b y in inl (one x e ∙ sym (ap part e))
      ]
      | inr x ↦
          let e = head_in_job job readings a x in
          elim (whence (HeadIs b) k) [
            | inl y ↦ inl (ap part e ∙ sym (other y e))
            | inr y ↦ inl (ap part (e ∙ sym (head_in_job job readings b y)))
          ]
    ]

    lengths_meet : (a b : Head) → HeadIs a ∈ more → HeadIs b ∈ more → a.stream ≡ b.stream → a.day ≡ b.day
        → a.update ≡ b.update
        → (a.length ≡ b.length) ⊎ ((HeadIs a ∈ less) × (HeadIs b ∈ less))
    lengths_meet a b h k s d u = heads_meet (λ (i : Head). i.length) a b h k
        (λ x e. length_alone a x (s ∙ ap (λ (i : Head). i.stream) e) (d ∙ ap (λ (i : Head). i.day) e)
        (u ∙ ap (λ (i : Head). i.update) e))
        (λ y e. length_alone b y (sym s ∙ ap (λ (i : Head). i.stream) e) (sym d ∙ ap (λ (i : Head). i.day) e)
        (sym u ∙ ap (λ (i : Head). i.update) e))

    units_meet : (a b : Head) → HeadIs a ∈ more → HeadIs b ∈ more → a.stream ≡ b.stream → a.day ≡ b.day
        → (a.unit ≡ b.unit) ⊎ ((HeadIs a ∈ less) × (HeadIs b ∈ less))
    units_meet a b h k s d = heads_meet (λ (i : Head). i.unit) a b h k
        (λ x e. unit_alone a x (s ∙ ap (λ (i : Head). i.stream) e) (d ∙ ap (λ (i : Head). i.day) e))
        (λ y e. unit_alone b y (sym s ∙ ap (λ (i : Head). i.stream) e) (sym d ∙ ap (λ (i : Head). i.day) e))

    -- no target has a version of the job's update
    version_alone : (key : Key) (r q : ReadingValue) → VersionIs key r ∈ less → Member (VersionIs key q) versions → ⊥
    version_alone key r q h m =
        let v = from_versions job.stream job.day job.length job.update job.first readings (VersionIs key q) m in
        let same = (same_key _ _ _ _ v.3).0 in
        elim (in_union w facts (VersionIs key r) h) [
          | inl x ↦ are.free.fresh (job.first + v.0) (
            target w job readings are v.0 v.1 v.2,
            record {
              minutes = job.length;
              of_day = suits.current;
              update = job.update;
              reading = r;
              held = subst (λ k. VersionIs k r ∈ w) same x;
              late = omega arith;
            },
          )
          | inr y ↦
              elsewhere.versions key r y (ap (λ (k : Key). k.stream) same) (ap (λ (k : Key). k.day) same)
        ]

    both_put : (key : Key) (a b : ReadingValue) → Member (VersionIs key a) versions → Member (VersionIs key b) versions → a ≡ b
    both_put key a b m n =
        let u = from_versions job.stream job.day job.length job.update job.first readings (VersionIs key a) m in
        let v = from_versions job.stream job.day job.length job.update job.first readings (VersionIs key b) n in
        let x = same_key _ _ _ _ u.3 in
        let y = same_key _ _ _ _ v.3 in
        let at : job.first + u.0 ≡ job.first + v.0 = ap (λ (k : Key). k.interval) (sym x.0 ∙ y.0) in
        x.1 ∙ one_some readings u.0 v.0 u.1 v.1 u.2 v.2 (omega (arith, at)) ∙ sym y.1

    versions_meet : (key : Key) (a b : ReadingValue) → VersionIs key a ∈ more → VersionIs key b ∈ more
        → (a ≡ b) ⊎ ((VersionIs key a ∈ less) × (VersionIs key b ∈ less))
    versions_meet key a b h k = elim (whence (VersionIs key a) h) [
      | inl x ↦ elim (whence (VersionIs key b) k) [
        | inl y ↦ inr (x, y)
        | inr y ↦ absurd (version_alone key a b x (version_of_job job readings (VersionIs key b) refl y))
      ]
      | inr x ↦
          let m = version_of_job job readings (VersionIs key a) refl x in
          elim (whence (VersionIs key b) k) [
            | inl y ↦ absurd (version_alone key b a y m)
            | inr y ↦ inl (both_put key a b m (version_of_job job readings (VersionIs key b) refl y))
          ]
    ]

    period_where : (key : PeriodKey) (a : PeriodContent) → PeriodIs key a ∈ more → PeriodIs key a ∈ less
    period_where key a h = elim (whence (PeriodIs key a) h) [
      | inl x ↦ x
      | inr y ↦
          let v = from_versions job.stream job.day job.length job.update job.first readings (PeriodIs key a)
          (version_of_job job readings (PeriodIs key a) refl y) in
          let e = v.3 in cc
    ]

    pub agrees_more : Agrees less → Agrees more
    agrees_more agrees = record {
      one_length = λ a b h k s d u. elim (lengths_meet a b h k s d u) [
        | inl e ↦ e
        | inr both ↦ agrees.one_length a b both.0 both.1 s d u
      ];
      one_unit = λ a b h k s d. elim (units_meet a b h k s d) [
        | inl e ↦ e
        | inr both ↦ agrees.one_unit a b both.0 both.1 s d
      ];
      one_reading = λ key a b h k. elim (versions_meet key a b h k) [
        | inl e ↦ e
        | inr both ↦ agrees.one_reading key a b both.0 both.1
      ];
      one_content = λ key a b h k. agrees.one_content key a b (period_where key a h) (period_where key b k);
    }

    pub agrees_less : Agrees more → Agrees less
    agrees_less = agrees_within more less wider

    lengths_more : HasTwoLengths less → HasTwoLengths more
    lengths_more (a, b, h, k, s, d, u, other) = (a, b, wider _ h, wider _ k, s, d, u, other)

    lengths_less : HasTwoLengths more → HasTwoLengths less
    lengths_less (a, b, h, k, s, d, u, other) = elim (lengths_meet a b h k s d u) [
      | inl e ↦ absurd (other e)
      | inr both ↦ (a, b, both.0, both.1, s, d, u, other)
    ]

    units_more : HasTwoUnits less → HasTwoUnits more
    units_more (a, b, h, k, s, d, other) = (a, b, wider _ h, wider _ k, s, d, other)

    units_less : HasTwoUnits more → HasTwoUnits less
    units_less (a, b, h, k, s, d, other) = elim (units_meet a b h k s d) [
      | inl e ↦ absurd (other e)
      | inr both ↦ (a, b, both.0, both.1, s, d, other)
    ]

    readings_more : (i : ℕ) → HasTwoReadings less i → HasTwoReadings more i
    readings_more i (inl (key, a, b, h, k, at, other)) = inl (key, a, b, wider _ h, wider _ k, at, other)
    readings_more i (inr (key, a, b, h, k, at, other)) = inr (key, a, b, wider _ h, wider _ k, at, other)

    readings_less : (i : ℕ) → HasTwoReadings more i → HasTwoReadings less i
    readings_less i (inl (key, a, b, h, k, at, other)) = elim (versions_meet key a b h k) [
      | inl e ↦ absurd (other e)
      | inr both ↦ inl (key, a, b, both.0, both.1, at, other)
    ]
    readings_less i (inr (key, a, b, h, k, at, other)) =
        inr (key, a, b, period_where key a h, period_where key b k, at, other)

    pub breaks_more : (broken : RefusalCode) (i : ℕ) → Breaks less broken i → Breaks more broken i
    breaks_more code.LengthConflict i (two, z) = (lengths_more two, z)
    breaks_more code.UnitConflict i (one, two, z) = ((λ h. one (lengths_less h)), units_more two, z)
    breaks_more code.VersionConflict i (length, unit, two, least) = (
      (λ h. length (lengths_less h)),
      (λ h. unit (units_less h)),
      readings_more i two,
      λ j lt h. least j lt (readings_less j h),
    )
    breaks_more code.JobReused i breaks = breaks
    breaks_more code.Protected i breaks = breaks
    breaks_more code.StaleUpdate i breaks = breaks
    breaks_more code.NoLikeDay i breaks = breaks
    breaks_more code.TooLong i breaks = breaks
    breaks_more code.NoAnchor i breaks = breaks
    breaks_more code.UnknownDay i breaks = breaks
    breaks_more code.BadJob i breaks = breaks
    breaks_more code.RangeTooWide i breaks = breaks

    pub breaks_less : (broken : RefusalCode) (i : ℕ) → Breaks more broken i → Breaks less broken i
    breaks_less code.LengthConflict i (two, z) = (lengths_less two, z)
    breaks_less code.UnitConflict i (one, two, z) = ((λ h. one (lengths_more h)), units_less two, z)
    breaks_less code.VersionConflict i (length, unit, two, least) = (
      (λ h. length (lengths_more h)),
      (λ h. unit (units_more h)),
      readings_less i two,
      λ j lt h. least j lt (readings_more j h),
    )
    breaks_less code.JobReused i breaks = breaks
    breaks_less code.Protected i breaks = breaks
    breaks_less code.StaleUpdate i breaks = breaks
    breaks_less code.NoLikeDay i breaks = breaks
    breaks_less code.TooLong i breaks = breaks
    breaks_less code.NoAnchor i breaks = breaks
    breaks_less code.UnknownDay i breaks = breaks
    breaks_less code.BadJob i breaks = breaks
    breaks_less code.RangeTooWide i breaks = breaks

    -- what counts of the facts isn't put by the job
    not_put : (f : Fact) → f ∈ countable facts → f ∈ countable (union w put) → f ∈ countable w
    not_put f a b =
        let x = in_retain total exact facts is_counted f a in
        let y = in_retain total exact (union w put) is_counted f b in
        elim (in_union w put f y.0) [
          | inl h ↦ retain_in total exact w is_counted f h x.1
          | inr h ↦
              let v = from_versions job.stream job.day job.length job.update job.first readings f (version_of_job job readings f x.1 h) in
              absurd (elsewhere.versions _ v.1 (subst (λ g. g ∈ facts) v.3 x.0) refl refl)
        ]

    still : (f : Fact) → f ∈ countable w → f ∈ countable (union w put)
    still f h =
        let x = in_retain total exact w is_counted f h in
        retain_in total exact (union w put) is_counted f (union_left w put f x.0) x.1

    pub same_added : added_by (union w put) facts ≡ added_by w facts
    same_added = ap set.len (same_by _ _
        (λ f h. let d = in_difference total exact (countable facts) (countable (union w put)) f h in
        difference_in total exact (countable facts) (countable w) f d.0 (λ k. d.1 (still f k)))
        (λ f h. let d = in_difference total exact (countable facts) (countable w) f h in
        difference_in total exact (countable facts) (countable (union w put)) f d.0 (λ k. d.1 (not_put f d.0 k))))

    pub same_known : known_by (union w put) facts ≡ known_by w facts
    same_known = ap set.len (same_by _ _
        (λ f h. let d = in_intersection total exact (countable facts) (countable (union w put)) f h in
        intersection_in total exact (countable facts) (countable w) f d.0 (not_put f d.0 d.1))
        (λ f h. let d = in_intersection total exact (countable facts) (countable w) f h in
        intersection_in total exact (countable facts) (countable (union w put)) f d.0 (still f d.1)))
