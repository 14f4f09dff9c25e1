-- What a keeper in memory keeps: a World of days, of details, of notes, of jobs and of accumulations.
use Rattle.std.proofs.Common.{◌≡◌, ℕ, List, [], ◌∷◌, ◌++◌, refl, sym, ap, subst, inl, inr}
use Rattle.std.specs.Prelude.{◌⊎◌, ◌↔◌, map, Option, Some, None}
use Rattle.std.specs.BTreeMap.{IsOrdered}
use Rattle.std.specs.BTreeSet.{BTreeSet}
use Rattle.std.specs.FinSet as set
use Rattle.mds_jobs.specs.declared.job.Job.{Job}
use Rattle.mds_names.specs.declared.stream.Stream.{Stream}
use Rattle.mds_statements.specs.declared.periods.Period.{Period}
use Rattle.mds_statements.specs.declared.periods.PeriodKey.{PeriodKey}
use Rattle.mds_terms.specs.Details.{DetailsValue}
use Rattle.mds_terms.specs.Event.{EventValue}
use Rattle.mds_world.specs.declared.facts.Detail.{Detail}
use Rattle.mds_world.specs.Current.{IsCurrentDetails, IsUpto}
use Rattle.mds_world.specs.FactOrder.{exact, total}
use Rattle.mds_world.specs.Facts.{Fact, JobContent, PeriodContent}
use Rattle.mds_world.specs.Facts.Fact.{HeadIs, VersionIs, DetailIs, EventIs, PeriodIs, HolidayIs, JobIs}
use Rattle.mds_world.proofs.Lawful.{agrees_within}
use Rattle.mds_world.proofs.Lists.{append_left, append_right, in_map, map_in, member_append}
use Rattle.mds_world.specs.Lists.{Apart, Member}
use Rattle.mds_world.proofs.Members.{in_list, in_union, list_in, same_by, union_left, union_right}
use Rattle.mds_world.proofs.Sets.{not_in_empty}
use Rattle.mds_world.specs.Sets.{◌∈◌}
use Rattle.mds_world.specs.World.{Agrees, IsKnownDay, IsLawful, IsOn, World, head_over, key_under, union}
use Rattle.mds_keeper.specs.Books.{BookValue, IsDay}
use Rattle.mds_keeper.specs.Content.{AreNew, content, content_facts, detail_on, details_of, heads_of, job_fact, period_fact, version_fact, versions_of}
use Rattle.mds_keeper.specs.Queries.{AreDaysOf, AreDaysWithout, AreDetailsBetween, AreEventsOf, AreHolidays, ArePeriodsOf, IsContentOf, IsJobOf, IsLastDayOf}
use Rattle.mds_memory.specs.Stored.{IsStored, days_world, id_cmp, jobs_world, key_cmp, note_fact, notes_world, periods_world, place_cmp, stored_world}
use Rattle.mds_keeper.specs.declared.additions.Additions.{Additions}
use Rattle.mds_keeper.specs.declared.additions.DetailDays.{DetailDays}
use Rattle.mds_memory.specs.StoredDetails.{details_world}
use Rattle.mds_memory.specs.declared.stored_notes.Note.{Note}
use Rattle.mds_memory.specs.declared.stored_notes.Note.TheVariants.{Event, Holiday}
use Rattle.mds_keeper.proofs.Unknown.{nothing_lawful}
use Rattle.mds_memory.proofs.StoredDays.{Kept, fact_on, in_days}
use Rattle.mds_memory.proofs.StoredDetails.{Meters, in_details, is_detail, meter_of}
use Rattle.mds_memory.proofs.StoredJobs.{Jobs, in_jobs}
use Rattle.mds_memory.proofs.StoredPeriods.{Periods, in_periods}

-- a note is of no day's head or versions
note_not_on : (stream : Stream) (day : ℕ) (note : Note) → IsOn stream day (note_fact note) → ⊥
note_not_on stream day (Event event) on = on
note_not_on stream day (Holiday date) on = on

-- and nor are details
detail_not_on : (stream : Stream) (day : ℕ) (f : Fact) (detail : Detail) → f ≡ DetailIs detail → IsOn stream day f → ⊥
detail_not_on stream day f detail e on = subst (IsOn stream day) e on

-- and nor is a job
job_not_on : (stream : Stream) (day : ℕ) (f : Fact) (job : Job × ℕ) → f ≡ job_fact job → IsOn stream day f → ⊥
job_not_on stream day f job e on = subst (IsOn stream day) e on

-- and nor is an accumulation
period_not_on : (stream : Stream) (day : ℕ) (f : Fact) (key : PeriodKey) (content : PeriodContent) → f ≡ PeriodIs key content
    → IsOn stream day f → ⊥
period_not_on stream day f key content e on = subst (IsOn stream day) e on

detail_no_note : (detail : Detail) (note : Note) → DetailIs detail ≡ note_fact note → ⊥
detail_no_note detail (Event event) e = cc
detail_no_note detail (Holiday day) e = cc

detail_no_job : (detail : Detail) (job : Job × ℕ) → DetailIs detail ≡ job_fact job → ⊥
detail_no_job detail job e = cc

no_detail_job : (detail : Detail) (id : List ℕ) (content : JobContent) (count : ℕ) → JobIs id content count ≡ DetailIs detail → ⊥
no_detail_job detail id content count e = cc

detail_no_period : (detail : Detail) (key : PeriodKey) (content : PeriodContent) → DetailIs detail ≡ PeriodIs key content → ⊥
detail_no_period detail key content e = cc

note_no_job : (note : Note) (job : Job × ℕ) → note_fact note ≡ job_fact job → ⊥
note_no_job (Event event) job e = cc
note_no_job (Holiday day) job e = cc

note_no_period : (note : Note) (key : PeriodKey) (content : PeriodContent) → note_fact note ≡ PeriodIs key content → ⊥
note_no_period (Event event) key content e = cc
note_no_period (Holiday day) key content e = cc

job_no_period : (id : List ℕ) (job : JobContent) (count : ℕ) (key : PeriodKey) (content : PeriodContent)
    → JobIs id job count ≡ PeriodIs key content → ⊥
job_no_period id job count key content e = cc

period_no_job : (key : PeriodKey) (content : PeriodContent) (job : Job × ℕ) → PeriodIs key content ≡ job_fact job → ⊥
period_no_job key content job e = cc

-- the days, the details and the notes
abbrev to_notes_of : Kept → Meters → BTreeSet Note → World
to_notes_of days meters notes = union (union (days_world days) (details_world meters)) (notes_world notes)

-- and the jobs
abbrev to_jobs_of : Kept → Meters → BTreeSet Note → Jobs → World
to_jobs_of days meters notes jobs = union (to_notes_of days meters notes) (jobs_world jobs)

pub in_notes_list : (notes : BTreeSet Note) (f : Fact) → f ∈ notes_world notes → (note : Note) × Member note notes.keys × (f ≡ note_fact note)
in_notes_list notes f h = in_map note_fact notes.keys f (in_list _ f h)

-- what is kept is of the days, the details, the notes, the jobs or the accumulations
pub in_stored : (days : Kept) (meters : Meters) (notes : BTreeSet Note) (jobs : Jobs) (periods : Periods) (f : Fact)
    → f ∈ stored_world days meters notes jobs periods
    → (f ∈ days_world days)
    ⊎ ((f ∈ details_world meters) ⊎ ((f ∈ notes_world notes) ⊎ ((f ∈ jobs_world jobs) ⊎ (f ∈ periods_world periods))))
in_stored days meters notes jobs periods f h =
    elim (in_union (to_jobs_of days meters notes jobs) (periods_world periods) f h) [
      | inr a ↦ inr (inr (inr (inr a)))
      | inl a ↦ elim (in_union (to_notes_of days meters notes) (jobs_world jobs) f a) [
        | inr b ↦ inr (inr (inr (inl b)))
        | inl b ↦ elim (in_union (union (days_world days) (details_world meters)) (notes_world notes) f b) [
          | inr c ↦ inr (inr (inl c))
          | inl c ↦ elim (in_union (days_world days) (details_world meters) f c) [ inl d ↦ inl d | inr d ↦ inr (inl d) ]
        ]
      ]
    ]

-- the days, the details and the notes are kept before the jobs
before_jobs : (days : Kept) (meters : Meters) (notes : BTreeSet Note) (jobs : Jobs) (periods : Periods) (f : Fact)
    → f ∈ to_notes_of days meters notes → f ∈ stored_world days meters notes jobs periods
before_jobs days meters notes jobs periods f h =
    union_left (to_jobs_of days meters notes jobs) (periods_world periods) f
    (union_left (to_notes_of days meters notes) (jobs_world jobs) f h)

pub days_in_whole : (days : Kept) (meters : Meters) (notes : BTreeSet Note) (jobs : Jobs) (periods : Periods) (f : Fact)
    → f ∈ days_world days → f ∈ stored_world days meters notes jobs periods
days_in_whole days meters notes jobs periods f h =
    before_jobs days meters notes jobs periods f
    (union_left (union (days_world days) (details_world meters)) (notes_world notes) f
    (union_left (days_world days) (details_world meters) f h))

pub details_in_whole : (days : Kept) (meters : Meters) (notes : BTreeSet Note) (jobs : Jobs) (periods : Periods) (f : Fact)
    → f ∈ details_world meters → f ∈ stored_world days meters notes jobs periods
details_in_whole days meters notes jobs periods f h =
    before_jobs days meters notes jobs periods f
    (union_left (union (days_world days) (details_world meters)) (notes_world notes) f
    (union_right (days_world days) (details_world meters) f h))

in_whole : (days : Kept) (meters : Meters) (notes : BTreeSet Note) (jobs : Jobs) (periods : Periods) (f : Fact)
    → f ∈ notes_world notes → f ∈ stored_world days meters notes jobs periods
in_whole days meters notes jobs periods f h =
    before_jobs days meters notes jobs periods f
    (union_right (union (days_world days) (details_world meters)) (notes_world notes) f h)

jobs_in_whole : (days : Kept) (meters : Meters) (notes : BTreeSet Note) (jobs : Jobs) (periods : Periods) (f : Fact)
    → f ∈ jobs_world jobs → f ∈ stored_world days meters notes jobs periods
jobs_in_whole days meters notes jobs periods f h =
    union_left (to_jobs_of days meters notes jobs) (periods_world periods) f
    (union_right (to_notes_of days meters notes) (jobs_world jobs) f h)

pub periods_in_whole : (days : Kept) (meters : Meters) (notes : BTreeSet Note) (jobs : Jobs) (periods : Periods) (f : Fact)
    → f ∈ periods_world periods → f ∈ stored_world days meters notes jobs periods
periods_in_whole days meters notes jobs periods f h =
    union_right (to_jobs_of days meters notes jobs) (periods_world periods) f h

-- a head or a version that is kept is of the days
pub of_days : (days : Kept) (meters : Meters) (notes : BTreeSet Note) (jobs : Jobs) (periods : Periods) (stream : Stream)
    (day : ℕ) (f : Fact) → IsOn stream day f → f ∈ stored_world days meters notes jobs periods → f ∈ days_world days
of_days days meters notes jobs periods stream day f on h = elim (in_stored days meters notes jobs periods f h) [
  | inl a ↦ a
  | inr b ↦ elim b [
    | inl c ↦ let r = is_detail meters f c in absurd (detail_not_on stream day f r.0 r.1 on)
    | inr c ↦ elim c [
      | inl d ↦ let r = in_notes_list notes f d in absurd (note_not_on stream day r.0 (subst (IsOn stream day) r.2 on))
      | inr d ↦ elim d [
        | inl e ↦ let r = in_jobs jobs f e in absurd (job_not_on stream day f r.1 r.3 on)
        | inr e ↦ let r = in_periods periods f e in absurd (period_not_on stream day f r.0 r.1 r.3 on)
      ]
    ]
  ]
]

-- details that are kept are of the details
pub of_details : (days : Kept) (meters : Meters) (notes : BTreeSet Note) (jobs : Jobs) (periods : Periods) (detail : Detail)
    → DetailIs detail ∈ stored_world days meters notes jobs periods → DetailIs detail ∈ details_world meters
of_details days meters notes jobs periods detail h = elim (in_stored days meters notes jobs periods (DetailIs detail) h) [
  | inl a ↦ let r = in_days days (DetailIs detail) a in absurd (fact_on r.0.1 (DetailIs detail) r.2)
  | inr b ↦ elim b [
    | inl c ↦ c
    | inr c ↦ elim c [
      | inl d ↦ let r = in_notes_list notes (DetailIs detail) d in absurd (detail_no_note detail r.0 r.2)
      | inr d ↦ elim d [
        | inl e ↦ let r = in_jobs jobs (DetailIs detail) e in absurd (detail_no_job detail r.1 r.3)
        | inr e ↦ let r = in_periods periods (DetailIs detail) e in absurd (detail_no_period detail r.0 r.1 r.3)
      ]
    ]
  ]
]

-- a note that is kept is of the notes
pub of_notes : (days : Kept) (meters : Meters) (notes : BTreeSet Note) (jobs : Jobs) (periods : Periods) (note : Note)
    → note_fact note ∈ stored_world days meters notes jobs periods → note_fact note ∈ notes_world notes
of_notes days meters notes jobs periods note h = elim (in_stored days meters notes jobs periods (note_fact note) h) [
  | inl a ↦
      let r = in_days days (note_fact note) a in
      absurd (note_not_on r.0.1.stream r.0.1.day note (fact_on r.0.1 (note_fact note) r.2))
  | inr b ↦ elim b [
    | inl c ↦ let r = is_detail meters (note_fact note) c in absurd (detail_no_note r.0 note (sym r.1))
    | inr c ↦ elim c [
      | inl d ↦ d
      | inr d ↦ elim d [
        | inl e ↦ let r = in_jobs jobs (note_fact note) e in absurd (note_no_job note r.1 r.3)
        | inr e ↦ let r = in_periods periods (note_fact note) e in absurd (note_no_period note r.0 r.1 r.3)
      ]
    ]
  ]
]

no_note_job : (note : Note) (id : List ℕ) (content : JobContent) (count : ℕ) → JobIs id content count ≡ note_fact note → ⊥
no_note_job (Event event) id content count e = cc
no_note_job (Holiday day) id content count e = cc

-- a job that is kept is of the jobs
of_jobs : (days : Kept) (meters : Meters) (notes : BTreeSet Note) (jobs : Jobs) (periods : Periods) (id : List ℕ)
    (content : JobContent) (count : ℕ) → JobIs id content count ∈ stored_world days meters notes jobs periods
    → JobIs id content count ∈ jobs_world jobs
of_jobs days meters notes jobs periods id content count h =
    let f = JobIs id content count in
    elim (in_stored days meters notes jobs periods f h) [
      | inl a ↦ let r = in_days days f a in absurd (fact_on r.0.1 f r.2)
      | inr b ↦ elim b [
        | inl c ↦ let r = is_detail meters f c in absurd (no_detail_job r.0 id content count r.1)
        | inr c ↦ elim c [
          | inl d ↦ let r = in_notes_list notes f d in absurd (no_note_job r.0 id content count r.2)
          | inr d ↦ elim d [
            | inl e ↦ e
            | inr e ↦ let r = in_periods periods f e in absurd (job_no_period id content count r.0 r.1 r.3)
          ]
        ]
      ]
    ]

-- an accumulation that is kept is of the accumulations
pub of_periods : (days : Kept) (meters : Meters) (notes : BTreeSet Note) (jobs : Jobs) (periods : Periods) (key : PeriodKey)
    (content : PeriodContent) → PeriodIs key content ∈ stored_world days meters notes jobs periods
    → PeriodIs key content ∈ periods_world periods
of_periods days meters notes jobs periods key content h =
    let f = PeriodIs key content in
    elim (in_stored days meters notes jobs periods f h) [
      | inl a ↦ let r = in_days days f a in absurd (fact_on r.0.1 f r.2)
      | inr b ↦ elim b [
        | inl c ↦ let r = is_detail meters f c in absurd (detail_no_period r.0 key content (sym r.1))
        | inr c ↦ elim c [
          | inl d ↦ let r = in_notes_list notes f d in absurd (note_no_period r.0 key content (sym r.2))
          | inr d ↦ elim d [
            | inl e ↦ let r = in_jobs jobs f e in absurd (period_no_job key content r.1 r.3)
            | inr e ↦ e
          ]
        ]
      ]
    ]

pub both_same : (A B C : Type 0) → (B ↔ C) → (A ↔ B) → A ↔ C
both_same A B C q p = ((λ a. q.0 (p.0 a)), (λ c. p.1 (q.1 c)))

detail_same : (days : Kept) (meters : Meters) (notes : BTreeSet Note) (jobs : Jobs) (periods : Periods) (detail : Detail)
    → (DetailIs detail ∈ details_world meters) ↔ (DetailIs detail ∈ stored_world days meters notes jobs periods)
detail_same days meters notes jobs periods detail =
    (details_in_whole days meters notes jobs periods (DetailIs detail), of_details days meters notes jobs periods detail)

pub event_same : (days : Kept) (meters : Meters) (notes : BTreeSet Note) (jobs : Jobs) (periods : Periods) (event : EventValue)
    → (EventIs event ∈ notes_world notes) ↔ (EventIs event ∈ stored_world days meters notes jobs periods)
event_same days meters notes jobs periods event = (in_whole days meters notes jobs periods (EventIs event), of_notes days meters notes jobs periods (Event event))

pub day_of_all : (days : Kept) (meters : Meters) (notes : BTreeSet Note) (jobs : Jobs) (periods : Periods) (book : BookValue) → IsDay (days_world days) book
    → IsDay (stored_world days meters notes jobs periods) book
day_of_all days meters notes jobs periods book is = record {
  whole = λ f on h. is.whole f on (of_days days meters notes jobs periods book.stream book.day f on h);
  only = λ f h. days_in_whole days meters notes jobs periods f (is.only f h);
}

upto_same : (days : Kept) (meters : Meters) (notes : BTreeSet Note) (jobs : Jobs) (periods : Periods) (stream : Stream) (day : ℕ)
    (detail : Detail)
    → IsUpto (details_world meters) stream day detail ↔ IsUpto (stored_world days meters notes jobs periods) stream day detail
upto_same days meters notes jobs periods stream day detail =
    let same = detail_same days meters notes jobs periods detail in
    ((λ is. (same.0 is.0, is.1, is.2)), (λ is. (same.1 is.0, is.1, is.2)))

pub details_of_all : (days : Kept) (meters : Meters) (notes : BTreeSet Note) (jobs : Jobs) (periods : Periods) (stream : Stream)
    (day : ℕ) (details : DetailsValue) → IsCurrentDetails (details_world meters) stream day details
    → IsCurrentDetails (stored_world days meters notes jobs periods) stream day details
details_of_all days meters notes jobs periods stream day details (inl g) = inl (
  g.0,
  record {
    held = (upto_same days meters notes jobs periods stream day g.0).0 g.1.held;
    greatest = λ other is. g.1.greatest other ((upto_same days meters notes jobs periods stream day other).1 is);
  },
  g.2,
)
details_of_all days meters notes jobs periods stream day details (inr n) =
    inr ((λ other is. n.0 other ((upto_same days meters notes jobs periods stream day other).1 is)), n.1)

pub between_of_all : (days : Kept) (meters : Meters) (notes : BTreeSet Note) (jobs : Jobs) (periods : Periods) (stream : Stream)
    (first last : ℕ) (rows : List (ℕ × DetailsValue)) → AreDetailsBetween (details_world meters) stream first last rows
    → AreDetailsBetween (stored_world days meters notes jobs periods) stream first last rows
between_of_all days meters notes jobs periods stream first last rows are = record {
  each = λ row m.
      let r = are.each row m in (r.0, r.1, details_of_all days meters notes jobs periods stream row.0 row.1 r.2);
  all = λ detail h. are.all detail ((detail_same days meters notes jobs periods detail).1 h);
  ascending = are.ascending;
}

pub without_of_all : (days : Kept) (meters : Meters) (notes : BTreeSet Note) (jobs : Jobs) (periods : Periods)
    (group : DetailDays) (left : List ℕ) → AreDaysWithout (details_world meters) group left
    → AreDaysWithout (stored_world days meters notes jobs periods) group left
without_of_all days meters notes jobs periods group left are = record {
  each = λ day.
      let same = detail_same days meters notes jobs periods (detail_on group day) in (
        (λ m. let p = (are.each day).0 m in (p.0, (λ h. p.1 (same.1 h)))),
        (λ p. (are.each day).1 (p.0, (λ h. p.1 (same.0 h)))),
      );
  ascending = are.ascending;
}

pub events_of_all : (days : Kept) (meters : Meters) (notes : BTreeSet Note) (jobs : Jobs) (periods : Periods) (stream : Stream) (day : ℕ) (events : List EventValue)
    → AreEventsOf (notes_world notes) stream day events → AreEventsOf (stored_world days meters notes jobs periods) stream day events
events_of_all days meters notes jobs periods stream day events are = record {
  each = λ event. (
    (λ m. let p = (are.each event).0 m in ((event_same days meters notes jobs periods event).0 p.0, p.1)),
    (λ p. (are.each event).1 ((event_same days meters notes jobs periods event).1 p.0, p.1)),
  );
  apart = are.apart;
}

holiday_same : (days : Kept) (meters : Meters) (notes : BTreeSet Note) (jobs : Jobs) (periods : Periods) (day : ℕ)
    → (HolidayIs day ∈ notes_world notes) ↔ (HolidayIs day ∈ stored_world days meters notes jobs periods)
holiday_same days meters notes jobs periods day = (in_whole days meters notes jobs periods (HolidayIs day), of_notes days meters notes jobs periods (Holiday day))

pub holidays_of_all : (days : Kept) (meters : Meters) (notes : BTreeSet Note) (jobs : Jobs) (periods : Periods) (dates : List ℕ)
    → AreHolidays (notes_world notes) dates → AreHolidays (stored_world days meters notes jobs periods) dates
holidays_of_all days meters notes jobs periods dates are = record {
  each = λ day. both_same _ _ _ (holiday_same days meters notes jobs periods day) (are.each day);
  ascending = are.ascending;
}

pub job_of_all : (days : Kept) (meters : Meters) (notes : BTreeSet Note) (jobs : Jobs) (periods : Periods) (id : List ℕ) (kept : Option (Job × ℕ))
    → IsJobOf (jobs_world jobs) id kept → IsJobOf (stored_world days meters notes jobs periods) id kept
job_of_all days meters notes jobs periods id None is = λ content count h. is content count (of_jobs days meters notes jobs periods id content count h)
job_of_all days meters notes jobs periods id (Some job) is = (is.0, jobs_in_whole days meters notes jobs periods _ is.1)

period_same : (days : Kept) (meters : Meters) (notes : BTreeSet Note) (jobs : Jobs) (periods : Periods) (key : PeriodKey) (content : PeriodContent)
    → (PeriodIs key content ∈ periods_world periods) ↔ (PeriodIs key content ∈ stored_world days meters notes jobs periods)
period_same days meters notes jobs periods key content =
    (periods_in_whole days meters notes jobs periods (PeriodIs key content), of_periods days meters notes jobs periods key content)

pub content_of_all : (days : Kept) (meters : Meters) (notes : BTreeSet Note) (jobs : Jobs) (periods : Periods) (key : PeriodKey)
    (kept : Option PeriodContent) → IsContentOf (periods_world periods) key kept
    → IsContentOf (stored_world days meters notes jobs periods) key kept
content_of_all days meters notes jobs periods key None is = λ content h. is content ((period_same days meters notes jobs periods key content).1 h)
content_of_all days meters notes jobs periods key (Some content) is = (period_same days meters notes jobs periods key content).0 is

pub periods_of_all : (days : Kept) (meters : Meters) (notes : BTreeSet Note) (jobs : Jobs) (periods : Periods) (stream : Stream)
    (found : List Period) → ArePeriodsOf (periods_world periods) stream found
    → ArePeriodsOf (stored_world days meters notes jobs periods) stream found
periods_of_all days meters notes jobs periods stream found are = record {
  each = λ period. (
    (λ m.
        let p = (are.each period).0 m in ((period_same days meters notes jobs periods period.key period.content).0 p.0, p.1)),
    (λ p. (are.each period).1 ((period_same days meters notes jobs periods period.key period.content).1 p.0, p.1)),
  );
  ascending = are.ascending;
}

-- a day is known by the days alone
known_same : (days : Kept) (meters : Meters) (notes : BTreeSet Note) (jobs : Jobs) (periods : Periods) (stream : Stream) (day : ℕ)
    → IsKnownDay (days_world days) stream day ↔ IsKnownDay (stored_world days meters notes jobs periods) stream day
known_same days meters notes jobs periods stream day = (
  (λ k. (k.0, days_in_whole days meters notes jobs periods (HeadIs k.0) k.1, k.2, k.3)),
  (λ k. (k.0, of_days days meters notes jobs periods k.0.stream k.0.day (HeadIs k.0) (refl, refl) k.1, k.2, k.3)),
)

pub days_of_all : (days : Kept) (meters : Meters) (notes : BTreeSet Note) (jobs : Jobs) (periods : Periods) (stream : Stream) (first last : ℕ)
    (books : List BookValue) → AreDaysOf (days_world days) stream first last books
    → AreDaysOf (stored_world days meters notes jobs periods) stream first last books
days_of_all days meters notes jobs periods stream first last books are = record {
  each = λ i d l. let p = are.each i d l in (p.0, day_of_all days meters notes jobs periods _ p.1);
  known = λ day.
      let same = known_same days meters notes jobs periods stream day in (
        (λ m. let p = (are.known day).0 m in (p.0, p.1, same.0 p.2)),
        (λ p. (are.known day).1 (p.0, p.1, same.1 p.2)),
      );
  ascending = are.ascending;
}

pub last_of_all : (days : Kept) (meters : Meters) (notes : BTreeSet Note) (jobs : Jobs) (periods : Periods) (stream : Stream) (last : Option ℕ)
    → IsLastDayOf (days_world days) stream last → IsLastDayOf (stored_world days meters notes jobs periods) stream last
last_of_all days meters notes jobs periods stream None none = λ day k. none day ((known_same days meters notes jobs periods stream day).1 k)
last_of_all days meters notes jobs periods stream (Some last) is = record {
  known = (known_same days meters notes jobs periods stream last).0 is.known;
  last = λ other k. is.last other ((known_same days meters notes jobs periods stream other).1 k);
}

abbrev day_facts : Additions → List Fact
day_facts more = map HeadIs (heads_of more) ++ map version_fact (versions_of more.days.items)

abbrev detail_facts : Additions → List Fact
detail_facts more = map DetailIs (details_of more.details.items)

abbrev other_facts : Additions → List Fact
other_facts more = map EventIs more.events.items ++ map HolidayIs more.holidays.items

abbrev job_facts : Additions → List Fact
job_facts more = map job_fact more.jobs.items

abbrev period_facts : Additions → List Fact
period_facts more = map period_fact more.periods.items

abbrev to_details : Additions → List Fact
to_details more = day_facts more ++ detail_facts more

abbrev to_events : Additions → List Fact
to_events more = to_details more ++ map EventIs more.events.items

abbrev to_periods : Additions → List Fact
to_periods more = to_events more ++ period_facts more

abbrev to_holidays : Additions → List Fact
to_holidays more = to_periods more ++ map HolidayIs more.holidays.items

-- what is added is a head or a version, details, a note, a job or an accumulation
in_content : (more : Additions) (f : Fact) → f ∈ content more
    → Member f (day_facts more)
    ⊎ (Member f (detail_facts more) ⊎ (Member f (other_facts more) ⊎ (Member f (job_facts more) ⊎ Member f (period_facts more))))
in_content more f h =
    let events = map EventIs more.events.items in
    let holidays = map HolidayIs more.holidays.items in
    elim (member_append f (to_holidays more) (job_facts more) (in_list _ f h)) [
      | inr a ↦ inr (inr (inr (inl a)))
      | inl a ↦ elim (member_append f (to_periods more) holidays a) [
        | inr b ↦ inr (inr (inl (append_right f events holidays b)))
        | inl b ↦ elim (member_append f (to_events more) (period_facts more) b) [
          | inr c ↦ inr (inr (inr (inr c)))
          | inl c ↦ elim (member_append f (to_details more) events c) [
            | inr d ↦ inr (inr (inl (append_left f events holidays d)))
            | inl d ↦ elim (member_append f (day_facts more) (detail_facts more) d) [ inl e ↦ inl e | inr e ↦ inr (inl e) ]
          ]
        ]
      ]
    ]

to_holidays_told : (more : Additions) (f : Fact) → Member f (to_holidays more) → Member f (content_facts more)
to_holidays_told more f m = append_left f (to_holidays more) (job_facts more) m

to_periods_told : (more : Additions) (f : Fact) → Member f (to_periods more) → Member f (content_facts more)
to_periods_told more f m = to_holidays_told more f (append_left f (to_periods more) (map HolidayIs more.holidays.items) m)

to_details_told : (more : Additions) (f : Fact) → Member f (to_details more) → Member f (content_facts more)
to_details_told more f m =
    to_periods_told more f
    (append_left f (to_events more) (period_facts more) (append_left f (to_details more) (map EventIs more.events.items) m))

day_fact_in : (more : Additions) (f : Fact) → Member f (day_facts more) → f ∈ content more
day_fact_in more f m = list_in _ f (to_details_told more f (append_left f (day_facts more) (detail_facts more) m))

detail_fact_told : (more : Additions) (f : Fact) → Member f (detail_facts more) → Member f (content_facts more)
detail_fact_told more f m = to_details_told more f (append_right f (day_facts more) (detail_facts more) m)

other_fact_told : (more : Additions) (f : Fact) → Member f (other_facts more) → Member f (content_facts more)
other_fact_told more f m =
    let events = map EventIs more.events.items in
    let holidays = map HolidayIs more.holidays.items in
    elim (member_append f events holidays m) [
      | inl a ↦ to_periods_told more f
          (append_left f (to_events more) (period_facts more) (append_right f (to_details more) events a))
      | inr a ↦ to_holidays_told more f (append_right f (to_periods more) holidays a)
    ]

job_fact_in : (more : Additions) (f : Fact) → Member f (job_facts more) → f ∈ content more
job_fact_in more f m = list_in _ f (append_right f (to_holidays more) (job_facts more) m)

period_fact_in : (more : Additions) (f : Fact) → Member f (period_facts more) → f ∈ content more
period_fact_in more f m = list_in _ f (to_periods_told more f (append_right f (to_events more) (period_facts more) m))

other_not_on : (more : Additions) (stream : Stream) (day : ℕ) (f : Fact) → Member f (other_facts more) → IsOn stream day f → ⊥
other_not_on more stream day f m on =
    elim (member_append f (map EventIs more.events.items) (map HolidayIs more.holidays.items) m) [
      | inl a ↦ let r = in_map EventIs more.events.items f a in subst (IsOn stream day) r.2 on
      | inr a ↦ let r = in_map HolidayIs more.holidays.items f a in subst (IsOn stream day) r.2 on
    ]

-- a part that has all heads and versions is lawful where the whole is
lawful_part : (w part : World) → ((f : Fact) → f ∈ part → f ∈ w)
    → ((stream : Stream) (day : ℕ) (f : Fact) → IsOn stream day f → f ∈ w → f ∈ part) → IsLawful w → IsLawful part
lawful_part w part sub back law = record {
  agrees = agrees_within w part sub law.agrees;
  one_job = λ id a b m n x y. law.one_job id a b m n (sub _ x) (sub _ y);
  closed = record {
    headed = λ key reading x. let h = law.closed.headed key reading (sub _ x) in
        (h.0, back key.stream key.day (HeadIs (head_over key h.0)) (refl, refl) h.1, h.2, h.3);
    versioned = λ head x. let v = law.closed.versioned head (sub _ x) in (
      v.0,
      v.1,
      back head.stream head.day (VersionIs (key_under head v.0) v.1) (refl, refl) v.2,
    );
    detailed = λ detail x. let k = law.closed.detailed detail (sub _ x) in
        (k.0, back k.0.stream k.0.day (HeadIs k.0) (refl, refl) k.1, k.2, k.3);
  };
}

-- the days will be lawful where all will be
pub lawful_days : (days : Kept) (meters : Meters) (notes : BTreeSet Note) (jobs : Jobs) (periods : Periods) (more : Additions)
    → IsLawful (union (stored_world days meters notes jobs periods) (content more))
    → IsLawful (union (days_world days) (set.from_list (map HeadIs (heads_of more) ++ map version_fact (versions_of more.days.items))))
lawful_days days meters notes jobs periods more law =
    lawful_part (union (stored_world days meters notes jobs periods) (content more)) (union (days_world days) (set.from_list (day_facts more)))
    (λ f h. elim (in_union (days_world days) _ f h) [
      | inl a ↦ union_left (stored_world days meters notes jobs periods) _ f (days_in_whole days meters notes jobs periods f a)
      | inr b ↦ union_right (stored_world days meters notes jobs periods) _ f (day_fact_in more f (in_list _ f b))
    ])
    (λ stream day f on h. elim (in_union (stored_world days meters notes jobs periods) _ f h) [
      | inl a ↦ union_left (days_world days) _ f (of_days days meters notes jobs periods stream day f on a)
      | inr b ↦ elim (in_content more f b) [
        | inl c ↦ union_right (days_world days) _ f (list_in _ f c)
        | inr c ↦ elim c [
          | inl d ↦ let r = in_map DetailIs (details_of more.details.items) f d in absurd (detail_not_on stream day f r.0 r.2 on)
          | inr d ↦ elim d [
            | inl e ↦ absurd (other_not_on more stream day f e on)
            | inr e ↦ elim e [
              | inl k ↦ let r = in_map job_fact more.jobs.items f k in absurd (job_not_on stream day f r.0 r.2 on)
              | inr k ↦ let r = in_map period_fact more.periods.items f k in
                  absurd (period_not_on stream day f r.0.key r.0.content r.2 on)
            ]
          ]
        ]
      ]
    ])
    law

-- a part that is of jobs alone is lawful where the whole is
lawful_jobs_alone : (w part : World) → ((f : Fact) → f ∈ part → f ∈ w)
    → ((f : Fact) → f ∈ part → (job : Job × ℕ) × (f ≡ job_fact job)) → IsLawful w → IsLawful part
lawful_jobs_alone w part sub alone law = record {
  agrees = agrees_within w part sub law.agrees;
  one_job = λ id a b m n x y. law.one_job id a b m n (sub _ x) (sub _ y);
  closed = record {
    headed = λ key reading x. let r = alone _ x in
        absurd (job_not_on key.stream key.day (VersionIs key reading) r.0 r.1 (refl, refl));
    versioned = λ head x. let r = alone _ x in
        absurd (job_not_on head.stream head.day (HeadIs head) r.0 r.1 (refl, refl));
    detailed = λ detail x. let r = alone _ x in absurd (detail_no_job detail r.0 r.1);
  };
}

-- so the jobs will be lawful where all will be
pub lawful_jobs : (days : Kept) (meters : Meters) (notes : BTreeSet Note) (jobs : Jobs) (periods : Periods) (more : Additions)
    → IsLawful (union (stored_world days meters notes jobs periods) (content more))
    → IsLawful (union (jobs_world jobs) (set.from_list (map job_fact more.jobs.items)))
lawful_jobs days meters notes jobs periods more law =
    lawful_jobs_alone (union (stored_world days meters notes jobs periods) (content more)) (union (jobs_world jobs) (set.from_list (job_facts more)))
    (λ f h. elim (in_union (jobs_world jobs) _ f h) [
      | inl a ↦ union_left (stored_world days meters notes jobs periods) _ f (jobs_in_whole days meters notes jobs periods f a)
      | inr b ↦ union_right (stored_world days meters notes jobs periods) _ f (job_fact_in more f (in_list _ f b))
    ])
    (λ f h. elim (in_union (jobs_world jobs) _ f h) [
      | inl a ↦ let r = in_jobs jobs f a in (r.1, r.3)
      | inr b ↦ let r = in_map job_fact more.jobs.items f (in_list _ f b) in (r.0, r.2)
    ])
    law

-- the accumulations will agree where all will
pub periods_agree : (days : Kept) (meters : Meters) (notes : BTreeSet Note) (jobs : Jobs) (periods : Periods) (more : Additions)
    → IsLawful (union (stored_world days meters notes jobs periods) (content more))
    → Agrees (union (periods_world periods) (set.from_list (map period_fact more.periods.items)))
periods_agree days meters notes jobs periods more law =
    agrees_within (union (stored_world days meters notes jobs periods) (content more))
    (union (periods_world periods) (set.from_list (period_facts more)))
    (λ f h. elim (in_union (periods_world periods) _ f h) [
      | inl a ↦ union_left (stored_world days meters notes jobs periods) _ f (periods_in_whole days meters notes jobs periods f a)
      | inr b ↦ union_right (stored_world days meters notes jobs periods) _ f (period_fact_in more f (in_list _ f b))
    ])
    law.agrees

apart_left : (xs ys : List Fact) → Apart (xs ++ ys) → Apart xs
apart_left [] ys a = tt
apart_left (x ∷ xs) ys a = ((λ m. a.0 (append_left x xs ys m)), apart_left xs ys a.1)

apart_right : (xs ys : List Fact) → Apart (xs ++ ys) → Apart ys
apart_right [] ys a = a
apart_right (x ∷ xs) ys a = apart_right xs ys a.1

-- without those in the middle
apart_ends : (xs ms ys : List Fact) → Apart (xs ++ ms ++ ys) → Apart (xs ++ ys)
apart_ends [] ms ys a = apart_right ms ys a
apart_ends (x ∷ xs) ms ys a = (
  (λ m. a.0 (elim (member_append x xs ys m) [
    | inl n ↦ append_left x (xs ++ ms) ys (append_left x xs ms n)
    | inr n ↦ append_right x (xs ++ ms) ys n
  ])),
  apart_ends xs ms ys a.1,
)

append_assoc : (xs ys zs : List Fact) → xs ++ ys ++ zs ≡ xs ++ (ys ++ zs)
append_assoc [] ys zs = refl
append_assoc (x ∷ xs) ys zs = ap (λ l. x ∷ l) (append_assoc xs ys zs)

-- the days' facts and the details, and then the notes'
to_others : (more : Additions) → to_events more ++ map HolidayIs more.holidays.items ≡ to_details more ++ other_facts more
to_others more = append_assoc (to_details more) (map EventIs more.events.items) (map HolidayIs more.holidays.items)

apart_of : (xs : List Detail) → Apart (map DetailIs xs) → Apart xs
apart_of [] a = tt
apart_of (x ∷ xs) a = ((λ m. a.0 (map_in DetailIs xs x m)), apart_of xs a.1)

pub details_apart : (w : World) (more : Additions) (told : List Detail) → AreNew w more
    → told ≡ details_of more.details.items → Apart told
details_apart w more told new e =
    subst Apart (sym e) (apart_of (details_of more.details.items) (apart_right (day_facts more) (detail_facts more)
    (apart_left (to_details more) (map EventIs more.events.items)
    (apart_left (to_events more) (period_facts more)
    (apart_left (to_periods more) (map HolidayIs more.holidays.items)
    (apart_left (to_holidays more) (job_facts more) new.apart))))))

pub details_absent : (days : Kept) (meters : Meters) (notes : BTreeSet Note) (jobs : Jobs) (periods : Periods) (w : World)
    (more : Additions) (told : List Detail) → stored_world days meters notes jobs periods ≡ w → AreNew w more
    → told ≡ details_of more.details.items
    → (detail : Detail) → Member detail told → DetailIs detail ∈ details_world meters → ⊥
details_absent days meters notes jobs periods w more told is new e detail m h =
    new.absent (DetailIs detail)
    (detail_fact_told more (DetailIs detail)
    (map_in DetailIs (details_of more.details.items) detail (subst (Member detail) e m)))
    (subst (λ v. DetailIs detail ∈ v) is (details_in_whole days meters notes jobs periods (DetailIs detail) h))

pub notes_apart : (w : World) (more : Additions) (noted : List Note) → AreNew w more
    → map note_fact noted ≡ map EventIs more.events.items ++ map HolidayIs more.holidays.items → Apart (map note_fact noted)
notes_apart w more noted new e =
    subst Apart (sym e) (apart_right (to_details more) (other_facts more) (subst Apart (to_others more)
    (apart_ends (to_events more) (period_facts more) (map HolidayIs more.holidays.items)
    (apart_left (to_holidays more) (job_facts more) new.apart))))

pub notes_absent : (days : Kept) (meters : Meters) (notes : BTreeSet Note) (jobs : Jobs) (periods : Periods) (w : World)
    (more : Additions) (noted : List Note) → stored_world days meters notes jobs periods ≡ w → AreNew w more
    → map note_fact noted ≡ map EventIs more.events.items ++ map HolidayIs more.holidays.items
    → (note : Note) → Member note noted → note_fact note ∈ notes_world notes → ⊥
notes_absent days meters notes jobs periods w more noted is new e note m h =
    new.absent (note_fact note)
    (other_fact_told more (note_fact note) (subst (λ l. Member (note_fact note) l) e (map_in note_fact noted note m)))
    (subst (λ v. note_fact note ∈ v) is (in_whole days meters notes jobs periods (note_fact note) h))

-- all that is added is kept then
pub committed : (days now : Kept) (meters told_now : Meters) (notes noted_now : BTreeSet Note) (jobs jobs_now : Jobs)
    (periods periods_now : Periods) (more : Additions) (told : List Detail) (noted : List Note)
    → days_world now ≡ union (days_world days) (set.from_list (map HeadIs (heads_of more) ++ map version_fact (versions_of more.days.items)))
    → details_world told_now ≡ union (details_world meters) (set.from_list (map DetailIs told))
    → told ≡ details_of more.details.items
    → notes_world noted_now ≡ union (notes_world notes) (set.from_list (map note_fact noted))
    → map note_fact noted ≡ map EventIs more.events.items ++ map HolidayIs more.holidays.items
    → jobs_world jobs_now ≡ union (jobs_world jobs) (set.from_list (map job_fact more.jobs.items))
    → periods_world periods_now ≡ union (periods_world periods) (set.from_list (map period_fact more.periods.items))
    → stored_world now told_now noted_now jobs_now periods_now ≡ union (stored_world days meters notes jobs periods) (content more)
committed days now meters told_now notes noted_now jobs jobs_now periods periods_now more told noted d t s n e j p =
    let w : World = stored_world days meters notes jobs periods in
    let v : World = stored_world now told_now noted_now jobs_now periods_now in
    same_by _ _
    (λ f h. elim (in_stored now told_now noted_now jobs_now periods_now f h) [
      | inl a ↦ elim (in_union (days_world days) _ f (subst (λ u. f ∈ u) d a)) [
        | inl b ↦ union_left w _ f (days_in_whole days meters notes jobs periods f b)
        | inr b ↦ union_right w _ f (day_fact_in more f (in_list _ f b))
      ]
      | inr a ↦ elim a [
        | inl k ↦ elim (in_union (details_world meters) _ f (subst (λ u. f ∈ u) t k)) [
          | inl b ↦ union_left w _ f (details_in_whole days meters notes jobs periods f b)
          | inr b ↦ union_right w _ f
              (list_in _ f (detail_fact_told more f (subst (λ l. Member f (map DetailIs l)) s (in_list _ f b))))
        ]
        | inr k ↦ elim k [
          | inl l ↦ elim (in_union (notes_world notes) _ f (subst (λ u. f ∈ u) n l)) [
            | inl b ↦ union_left w _ f (in_whole days meters notes jobs periods f b)
            | inr b ↦ union_right w _ f
                (list_in _ f (other_fact_told more f (subst (λ l. Member f l) e (in_list _ f b))))
          ]
          | inr l ↦ elim l [
            | inl o ↦ elim (in_union (jobs_world jobs) _ f (subst (λ u. f ∈ u) j o)) [
              | inl b ↦ union_left w _ f (jobs_in_whole days meters notes jobs periods f b)
              | inr b ↦ union_right w _ f (job_fact_in more f (in_list _ f b))
            ]
            | inr o ↦ elim (in_union (periods_world periods) _ f (subst (λ u. f ∈ u) p o)) [
              | inl b ↦ union_left w _ f (periods_in_whole days meters notes jobs periods f b)
              | inr b ↦ union_right w _ f (period_fact_in more f (in_list _ f b))
            ]
          ]
        ]
      ]
    ])
    (λ f h.
    let of_days : f ∈ days_world now → f ∈ v = days_in_whole now told_now noted_now jobs_now periods_now f in
    let of_details : f ∈ details_world told_now → f ∈ v = details_in_whole now told_now noted_now jobs_now periods_now f in
    let of_notes : f ∈ notes_world noted_now → f ∈ v = in_whole now told_now noted_now jobs_now periods_now f in
    let of_jobs : f ∈ jobs_world jobs_now → f ∈ v = jobs_in_whole now told_now noted_now jobs_now periods_now f in
    let of_periods : f ∈ periods_world periods_now → f ∈ v =
    periods_in_whole now told_now noted_now jobs_now periods_now f in
    elim (in_union w _ f h) [
      | inl a ↦ elim (in_stored days meters notes jobs periods f a) [
        | inl b ↦ of_days (subst (λ u. f ∈ u) (sym d) (union_left (days_world days) _ f b))
        | inr k ↦ elim k [
          | inl b ↦ of_details (subst (λ u. f ∈ u) (sym t) (union_left (details_world meters) _ f b))
          | inr l ↦ elim l [
            | inl b ↦ of_notes (subst (λ u. f ∈ u) (sym n) (union_left (notes_world notes) _ f b))
            | inr o ↦ elim o [
              | inl b ↦ of_jobs (subst (λ u. f ∈ u) (sym j) (union_left (jobs_world jobs) _ f b))
              | inr b ↦ of_periods (subst (λ u. f ∈ u) (sym p) (union_left (periods_world periods) _ f b))
            ]
          ]
        ]
      ]
      | inr a ↦ elim (in_content more f a) [
        | inl b ↦ of_days (subst (λ u. f ∈ u) (sym d) (union_right (days_world days) _ f (list_in _ f b)))
        | inr k ↦ elim k [
          | inl b ↦ of_details (subst (λ u. f ∈ u) (sym t) (union_right (details_world meters) _ f
              (list_in _ f (subst (λ l. Member f (map DetailIs l)) (sym s) b))))
          | inr l ↦ elim l [
            | inl b ↦ of_notes (subst (λ u. f ∈ u) (sym n) (union_right (notes_world notes) _ f
                (list_in _ f (subst (λ l. Member f l) (sym e) b))))
            | inr o ↦ elim o [
              | inl b ↦ of_jobs (subst (λ u. f ∈ u) (sym j) (union_right (jobs_world jobs) _ f (list_in _ f b)))
              | inr b ↦ of_periods (subst (λ u. f ∈ u) (sym p) (union_right (periods_world periods) _ f (list_in _ f b)))
            ]
          ]
        ]
      ]
    ])

pub nothing_kept : (days : Kept) (meters : Meters) (notes : BTreeSet Note) (jobs : Jobs) (periods : Periods)
    → days.entries ≡ [] → meters.entries ≡ [] → notes.keys ≡ [] → jobs.entries ≡ [] → periods.entries ≡ []
    → stored_world days meters notes jobs periods ≡ set.empty
nothing_kept days meters notes jobs periods d t n j p = same_by _ _
    (λ f h. elim (in_stored days meters notes jobs periods f h) [
      | inl a ↦ let r = in_days days f a in absurd (subst (λ es. Member r.0 es) d r.1)
      | inr a ↦ elim a [
        | inl b ↦
            let r = is_detail meters f b in
            let q = in_details meters r.0 (subst (λ g. g ∈ details_world meters) r.1 b) in
            absurd (subst (λ es. Member (meter_of r.0, q.0) es) t q.1)
        | inr b ↦ elim b [
          | inl k ↦ let r = in_notes_list notes f k in absurd (subst (λ ks. Member r.0 ks) n r.1)
          | inr k ↦ elim k [
            | inl l ↦ let r = in_jobs jobs f l in absurd (subst (λ es. Member (r.0, Some r.1) es) j r.2)
            | inr l ↦ let r = in_periods periods f l in absurd (subst (λ es. Member (r.0, Some r.1) es) p r.2)
          ]
        ]
      ]
    ])
    (λ f h. absurd (not_in_empty total exact f h))

pub nothing_stored : (days : Kept) (meters : Meters) (notes : BTreeSet Note) (jobs : Jobs) (periods : Periods)
    → days.entries ≡ [] → meters.entries ≡ [] → notes.keys ≡ [] → jobs.entries ≡ [] → periods.entries ≡ []
    → IsOrdered place_cmp days → IsOrdered id_cmp jobs → IsOrdered key_cmp periods
    → IsStored days meters notes jobs periods
nothing_stored days meters notes jobs periods d t n j p o i k = record {
  lawful = subst IsLawful (sym (nothing_kept days meters notes jobs periods d t n j p)) nothing_lawful;
  theirs = record {
    theirs = λ place book m. absurd (subst (λ es. Member (place, book) es) d m);
    early = λ place book m. absurd (subst (λ es. Member (place, book) es) d m);
    ordered = o;
  };
  ids = record {
    theirs = λ id job m. absurd (subst (λ es. Member (id, Some job) es) j m);
    ordered = i;
  };
  keys = k;
}
