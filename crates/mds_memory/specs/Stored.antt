-- What a keeper in memory keeps, as a World.
use Rattle.std.specs.Prelude.{◌≡◌, ◌↔◌, ◌≤◌, ℕ, Bool, false, true, List, [], ◌∷◌, Option, Some, None, map}
use Rattle.std.specs.List.{flat_map, AllPairs}
use Rattle.std.specs.BTreeMap.{BTreeMap, IsOrdered}
use Rattle.std.specs.BTreeSet.{BTreeSet}
use Rattle.std.specs.FinSet as set
use Rattle.std.specs.Ordering.{nat_cmp, ordering_then}
use Rattle.std.specs.declared.cmp.Ordering.{Ordering}
use Rattle.std.specs.declared.cmp.Ordering.TheVariants.{Less}
use Rattle.mds_jobs.specs.contracts.job_id.JobIdOrd.TheImpl as id_ord
use Rattle.mds_jobs.specs.declared.job.Job.{Job}
use Rattle.mds_quantity.specs.declared.unit.Unit.{Unit as MeasureUnit}
use Rattle.mds_names.specs.declared.stream.Stream.{Stream}
use Rattle.mds_statements.specs.declared.periods.Period.{Period}
use Rattle.mds_statements.specs.declared.periods.PeriodKey.{PeriodKey}
use Rattle.mds_world.specs.declared.facts.Head.{Head}
use Rattle.mds_world.specs.declared.facts.StreamDay.{StreamDay}
use Rattle.mds_world.specs.Facts.{Fact, PeriodContent}
use Rattle.mds_world.specs.Facts.Fact.{HeadIs, EventIs, PeriodIs, HolidayIs}
use Rattle.mds_world.specs.Lists.{Member}
use Rattle.mds_world.specs.Sets.{◌∈◌}
use Rattle.mds_world.specs.World.{IsLawful, IsOn, World, union}
use Rattle.mds_keeper.specs.Books.{BookValue, book_facts, book_world}
use Rattle.mds_keeper.specs.Content.{job_fact}
use Rattle.mds_keeper.specs.declared.day_book.Version.{Version}
use Rattle.mds_keeper.specs.Queries.{period_cmp, stream_cmp}
use Rattle.mds_memory.specs.StoredDetails.{details_world}
use Rattle.mds_memory.specs.declared.stored_details.MeterDetails.{MeterDetails}
use Rattle.mds_memory.specs.declared.stored_notes.Note.{Note}
use Rattle.mds_memory.specs.declared.stored_notes.Note.TheVariants.{Event, Holiday}

abbrev pub note_fact : Note → Fact
note_fact (Event event) = EventIs event
note_fact (Holiday day) = HolidayIs day

abbrev pub notes_world : BTreeSet Note → World
notes_world notes = set.from_list (map note_fact notes.keys)

abbrev pub days_world : BTreeMap StreamDay BookValue → World
days_world days = set.from_list (flat_map (λ entry. book_facts entry.1) days.entries)

-- whether a day with this unit and these rows has a head
abbrev pub says_head : Option MeasureUnit → List (ℕ × Version) → Bool
says_head None rows = false
says_head (Some unit) [] = false
says_head (Some unit) (row ∷ rows) = true

-- whether a book has one
abbrev pub is_headed : BookValue → Bool
is_headed book = says_head book.unit book.rows

-- a place without a job holds no fact
abbrev pub kept_facts : Option (Job × ℕ) → List Fact
kept_facts None = []
kept_facts (Some job) = job_fact job ∷ []

abbrev pub jobs_world : BTreeMap (List ℕ) (Option (Job × ℕ)) → World
jobs_world jobs = set.from_list (flat_map (λ entry. kept_facts entry.1) jobs.entries)

-- a place without content holds no fact
abbrev pub place_facts : PeriodKey → Option PeriodContent → List Fact
place_facts key None = []
place_facts key (Some content) = PeriodIs key content ∷ []

abbrev pub periods_world : BTreeMap PeriodKey (Option PeriodContent) → World
periods_world periods = set.from_list (flat_map (λ entry. place_facts entry.0 entry.1) periods.entries)

abbrev pub stored_world : BTreeMap StreamDay BookValue → BTreeMap MeterDetails (BTreeSet ℕ) → BTreeSet Note
    → BTreeMap (List ℕ) (Option (Job × ℕ)) → BTreeMap PeriodKey (Option PeriodContent) → World
stored_world days details notes jobs periods =
    union (union (union (union (days_world days) (details_world details)) (notes_world notes)) (jobs_world jobs)) (periods_world periods)

-- by stream, and then by date
abbrev pub place_cmp : StreamDay → StreamDay → Ordering
place_cmp a b = ordering_then (stream_cmp a.stream b.stream) (nat_cmp a.day b.day)

-- the number of the last possible day, 31 December 9999
abbrev pub last_number : ℕ
last_number = 2_932_896

-- each book is under its own day, no day is after the last one, and no day comes twice
pub record AreOfTheirDays (days : BTreeMap StreamDay BookValue) : Type 0 where
  pub theirs : (place : StreamDay) (book : BookValue) → Member (place, book) days.entries
      → (book.stream ≡ place.stream) × (book.day ≡ place.day)
  pub early : (place : StreamDay) (book : BookValue) → Member (place, book) days.entries → place.day ≤ last_number
  pub ordered : IsOrdered place_cmp days

-- the order of the ids of jobs
abbrev pub id_cmp : List ℕ → List ℕ → Ordering
id_cmp = (id_ord.ghosts).cmp

-- each job is under its own id, and no id comes twice
pub record AreOfTheirIds (jobs : BTreeMap (List ℕ) (Option (Job × ℕ))) : Type 0 where
  pub theirs : (id : List ℕ) (job : Job × ℕ) → Member (id, Some job) jobs.entries → job.0.id ≡ id
  pub ordered : IsOrdered id_cmp jobs

-- by stream, and then as the accumulations of a stream are ordered
abbrev pub key_cmp : PeriodKey → PeriodKey → Ordering
key_cmp a b = ordering_then (stream_cmp a.stream b.stream) (period_cmp a b)

-- what is stored is lawful, each day is in its place, each job is under its id, and no two accumulations have one key
pub record IsStored (days : BTreeMap StreamDay BookValue) (details : BTreeMap MeterDetails (BTreeSet ℕ)) (notes : BTreeSet Note)
    (jobs : BTreeMap (List ℕ) (Option (Job × ℕ))) (periods : BTreeMap PeriodKey (Option PeriodContent)) : Type 0 where
  pub lawful : IsLawful (stored_world days details notes jobs periods)
  pub theirs : AreOfTheirDays days
  pub ids : AreOfTheirIds jobs
  pub keys : IsOrdered key_cmp periods

-- a day that gets something is changed, and a changed day has what was kept of it and what is added
pub record IsChange (w more : World) (changed : BTreeMap StreamDay BookValue) : Type 0 where
  pub each : (place : StreamDay) (book : BookValue) → Member (place, book) changed.entries
      → (f : Fact) → IsOn place.stream place.day f → (f ∈ book_world book) ↔ (f ∈ union w more)
  pub all : (f : Fact) → f ∈ more
      → (place : StreamDay) × (book : BookValue) × Member (place, book) changed.entries × IsOn place.stream place.day f

-- each changed day has a place
abbrev pub HasRoom : BTreeMap StreamDay BookValue → BTreeMap StreamDay BookValue → Type 0
HasRoom days changed =
    (place : StreamDay) (book : BookValue) → Member (place, book) changed.entries
    → (kept : BookValue) × Member (place, kept) days.entries

-- each job has a place
abbrev pub HasPlaces : BTreeMap (List ℕ) (Option (Job × ℕ)) → List (Job × ℕ) → Type 0
HasPlaces jobs more =
    (job : Job × ℕ) → Member job more → (kept : Option (Job × ℕ)) × Member (job.0.id, kept) jobs.entries

-- each accumulation has a place
abbrev pub HasKeys : BTreeMap PeriodKey (Option PeriodContent) → List Period → Type 0
HasKeys periods more =
    (period : Period) → Member period more
    → (kept : Option PeriodContent) × Member (period.key, kept) periods.entries

pub record AreHeadStreams (w : World) (streams : List Stream) : Type 0 where
  pub each : (stream : Stream) → Member stream streams ↔ ((head : Head) × (HeadIs head ∈ w) × (head.stream ≡ stream))
  pub ascending : AllPairs (λ a b. stream_cmp a b ≡ Less) streams

pub record ArePeriodStreams (w : World) (streams : List Stream) : Type 0 where
  pub each : (stream : Stream) → Member stream streams
      ↔ ((key : PeriodKey) × (content : PeriodContent) × (PeriodIs key content ∈ w) × (key.stream ≡ stream))
  pub ascending : AllPairs (λ a b. stream_cmp a b ≡ Less) streams
