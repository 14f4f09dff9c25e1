-- Whether the day of a job suits it, by the book of that day.
use Rattle.std.specs.Prelude.{◌≡◌, ◌≢◌, ℕ, Bool, true, false, List, [], ◌++◌, Option, Some, None, IfNone, IfSome, is_some}
use Rattle.std.proofs.Common.{sym, ap, subst, ◌∙◌, refl, inl, inr}
use Rattle.mds_quantity.specs.declared.unit.Unit.{Unit as MeasureUnit}
use Rattle.mds_names.specs.declared.stream.Stream.{Stream}
use Rattle.mds_world.specs.Current.{IsFormOf, IsHeadOf}
use Rattle.mds_world.specs.declared.facts.Head.{Head}
use Rattle.mds_world.specs.Facts.{head_at, key_at}
use Rattle.mds_world.specs.Facts.Fact.{HeadIs}
use Rattle.mds_world.proofs.Forms.{one_size}
use Rattle.mds_world.specs.Sets.{◌∈◌}
use Rattle.mds_world.specs.World.{IsKnownDay, IsLawful, World, head_over, key_under}
use Rattle.mds_jobs.specs.Jobs.{IsBad, content_of}
use Rattle.mds_jobs.specs.declared.job.Job.{Job}
use Rattle.mds_keeper.specs.Books.{BookValue, book_world}
use Rattle.mds_keeper.specs.Claims.{BreaksHead, IsLengthUnder, IsOther, SuitsHead, SuitsKnown}
use Rattle.mds_keeper.specs.DayMergeSteps.{first_of, further_of}
use Rattle.mds_keeper.specs.declared.refusal.RefusalCode.{RefusalCode}
use Rattle.mds_keeper.specs.declared.refusal.RefusalCode.TheVariants.{LengthConflict, UnitConflict, VersionConflict, JobReused, Protected, StaleUpdate, NoLikeDay, TooLong, NoAnchor, UnknownDay, BadJob, RangeTooWide}
use Rattle.mds_keeper.proofs.BookFacts.{row_in_book, version_of_book}
use Rattle.mds_fill.specs.Fills.{IsBookOf}
use Rattle.mds_registers.proofs.BookReadings.{form_in, form_out}
use Rattle.mds_service.specs.Substitution.{HasOtherLength, HasOtherUnit, IsJobFault, IsJobRefusal, IsNewJob, SuitsDay, head_of}
use Rattle.mds_service.specs.SubstitutionSteps.{BreaksDay, HasItsHead, new_heads}

-- ---- the book of the job's day

-- a head of the day is one of its book, and the other way
head_out : (w : World) (s : Stream) (d : ℕ) (book : BookValue) → IsBookOf w s d book → (head : Head) → IsHeadOf w s d head
    → IsHeadOf (book_world book) book.stream book.day head
head_out w s d book of head h =
    let on_stream = h.1 ∙ sym of.of_stream in
    let on_day = h.2 ∙ sym of.of_day in
    (of.facts.whole (HeadIs head) (on_stream, on_day) h.0, on_stream, on_day)

head_in : (w : World) (s : Stream) (d : ℕ) (book : BookValue) → IsBookOf w s d book → (head : Head)
    → IsHeadOf (book_world book) book.stream book.day head → IsHeadOf w s d head
head_in w s d book of head h = (of.facts.only (HeadIs head) h.0, h.1 ∙ of.of_stream, h.2 ∙ of.of_day)

-- so is its form
form_of_day : (w : World) (s : Stream) (d : ℕ) (book : BookValue) (length : ℕ) (unit : MeasureUnit) → IsBookOf w s d book
    → IsFormOf (book_world book) book.stream book.day length unit → IsFormOf w s d length unit
form_of_day w s d book length unit of form =
    subst (λ n. IsFormOf w s n length unit) of.of_day
    (subst (λ t. IsFormOf w t book.day length unit) of.of_stream (form_in w book length unit of.facts form))

form_of_book : (w : World) (s : Stream) (d : ℕ) (book : BookValue) (length : ℕ) (unit : MeasureUnit) → IsBookOf w s d book
    → IsFormOf w s d length unit → IsFormOf (book_world book) book.stream book.day length unit
form_of_book w s d book length unit of form =
    form_out w book length unit of.facts
    (subst (λ n. IsFormOf w book.stream n length unit) (sym of.of_day)
    (subst (λ t. IsFormOf w t d length unit) (sym of.of_stream) form))

-- The length under an update is that of its head, as each head has a version and each version its head.
head_under : (book : BookValue) (update length : ℕ) → IsLawful (book_world book) → IsLengthUnder book update (Some length)
    → (head : Head) × IsHeadOf (book_world book) book.stream book.day head × (head.update ≡ update) × (head.length ≡ length)
head_under book update length lawful (row, m, of_update, of_length) =
    let key = key_at book.stream book.day row.1.length row.0 row.1.update in
    let h = lawful.closed.headed key row.1.reading (row_in_book book row m) in
    (head_over key h.0, (h.1, refl, refl), of_update, of_length)

no_head_under : (book : BookValue) (update : ℕ) (head : Head) → IsLawful (book_world book) → IsLengthUnder book update None
    → IsHeadOf (book_world book) book.stream book.day head → head.update ≡ update → ⊥
no_head_under book update head lawful none h same =
    let v = lawful.closed.versioned head h.0 in
    none _ (version_of_book book (key_under head v.0) v.1 v.2).2 same

-- each head under the update has it
length_under : (book : BookValue) (update : ℕ) (under : Option ℕ) (head : Head) → IsLawful (book_world book)
    → IsLengthUnder book update under → IsHeadOf (book_world book) book.stream book.day head → head.update ≡ update
    → under ≡ Some head.length
length_under book update None head lawful is h same = absurd (no_head_under book update head lawful is h same)
length_under book update (Some length) head lawful is h same =
    let g = head_under book update length lawful is in
    let one = lawful.agrees.one_length g.0 head g.1.0 h.0 (g.1.1 ∙ sym h.1) (g.1.2 ∙ sym h.2) (g.2 ∙ sym same) in
    ap Some (sym g.3 ∙ one)

-- ---- the rules on the job's day

-- a day that isn't known suits any job
pub unknown_suits : (w : World) (job : Job) (book : BookValue) (found : Option RefusalCode) → IsBookOf w job.stream job.day book
    → (IsKnownDay (book_world book) book.stream book.day → ⊥) → IfNone found (SuitsDay w job)
unknown_suits w job book None of unknown =
    let no_head : (head : Head) → IsHeadOf w job.stream job.day head → ⊥ = λ head h.
    let g = head_out w job.stream job.day book of head h in
    unknown (head, g.0, g.1, g.2) in record {
      current = λ length unit form. absurd (no_head form.0 form.1.held);
      under = λ head h same. absurd (no_head head h);
      unit = λ head h. absurd (no_head head h);
    }
unknown_suits w job book (Some code) of unknown = tt

-- the day has another current length
pub other_current : (w : World) (job : Job) (book : BookValue) (length : ℕ) (unit : MeasureUnit)
    → IsBookOf w job.stream job.day book → IsFormOf (book_world book) book.stream book.day length unit
    → length ≢ job.length → HasOtherLength w job
other_current w job book length unit of form other =
    inl (length, unit, form_of_day w job.stream job.day book length unit of form, other)

-- What is found under the job's update, and the day's unit, of a day that has the job's length.
module _ (w : World) (job : Job) (book : BookValue) (of : IsBookOf w job.stream job.day book) (lawful : IsLawful (book_world book))
    (length : ℕ) (unit : MeasureUnit) (form : IsFormOf (book_world book) book.stream book.day length unit) (same : length ≡ job.length)
    (under : Option ℕ) (is : IsLengthUnder book job.update under) where
  -- the current length of the day
  current : (other : ℕ) (another : MeasureUnit) → IsFormOf w job.stream job.day other another → other ≡ job.length
  current other another f =
      (one_size (book_world book) book.stream book.day other length another unit lawful.agrees
      (form_of_book w job.stream job.day book other another of f) form).0 ∙ same

  -- its length under the update
  of_update : SuitsKnown under job.length → (head : Head) → IsHeadOf w job.stream job.day head → head.update ≡ job.update
      → head.length ≡ job.length
  of_update suits head h e =
      suits head.length (length_under book job.update under head lawful is (head_out w job.stream job.day book of head h) e)

  -- its unit, which all of its heads have
  of_day : (head : Head) → IsHeadOf w job.stream job.day head → head.unit ≡ unit
  of_day head h =
      let g = head_out w job.stream job.day book of head h in
      let f = form.1.held in
      lawful.agrees.one_unit head form.0 g.0 f.0 (g.1 ∙ sym f.1) (g.2 ∙ sym f.2) ∙ form.3

  -- a day without a conflict suits the job
  pub suits_day : (found : Option RefusalCode) → IfNone found (SuitsHead under (Some unit) job.length job.unit)
      → IfNone found (SuitsDay w job)
  suits_day None suits = record {
    current = current;
    under = of_update suits.0;
    unit = λ head h. of_day head h ∙ suits.1 unit refl;
  }
  suits_day (Some code) suits = tt

  no_other : SuitsKnown under job.length → HasOtherLength w job → ⊥
  no_other suits (inl (other, another, f, ne)) = ne (current other another f)
  no_other suits (inr (head, h, e, ne)) = ne (of_update suits head h e)

  other_under : IsOther under job.length → HasOtherLength w job
  other_under (other, e, ne) =
      let g = head_under book job.update other lawful (subst (IsLengthUnder book job.update) e is) in
      inr (g.0, head_in w job.stream job.day book of g.0 g.1, g.2, λ l. ne (sym g.3 ∙ l))

  other_unit : IsOther (Some unit) job.unit → HasOtherUnit w job
  other_unit (other, e, ne) =
      let it : unit ≡ other = cc in
      (form.0, head_in w job.stream job.day book of form.0 form.1.held, λ l. ne (sym (form.3 ∙ it) ∙ l))

  breaks : (code : RefusalCode) → BreaksHead under (Some unit) job.length job.unit code → BreaksDay w job code
  breaks LengthConflict it = other_under it
  breaks UnitConflict it = (no_other it.0, other_unit it.1)
  breaks VersionConflict it = absurd it
  breaks JobReused it = absurd it
  breaks Protected it = absurd it
  breaks StaleUpdate it = absurd it
  breaks NoLikeDay it = absurd it
  breaks TooLong it = absurd it
  breaks NoAnchor it = absurd it
  breaks UnknownDay it = absurd it
  breaks BadJob it = absurd it
  breaks RangeTooWide it = absurd it

  -- a conflict breaks a rule on the day
  pub breaks_day : (found : Option RefusalCode) → IfSome found (BreaksHead under (Some unit) job.length job.unit)
      → IfSome found (BreaksDay w job)
  breaks_day None it = tt
  breaks_day (Some code) it = breaks code it

-- it has it where its day has a length under the job's update
pub has_its_head : (w : World) (job : Job) (book : BookValue) (under : Option ℕ) → IsBookOf w job.stream job.day book
    → IsLawful (book_world book) → IsLengthUnder book job.update under → SuitsDay w job → HasItsHead w job (is_some under)
has_its_head w job book None of lawful is suits =
    λ h. no_head_under book job.update (head_of job) lawful is
    (head_out w job.stream job.day book of (head_of job) (h, refl, refl)) refl
has_its_head w job book (Some length) of lawful is suits =
    let g = head_under book job.update length lawful is in
    let there = head_in w job.stream job.day book of g.0 g.1 in
    let of_length = suits.under g.0 there g.2 in
    let of_unit = suits.unit g.0 there in
    let same : g.0 ≡ head_of job =
    λ i. head_at (there.1 i) (there.2 i) (g.2 i) (of_length i) (of_unit i) in
    subst (λ h. HeadIs h ∈ w) same there.0

-- a head is one of a new day where the day isn't known
module _ (w : World) (job : Job) (book : BookValue) (of : IsBookOf w job.stream job.day book) where
  known_in_book : IsKnownDay w job.stream job.day → IsKnownDay (book_world book) book.stream book.day
  known_in_book known =
      let h = head_out w job.stream job.day book of known.0 (known.1, known.2, known.3) in (known.0, h.0, h.1, h.2)

  book_in_known : IsKnownDay (book_world book) book.stream book.day → IsKnownDay w job.stream job.day
  book_in_known known =
      let h = head_in w job.stream job.day book of known.0 (known.1, known.2, known.3) in (known.0, h.0, h.1, h.2)

  both_parts : (is_new has_head : Bool)
      → first_of is_new (new_heads job has_head) ++ further_of is_new (new_heads job has_head) ≡ new_heads job has_head
  both_parts false has_head = refl
  both_parts true true = refl
  both_parts true false = refl

  no_further : (has_head : Bool) → further_of true (new_heads job has_head) ≡ []
  no_further true = refl
  no_further false = refl

  pub heads_put : (is_new has_head : Bool) (new_days heads : List Head)
      → (IsKnownDay (book_world book) book.stream book.day → is_new ≡ false)
      × ((IsKnownDay (book_world book) book.stream book.day → ⊥) → is_new ≡ true)
      → new_days ≡ first_of is_new (new_heads job has_head) → heads ≡ further_of is_new (new_heads job has_head)
      → (new_days ++ heads ≡ new_heads job has_head) × (IsKnownDay w job.stream job.day → new_days ≡ [])
      × ((IsKnownDay w job.stream job.day → ⊥) → heads ≡ [])
  heads_put is_new has_head new_days heads told first further = (
    (λ i. first i ++ further i) ∙ both_parts is_new has_head,
    λ known. first ∙ ap (λ t. first_of t (new_heads job has_head)) (told.0 (known_in_book known)),
    λ unknown.
        further ∙ ap (λ t. further_of t (new_heads job has_head)) (told.1 (λ known. unknown (book_in_known known)))
        ∙ no_further has_head,
  )

day_fault : (w : World) (job : Job) → (IsBad (content_of job) → ⊥) → IsNewJob w job → (code : RefusalCode) → BreaksDay w job code
    → IsJobFault w job code 0
day_fault w job good new LengthConflict breaks = (good, new, breaks, refl)
day_fault w job good new UnitConflict breaks = (good, new, breaks.0, breaks.1, refl)
day_fault w job good new VersionConflict breaks = absurd breaks
day_fault w job good new JobReused breaks = absurd breaks
day_fault w job good new Protected breaks = absurd breaks
day_fault w job good new StaleUpdate breaks = absurd breaks
day_fault w job good new NoLikeDay breaks = absurd breaks
day_fault w job good new TooLong breaks = absurd breaks
day_fault w job good new NoAnchor breaks = absurd breaks
day_fault w job good new UnknownDay breaks = absurd breaks
day_fault w job good new BadJob breaks = absurd breaks
day_fault w job good new RangeTooWide breaks = absurd breaks

pub day_refused : (w : World) (job : Job) → (IsBad (content_of job) → ⊥) → IsNewJob w job → (code : RefusalCode)
    → BreaksDay w job code → IsJobRefusal w job (record { code = code; line = 0; field = 0; interval = 0 })
day_refused w job good new code breaks = record { line = refl; field = refl; fault = day_fault w job good new code breaks }
