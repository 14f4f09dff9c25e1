-- The rows of readings, one interval after the other, and one day after the other.
use Rattle.std.proofs.Common.{◌≡◌, ◌==◌, ℕ, zero, suc, ◌+◌, ◌-◌, ◌*◌, ◌<◌, ◌≤◌, List, [], ◌∷◌, ◌++◌, codes, decimal, length, map, take, get_or, Some, refl, sym, ap, ◌∙◌, subst, inl, inr, arith, append_assoc, append-nil}
use Rattle.std.specs.Prelude.{Bool, true, false, Result, Ok, Err, OnOk, is_ok, if◌then◌else◌}
use Rattle.std.specs.Char.{is_ascii_digit}
use Rattle.std.specs.List.{list_all}
use Rattle.std.proofs.lemmas.List.{map-append, take_all, take_more}
use Rattle.csv.specs.Writing.{fields_text, is_blank}
use Rattle.mds_calendar.specs.Calendar.{day_of, moment_of}
use Rattle.mds_calendar.specs.Length.{count_of}
use Rattle.mds_calendar.proofs.Digits.{both}
use Rattle.mds_calendar.proofs.Moments.{moment_parts}
use Rattle.mds_quantity.specs.Unit.{unit_text}
use Rattle.mds_quantity.specs.declared.unit.Unit.{Unit as MeasureUnit}
use Rattle.mds_names.specs.declared.stream.Stream.{Stream}
use Rattle.mds_marks.specs.Quality.{quality_text}
use Rattle.mds_marks.specs.Reading.{ReadingValue, value_text}
use Rattle.mds_marks.specs.Reason.{code_text}
use Rattle.mds_world.specs.Current.{IsFormOf}
use Rattle.mds_world.specs.World.{IsCurrent, IsKnownDay, IsLawful, World}
use Rattle.mds_world.proofs.Forms.{one_size}
use Rattle.mds_keeper.specs.Books.{BookValue, IsDay, book_world}
use Rattle.mds_keeper.specs.LentVersions.{lent_reading}
use Rattle.mds_keeper.specs.declared.lent_version.LentVersion.{LentVersion}
use Rattle.mds_registers.specs.FieldsSteps.{Begins, IsPlain, closed}
use Rattle.mds_registers.specs.Readings.{AreDayTexts, AreIntervalRows, AreKnownDays, IsDayText, IsReadingsText, IsShown, reading_row, readings_head_text, start_text}
use Rattle.mds_registers.specs.ReadingsSteps.{AreTextsOf, row_of}
use Rattle.mds_registers.specs.declared.readings.DayTexts.{DayTexts}
use Rattle.mds_registers.proofs.BookReadings.{form_in}
use Rattle.mds_registers.proofs.PlainRows.{plain_digits, plain_field, plain_nil, plain_start, row_made}

-- what is current in a book is current in a World that has its day
shown_in : (w : World) (book : BookValue) (m i : ℕ) (reading : ReadingValue) (text : List ℕ) → IsDay w book
    → IsShown (book_world book) book.stream book.day m i reading text → IsShown w book.stream book.day m i reading text
shown_in w book m i reading text is (inl x) = inl (
  x.0,
  record {
    held = is.only _ x.1.held;
    greatest = λ other of_other h. x.1.greatest other of_other (is.whole _ (refl, refl) h);
  },
  x.2,
)
shown_in w book m i reading text is (inr x) = inr ((λ u q h. x.0 u q (is.whole _ (refl, refl) h)), x.1, x.2)

rows_in : (w : World) (book : BookValue) (date : List ℕ) (m : ℕ) (unit : MeasureUnit) (n : ℕ) (text : List ℕ) → IsDay w book
    → AreIntervalRows (book_world book) book.stream book.day date m unit n text
    → AreIntervalRows w book.stream book.day date m unit n text
rows_in w book date m unit zero text is rows = rows
rows_in w book date m unit (suc n) text is rows = (
  rows.0,
  rows.1,
  rows.2,
  rows_in w book date m unit n rows.0 is rows.3,
  shown_in w book m (suc n) rows.1 rows.2 is rows.4,
  rows.5,
)

-- the version that a book lends of an interval is shown, and nothing if it lends none
pub shown_version : (book : BookValue) (version : LentVersion) (m i : ℕ) (unit : MeasureUnit) (text : List ℕ)
    → IsLawful (book_world book) → IsFormOf (book_world book) book.stream book.day m unit
    → ((other : MeasureUnit) × IsFormOf (book_world book) book.stream book.day version.length other
    × IsCurrent (book_world book) book.stream book.day version.length i version.update (lent_reading version))
    → moment_of text ≡ Some version.update → IsShown (book_world book) book.stream book.day m i (lent_reading version) text
shown_version book version m i unit text lawful form current reads =
    let same = (one_size (book_world book) book.stream book.day version.length m current.0 unit lawful.agrees current.1 form).0 in
    inl (
      version.update,
      subst (λ k. IsCurrent (book_world book) book.stream book.day k i version.update (lent_reading version)) same current.2,
      reads,
    )

-- what is shown under an update, or under none, has a plain text for it
shown_plain : (w : World) (stream : Stream) (d m i : ℕ) (reading : ReadingValue) (text : List ℕ)
    → IsShown w stream d m i reading text → IsPlain text
shown_plain w stream d m i reading text (inl x) =
    let parts = moment_parts text x.0 x.2 in
    plain_digits text (both (length text == 14) (list_all is_ascii_digit text) parts.1.1).1
shown_plain w stream d m i reading text (inr x) = subst IsPlain (sym x.2) plain_nil

-- a row of these parts is the row of its fields
row_is : (day : DayTexts) (stream : Stream) (unit : MeasureUnit) (i : ℕ) (reading : ReadingValue) (update : List ℕ)
    → AreTextsOf day stream unit → IsPlain update → row_of day (start_text day.date ((i - 1) * day.length)) reading update
    ≡ reading_row stream day.date day.length unit i reading update
row_is day stream unit i reading update are plain =
    let start = start_text day.date ((i - 1) * day.length) in
    rw (are.front, are.middle)
    (row_made stream.nmi stream.suffix start (decimal day.length) (unit_text unit) (quality_text reading.mark.quality)
    (code_text reading.mark.reason.code) reading.mark.reason.text (value_text reading.value) update
    (plain_start day.date ((i - 1) * day.length) are.date) plain)

-- the parts of a row, appended one after the other
pub row_put : (old a b c d e new front mark v value u : List ℕ) → IsPlain value → a ≡ old ++ front → b ≡ a ++ mark → c ≡ b ++ v
    → d ≡ c ++ codes "," → e ≡ d ++ u → new ≡ e ++ codes "\n" → v ≡ value
    → new ≡ old ++ (front ++ mark ++ closed value ++ u ++ codes "\n")
row_put old a b c d e new front mark v value u plain ea eb ec ed ee en ev =
    rw (en, ee, ed, ec, eb, ea, ev, plain_field value plain) (simp append_assoc)

-- the fields of a mark likewise
pub mark_put : (old a new letters quality code text : List ℕ) → IsPlain quality → letters ≡ quality → a ≡ old ++ letters
    → new ≡ a ++ (codes "," ++ closed code ++ closed text) → new ≡ old ++ (closed quality ++ closed code ++ closed text)
mark_put old a new letters quality code text plain is ea en = rw (en, ea, is, plain_field quality plain) (simp append_assoc)

-- the rows of a day are appended as a whole
pub rows_put : {T E : Type 0} (r : Result T E) (Is : List ℕ → Type 0) (old new rows text : List ℕ)
    → new ≡ (if is_ok r then old ++ rows else old) → rows ≡ text → Is text
    → OnOk r ((all : List ℕ) × Is all × (new ≡ old ++ all))
rows_put (Ok x) Is old new rows text put same is = (text, is, put ∙ ap (λ (t : List ℕ). old ++ t) same)
rows_put (Err e) Is old new rows text put same is = tt

-- the row of the next interval
pub row_more : (w : World) (stream : Stream) (d : ℕ) (day : DayTexts) (unit : MeasureUnit) (n : ℕ) (old mid new rows : List ℕ)
    → AreTextsOf day stream unit → AreIntervalRows w stream d day.date day.length unit n rows → mid ≡ old ++ rows
    → ((reading : ReadingValue) × (update : List ℕ) × IsShown w stream d day.length (n + 1) reading update
    × (new ≡ mid ++ row_of day (start_text day.date ((n + 1 - 1) * day.length)) reading update))
    → (all : List ℕ) × AreIntervalRows w stream d day.date day.length unit (n + 1) all × (new ≡ old ++ all)
row_more w stream d day unit n old mid new rows are before so_far (reading, update, shown, put) =
    let plain = shown_plain w stream d day.length (n + 1) reading update shown in
    let row = reading_row stream day.date day.length unit (n + 1) reading update in
    let next : n + 1 ≡ suc n = omega arith in
    let all : AreIntervalRows w stream d day.date day.length unit (suc n) (rows ++ row) = (
      rows,
      reading,
      update,
      before,
      subst (λ i. IsShown w stream d day.length i reading update) next shown,
      ap (λ i. rows ++ reading_row stream day.date day.length unit i reading update) next,
    ) in (
      rows ++ row,
      subst (λ i. AreIntervalRows w stream d day.date day.length unit i (rows ++ row)) (sym next) all,
      put ∙ ap (λ t. mid ++ t) (row_is day stream unit (n + 1) reading update are plain) ∙ ap (λ t. t ++ row) so_far
          ∙ append_assoc old rows row,
    )

-- the rows of a book are those of its day
pub day_text : (w : World) (stream : Stream) (book : BookValue) (date : List ℕ) (m : ℕ) (unit : MeasureUnit) (rows : List ℕ)
    → book.stream ≡ stream → IsDay w book → day_of date ≡ Some book.day
    → IsFormOf (book_world book) book.stream book.day m unit
    → AreIntervalRows (book_world book) book.stream book.day date m unit (count_of m) rows
    → IsDayText w stream book.day rows
day_text w stream book date m unit rows same is dated form are =
    subst (λ s. IsDayText w s book.day rows) same (
      date,
      m,
      unit,
      dated,
      form_in w book m unit is form,
      rows_in w book date m unit (count_of m) rows is are,
    )

-- the rows of the next day
days_more : (w : World) (stream : Stream) (days : List ℕ) (day : ℕ) (text one : List ℕ) → AreDayTexts w stream days text
    → IsDayText w stream day one → AreDayTexts w stream (days ++ day ∷ []) (text ++ one)
days_more w stream [] day text one are is = (one, [], is, refl, ap (λ (t : List ℕ). t ++ one) are ∙ sym (append-nil one))
days_more w stream (x ∷ xs) day text one are is = (
  are.0,
  are.1 ++ one,
  are.2,
  days_more w stream xs day are.1 one are.3 is,
  ap (λ (t : List ℕ). t ++ one) are.4 ∙ append_assoc are.0 are.1 one,
)

-- the head row was appended, and then the rows of these books' days
abbrev pub HasDays : World → Stream → List BookValue → (old new : List ℕ) → Type 0
HasDays w stream books old new =
    (rest : List ℕ) × AreDayTexts w stream (map (λ book. book.day) books) rest × (new ≡ old ++ readings_head_text ++ rest)

-- the head row as it is appended
head_made : codes "nmi,suffix,start,minutes,unit,quality,code,text,value,update\n" ≡ readings_head_text
unfolding fields_text is_blank
head_made = refl

-- no day was appended yet
pub no_days : (w : World) (stream : Stream) (old new : List ℕ)
    → new ≡ old ++ codes "nmi,suffix,start,minutes,unit,quality,code,text,value,update\n" → HasDays w stream [] old new
no_days w stream old new put = ([], refl, put ∙ ap (λ t. old ++ t) head_made ∙ sym (append-nil (old ++ readings_head_text)))

-- the next day
pub has_day : (w : World) (stream : Stream) (books : List BookValue) (i : ℕ) (book : BookValue) (old mid new : List ℕ)
    → i < length books → book ≡ get_or books i book → AreKnownDays w stream books
    → (book.stream ≡ stream → IsDay w book → IsKnownDay w stream book.day
    → (text : List ℕ) × IsDayText w stream book.day text × (new ≡ mid ++ text))
    → HasDays w stream (take i books) old mid → HasDays w stream (take (i + 1) books) old new
has_day w stream books i book old mid new within here known writes has =
    let of = subst (λ (b : BookValue). (b.stream ≡ stream) × IsDay w b × IsKnownDay w stream b.day) (sym here) (known i book within) in
    let said = writes of.0 of.1 of.2 in
    let taken : take (i + 1) books ≡ take i books ++ book ∷ [] =
    take_more books i book within ∙ ap (λ (b : BookValue). take i books ++ b ∷ []) (sym here) in
    let days : map (λ (b : BookValue). b.day) (take (i + 1) books) ≡ map (λ (b : BookValue). b.day) (take i books) ++ book.day ∷ [] =
    ap (map (λ (b : BookValue). b.day)) taken ∙ map-append (λ (b : BookValue). b.day) (take i books) (book ∷ []) in (
      has.0 ++ said.0,
      subst (λ ds. AreDayTexts w stream ds (has.0 ++ said.0)) (sym days)
          (days_more w stream (map (λ (b : BookValue). b.day) (take i books)) book.day has.0 said.0 has.1 said.1),
      said.2 ∙ ap (λ (t : List ℕ). t ++ said.0) has.2 ∙ append_assoc (old ++ readings_head_text) has.0 said.0,
    )

-- all days
pub has_days : (w : World) (stream : Stream) (books : List BookValue) (i : ℕ) (old new : List ℕ) → length books ≤ i
    → HasDays w stream (take i books) old new
    → (text : List ℕ) × IsReadingsText w stream (map (λ book. book.day) books) text × (new ≡ old ++ text)
has_days w stream books i old new over has = (
  readings_head_text ++ has.0,
  (
    has.0,
    refl,
    subst (λ (bs : List BookValue). AreDayTexts w stream (map (λ (b : BookValue). b.day) bs) has.0) (take_all i books over) has.1,
  ),
  has.2 ∙ append_assoc old readings_head_text has.0,
)

-- what was there is still there after two steps, and after rows were appended or not
pub begun_more : (old mid new : List ℕ) → Begins old mid → Begins mid new → Begins old new
begun_more old mid new a b = (a.0 ++ b.0, b.1 ∙ ap (λ (t : List ℕ). t ++ b.0) a.1 ∙ append_assoc old a.0 b.0)

pub begun_by : (put : Bool) (old new rows : List ℕ) → new ≡ (if put then old ++ rows else old) → Begins old new
begun_by true old new rows e = (rows, e)
begun_by false old new rows e = ([], e ∙ sym (append-nil old))
