-- What the book of a day says of the World.
use Rattle.std.proofs.Common.{◌≡◌, ◌≤◌, ℕ, ℤ, Bool, true, false, Option, Some, None, refl, sym, ap, ◌∙◌, subst, inl, inr, arith}
use Rattle.std.specs.Bool.{MatchBool}
use Rattle.mds_quantity.specs.declared.unit.Unit.{Unit as MeasureUnit}
use Rattle.mds_names.specs.declared.stream.Stream.{Stream}
use Rattle.mds_marks.specs.Quality.{actual, final, null}
use Rattle.mds_marks.specs.Reading.{ReadingValue}
use Rattle.mds_world.specs.Current.{HasNoVersion, IsDayReading, IsFormOf, no_reading}
use Rattle.mds_world.specs.Facts.{Fact, JobContent, key_at}
use Rattle.mds_world.specs.Facts.Fact.{HeadIs, VersionIs}
use Rattle.mds_world.specs.Sets.{◌∈◌}
use Rattle.mds_world.specs.World.{IsCurrent, IsLawful, IsOn, World, head_over}
use Rattle.mds_world.proofs.Forms.{form_or_none, one_day_reading, one_size}
use Rattle.mds_keeper.specs.Books.{BookValue, book_world}
use Rattle.mds_fill.specs.Fills.{Finds, IsActualOrFinal, IsBookOf, IsProtected, IsStale, IsUsable}

-- what holds of a book's stream and day holds of those that it is of, and the other way
at : (P : Stream → ℕ → Type 0) (w : World) (s : Stream) (d : ℕ) (book : BookValue) → IsBookOf w s d book
    → P book.stream book.day → P s d
at P w s d book is h = subst (λ n. P s n) is.of_day (subst (λ t. P t book.day) is.of_stream h)

back : (P : Stream → ℕ → Type 0) (w : World) (s : Stream) (d : ℕ) (book : BookValue) → IsBookOf w s d book
    → P s d → P book.stream book.day
back P w s d book is h = subst (λ n. P book.stream n) (sym is.of_day) (subst (λ t. P t d) (sym is.of_stream) h)

-- Worlds that have the same facts of a day have the same form of it, and show the same readings
module _ (w v : World) (s : Stream) (d : ℕ) (there : (f : Fact) → IsOn s d f → f ∈ w → f ∈ v)
    (here : (f : Fact) → IsOn s d f → f ∈ v → f ∈ w) where
  form_there : (m : ℕ) (unit : MeasureUnit) → IsFormOf w s d m unit → IsFormOf v s d m unit
  form_there m unit (head, is, length, same) = (
    head,
    record {
      held = (there (HeadIs head) (is.held.1, is.held.2) is.held.0, is.held.1, is.held.2);
      greatest = λ other h. is.greatest other (here (HeadIs other) (h.1, h.2) h.0, h.1, h.2);
    },
    length,
    same,
  )

  shows : (i : ℕ) (r : ReadingValue) → IsDayReading w s d i r → IsDayReading v s d i r
  shows i r (inl (m, unit, form, inl (u, current))) = inl (
    m,
    unit,
    form_there m unit form,
    inl (
      u,
      record {
        held = there _ (refl, refl) current.held;
        greatest = λ other of_other h. current.greatest other of_other (here _ (refl, refl) h);
      },
    ),
  )
  shows i r (inl (m, unit, form, inr (none, bare))) =
      inl (m, unit, form_there m unit form, inr ((λ u q h. none u q (here _ (refl, refl) h)), bare))
  shows i r (inr (unknown, bare)) =
      inr ((λ k. unknown (k.0, here (HeadIs k.0) (k.2, k.3) k.1, k.2, k.3)), bare)

-- a form of the book's day is one of the World's, and the other way
form_in : (w : World) (s : Stream) (d : ℕ) (book : BookValue) (m : ℕ) (unit : MeasureUnit) → IsBookOf w s d book
    → IsFormOf (book_world book) book.stream book.day m unit → IsFormOf w s d m unit
form_in w s d book m unit is form = at (λ t n. IsFormOf w t n m unit) w s d book is
    (form_there (book_world book) w book.stream book.day (λ f on h. is.facts.only f h) is.facts.whole m unit form)

form_out : (w : World) (s : Stream) (d : ℕ) (book : BookValue) (m : ℕ) (unit : MeasureUnit) → IsBookOf w s d book
    → IsFormOf w s d m unit → IsFormOf (book_world book) book.stream book.day m unit
form_out w s d book m unit is form =
    form_there w (book_world book) book.stream book.day is.facts.whole (λ f on h. is.facts.only f h) m unit
    (back (λ t n. IsFormOf w t n m unit) w s d book is form)

-- a version of the World's day is one of the book's
version_out : (w : World) (s : Stream) (d : ℕ) (book : BookValue) (m i u : ℕ) (r : ReadingValue) → IsBookOf w s d book
    → VersionIs (key_at s d m i u) r ∈ w → VersionIs (key_at book.stream book.day m i u) r ∈ book_world book
version_out w s d book m i u r is held =
    is.facts.whole _ (refl, refl) (back (λ t n. VersionIs (key_at t n m i u) r ∈ w) w s d book is held)

-- what the book shows of an interval the World shows, and the other way
shown_in : (w : World) (s : Stream) (d : ℕ) (book : BookValue) (i : ℕ) (r : ReadingValue) → IsBookOf w s d book
    → IsDayReading (book_world book) book.stream book.day i r → IsDayReading w s d i r
shown_in w s d book i r is shown = at (λ t n. IsDayReading w t n i r) w s d book is
    (shows (book_world book) w book.stream book.day (λ f on h. is.facts.only f h) is.facts.whole i r shown)

shown_out : (w : World) (s : Stream) (d : ℕ) (book : BookValue) (i : ℕ) (r : ReadingValue) → IsBookOf w s d book
    → IsDayReading w s d i r → IsDayReading (book_world book) book.stream book.day i r
shown_out w s d book i r is shown =
    shows w (book_world book) book.stream book.day is.facts.whole (λ f on h. is.facts.only f h) i r
    (back (λ t n. IsDayReading w t n i r) w s d book is shown)

-- an equal form is one of the book too
pub same_form : (book : BookValue) (m n : ℕ) (x y : MeasureUnit) → m ≡ n → x ≡ y
    → IsFormOf (book_world book) book.stream book.day m x → IsFormOf (book_world book) book.stream book.day n y
same_form book m n x y e f (head, is, length, unit) = (head, is, length ∙ e, unit ∙ f)

-- the reading that the book shows is that of the World
same_shown : (w : World) (s : Stream) (d : ℕ) (book : BookValue) (i : ℕ) (a b : ReadingValue) → IsBookOf w s d book
    → IsLawful (book_world book) → IsDayReading (book_world book) book.stream book.day i a → IsDayReading w s d i b → a ≡ b
same_shown w s d book i a b is lawful shown other =
    one_day_reading (book_world book) book.stream book.day i a b lawful.agrees shown (shown_out w s d book i b is other)

-- bare N is neither A nor F
pub bare_is_neither : IsActualOrFinal no_reading.mark.quality.flag → ⊥
bare_is_neither (inl e) = let f : null ≡ actual = e in omega arith
bare_is_neither (inr e) = let f : null ≡ final = e in omega arith

-- whether the reading of an interval protects it
pub protects : (w : World) (s : Stream) (d : ℕ) (book : BookValue) (i : ℕ) (r : ReadingValue) (b : Bool)
    → IsBookOf w s d book → IsLawful (book_world book)
    → IsDayReading (book_world book) book.stream book.day i r
    → MatchBool b (IsActualOrFinal r.mark.quality.flag) (IsActualOrFinal r.mark.quality.flag → ⊥)
    → MatchBool b (IsProtected w s d i) (IsProtected w s d i → ⊥)
protects w s d book i r true is lawful shown flag =
    record { reading = r; shown = shown_in w s d book i r is shown; flag = flag }
protects w s d book i r false is lawful shown flag = λ p.
    let same = same_shown w s d book i r p.reading is lawful shown p.shown in
    flag (subst (λ (x : ReadingValue). IsActualOrFinal x.mark.quality.flag) (sym same) p.flag)

-- whether an interval is stale, by the update of its current version
pub stale_by : (w : World) (s : Stream) (d : ℕ) (book : BookValue) (i than m : ℕ) (unit : MeasureUnit) (u : ℕ)
    (r : ReadingValue) (b : Bool) → IsBookOf w s d book → IsLawful (book_world book)
    → IsFormOf (book_world book) book.stream book.day m unit
    → IsCurrent (book_world book) book.stream book.day m i u r → MatchBool b (than ≤ u) (than ≤ u → ⊥)
    → MatchBool b (IsStale w s d i than) (IsStale w s d i than → ⊥)
stale_by w s d book i than m unit u r true is lawful form current late = record {
  minutes = m;
  of_day = λ length x other.
      (one_size (book_world book) book.stream book.day length m x unit lawful.agrees (form_out w s d book length x is other) form).0;
  update = u;
  reading = r;
  held = at (λ t n. VersionIs (key_at t n m i u) r ∈ w) w s d book is (is.facts.only _ current.held);
  late = late;
}
stale_by w s d book i than m unit u r false is lawful form current late = λ stale.
    let same : stale.minutes ≡ m = sym (stale.of_day m unit (form_in w s d book m unit is form)) in
    let held = version_out w s d book stale.minutes i stale.update stale.reading is stale.held in
    let up : stale.update ≤ u = current.greatest stale.update stale.reading
    (subst (λ n. VersionIs (key_at book.stream book.day n i stale.update) stale.reading ∈ book_world book) same held) in
    late (omega (arith, up, stale.late))

-- and one without a version of the day's current length isn't
pub never_stale : (w : World) (s : Stream) (d : ℕ) (book : BookValue) (i than : ℕ) → IsBookOf w s d book → IsLawful (book_world book)
    → ((minutes : ℕ) (unit : MeasureUnit) → IsFormOf (book_world book) book.stream book.day minutes unit
    → HasNoVersion (book_world book) book.stream book.day minutes i) → IsStale w s d i than → ⊥
never_stale w s d book i than is lawful none stale =
    let key = key_at book.stream book.day stale.minutes i stale.update in
    let held = version_out w s d book stale.minutes i stale.update stale.reading is stale.held in
    elim (form_or_none (book_world book) book.stream book.day) [
      | inl (head, of_day) ↦
          let form : IsFormOf (book_world book) book.stream book.day head.length head.unit = (head, of_day, refl, refl) in
          let same : stale.minutes ≡ head.length = sym (stale.of_day head.length head.unit (form_in w s d book head.length head.unit is form)) in
          none head.length head.unit form stale.update stale.reading
          (subst (λ n. VersionIs (key_at book.stream book.day n i stale.update) stale.reading ∈ book_world book) same held)
      | inr unknown ↦
          let head = lawful.closed.headed key stale.reading held in
          unknown (head_over key head.0, head.1, refl, refl)
    ]

-- a day of another length or unit has no usable value
pub other_form : (w : World) (job : JobContent) (d : ℕ) (book : BookValue) (i : ℕ) → IsBookOf w job.stream d book
    → (IsFormOf (book_world book) book.stream book.day job.length job.unit → ⊥)
    → (value : ℤ) → IsUsable w job d i value → ⊥
other_form w job d book i is other value usable =
    other (form_out w job.stream d book job.length job.unit is usable.known)

-- nor has one whose reading isn't A or F
pub other_flag : (w : World) (job : JobContent) (d : ℕ) (book : BookValue) (i : ℕ) (r : ReadingValue)
    → IsBookOf w job.stream d book → IsLawful (book_world book)
    → IsDayReading (book_world book) book.stream book.day i r
    → (IsActualOrFinal r.mark.quality.flag → ⊥) → (value : ℤ) → IsUsable w job d i value → ⊥
other_flag w job d book i r is lawful shown flag value usable =
    let same = same_shown w job.stream d book i r usable.reading is lawful shown usable.shown in
    flag (subst (λ (x : ReadingValue). IsActualOrFinal x.mark.quality.flag) (sym same) usable.flag)

-- and any other has its reading's
pub usable_is : (w : World) (job : JobContent) (d : ℕ) (book : BookValue) (i : ℕ) (r : ReadingValue) (value : Option ℤ)
    → IsBookOf w job.stream d book → IsLawful (book_world book)
    → IsFormOf (book_world book) book.stream book.day job.length job.unit
    → IsDayReading (book_world book) book.stream book.day i r
    → IsActualOrFinal r.mark.quality.flag → value ≡ r.value → Finds (IsUsable w job d i) value
usable_is w job d book i r (Some value) is lawful form shown flag e = record {
  known = form_in w job.stream d book job.length job.unit is form;
  reading = r;
  shown = shown_in w job.stream d book i r is shown;
  flag = flag;
  same = sym e;
}
usable_is w job d book i r None is lawful form shown flag e = λ value usable.
    let same = same_shown w job.stream d book i r usable.reading is lawful shown usable.shown in
    let none : ◌≡◌ {A = Option ℤ} None (Some value) = e ∙ ap (λ (x : ReadingValue). x.value) same ∙ usable.same in
    cc
