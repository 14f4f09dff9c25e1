-- The facts of a day's book, from its heads and its rows and back.
use Rattle.std.specs.Prelude.{◌≡◌, ◌⊎◌, ◌≤◌, ℕ, List, map, Option, Some, None, refl}
use Rattle.std.proofs.Common.{sym, ap, ◌∙◌, subst, inl, inr, arith}
use Rattle.mds_calendar.specs.Length.{count_of}
use Rattle.mds_quantity.specs.declared.unit.Unit.{Unit as MeasureUnit}
use Rattle.mds_names.specs.declared.stream.Stream.{Stream}
use Rattle.mds_marks.specs.Reading.{ReadingValue}
use Rattle.mds_world.specs.declared.facts.Head.{Head}
use Rattle.mds_world.specs.declared.facts.Key.{Key}
use Rattle.mds_world.specs.Current.{IsFormOf}
use Rattle.mds_world.specs.Facts.{Fact, head_at, key_at}
use Rattle.mds_world.specs.Facts.Fact.{HeadIs, VersionIs}
use Rattle.mds_world.proofs.Lawful.{agrees_within}
use Rattle.mds_world.proofs.Lists.{member_append, append_left, append_right, in_map, map_in}
use Rattle.mds_world.specs.Lists.{Member}
use Rattle.mds_world.proofs.Members.{in_list, list_in, same_by}
use Rattle.mds_world.specs.Sets.{◌∈◌}
use Rattle.mds_world.specs.World.{IsKnownDay, IsLawful, IsOn, World, head_over, key_under}
use Rattle.mds_keeper.specs.BookRows.{AreWithin, Fits, IsFormOfRows, Misfits, OneEach, OneLength}
use Rattle.mds_keeper.specs.Books.{BookValue, IsDay, book_facts, book_world, head_facts, row_fact, row_head}
use Rattle.mds_keeper.specs.declared.day_book.Version.{Version}
use Rattle.mds_keeper.proofs.Rows.{same_some}

-- where the fact of a book comes from
pub from_book : (book : BookValue) (f : Fact) → f ∈ book_world book
    → Member f (head_facts book.stream book.day book.unit book.rows)
    ⊎ ((row : ℕ × Version) × Member row book.rows × (f ≡ row_fact book.stream book.day row))
from_book book f h =
    elim (member_append f (head_facts book.stream book.day book.unit book.rows) (map (row_fact book.stream book.day) book.rows)
    (in_list (book_facts book) f h)) [
      | inl a ↦ inl a
      | inr b ↦ inr (in_map (row_fact book.stream book.day) book.rows f b)
    ]

-- a row is a version of the book
pub row_in_book : (book : BookValue) (row : ℕ × Version) → Member row book.rows
    → row_fact book.stream book.day row ∈ book_world book
row_in_book book row m =
    list_in (book_facts book) (row_fact book.stream book.day row)
    (append_right _ (head_facts book.stream book.day book.unit book.rows) (map (row_fact book.stream book.day) book.rows)
    (map_in (row_fact book.stream book.day) book.rows row m))

head_member : (stream : Stream) (day : ℕ) (known : Option MeasureUnit) (rows : List (ℕ × Version)) (row : ℕ × Version) → Member row rows
    → (unit : MeasureUnit) → known ≡ Some unit → Member (row_head stream day unit row) (head_facts stream day known rows)
head_member stream day None rows row m unit e = absurd cc
head_member stream day (Some other) rows row m unit e =
    let same : unit ≡ other = cc in
    subst (λ u. Member (row_head stream day u row) (map (row_head stream day other) rows)) (sym same)
    (map_in (row_head stream day other) rows row m)

-- the head of a row is a fact of the book
pub head_in_book : (book : BookValue) (row : ℕ × Version) → Member row book.rows → (unit : MeasureUnit) → book.unit ≡ Some unit
    → row_head book.stream book.day unit row ∈ book_world book
head_in_book book row m unit e =
    list_in (book_facts book) _
    (append_left _ (head_facts book.stream book.day book.unit book.rows) (map (row_fact book.stream book.day) book.rows)
    (head_member book.stream book.day book.unit book.rows row m unit e))

pub member_head : (stream : Stream) (day : ℕ) (known : Option MeasureUnit) (rows : List (ℕ × Version)) (f : Fact)
    → Member f (head_facts stream day known rows)
    → (unit : MeasureUnit) × (known ≡ Some unit) × (row : ℕ × Version) × Member row rows × (f ≡ row_head stream day unit row)
member_head stream day None rows f m = absurd m
member_head stream day (Some unit) rows f m =
    let n = in_map (row_head stream day unit) rows f m in (unit, refl, n.0, n.1, n.2)

row_of_version : (stream : Stream) (day : ℕ) (key : Key) (reading : ReadingValue) (row : ℕ × Version)
    → VersionIs key reading ≡ row_fact stream day row
    → (key.stream ≡ stream) × (key.day ≡ day)
    × (row ≡ (key.interval, record { update = key.update; length = key.length; reading = reading }))
row_of_version stream day key reading row e =
    let own : Key = key_at stream day row.1.length row.0 row.1.update in
    let same : own ≡ key = cc in
    let read : row.1.reading ≡ reading = cc in (
      ap (λ (k : Key). k.stream) (sym same),
      ap (λ (k : Key). k.day) (sym same),
      (λ i. ((same i).interval, record { update = (same i).update; length = (same i).length; reading = read i })),
    )

not_of_head : (stream : Stream) (day : ℕ) (known : Option MeasureUnit) (rows : List (ℕ × Version)) (key : Key) (reading : ReadingValue)
    → Member (VersionIs key reading) (head_facts stream day known rows) → ⊥
not_of_head stream day known rows key reading m = let n = (member_head stream day known rows _ m).4 in cc

-- a version of the book is one of its rows
pub version_of_book : (book : BookValue) (key : Key) (reading : ReadingValue) → VersionIs key reading ∈ book_world book
    → (key.stream ≡ book.stream) × (key.day ≡ book.day)
    × Member (key.interval, record { update = key.update; length = key.length; reading = reading }) book.rows
version_of_book book key reading h = elim (from_book book (VersionIs key reading) h) [
  | inl a ↦ absurd (not_of_head book.stream book.day book.unit book.rows key reading a)
  | inr b ↦
      let r = row_of_version book.stream book.day key reading b.0 b.2 in
      (r.0, r.1, subst (λ (row : ℕ × Version). Member row book.rows) r.2 b.1)
]

-- a head of the book is that of a row
pub head_of_book : (book : BookValue) (head : Head) → HeadIs head ∈ book_world book
    → (head.stream ≡ book.stream) × (head.day ≡ book.day) × (book.unit ≡ Some head.unit)
    × (row : ℕ × Version) × Member row book.rows × (row.1.length ≡ head.length) × (row.1.update ≡ head.update)
head_of_book book head h = elim (from_book book (HeadIs head) h) [
  | inl a ↦
      let m = member_head book.stream book.day book.unit book.rows (HeadIs head) a in
      parts head m.0 m.1 m.2 m.3 m.4
  | inr b ↦ absurd (not_row head b.0 b.2)
]
  where
    parts : (head : Head) (unit : MeasureUnit) → book.unit ≡ Some unit → (row : ℕ × Version) → Member row book.rows
        → HeadIs head ≡ row_head book.stream book.day unit row
        → (head.stream ≡ book.stream) × (head.day ≡ book.day) × (book.unit ≡ Some head.unit)
        × (row : ℕ × Version) × Member row book.rows × (row.1.length ≡ head.length) × (row.1.update ≡ head.update)
    parts head unit e row m f =
        let same : head ≡ head_at book.stream book.day row.1.update row.1.length unit = cc in (
          ap (λ (h : Head). h.stream) same,
          ap (λ (h : Head). h.day) same,
          e ∙ sym (ap (λ (h : Head). Some h.unit) same),
          row,
          m,
          sym (ap (λ (h : Head). h.length) same),
          sym (ap (λ (h : Head). h.update) same),
        )

    not_row : (head : Head) (row : ℕ × Version) → HeadIs head ≡ row_fact book.stream book.day row → ⊥
    not_row head row e = cc

-- the versions of the book's own day are its rows
pub row_of_book : (book : BookValue) (minutes interval update : ℕ) (reading : ReadingValue)
    → VersionIs (key_at book.stream book.day minutes interval update) reading
    ∈ book_world book
    → Member (interval, record { update = update; length = minutes; reading = reading }) book.rows
row_of_book book minutes interval update reading h = (version_of_book book _ reading h).2

-- each fact of the book is on its day
pub on_day : (book : BookValue) (f : Fact) → f ∈ book_world book → IsOn book.stream book.day f
on_day book f h = elim (from_book book f h) [
  | inl a ↦
      let m = member_head book.stream book.day book.unit book.rows f a in
      subst (IsOn book.stream book.day) (sym m.4) (refl, refl)
  | inr b ↦ subst (IsOn book.stream book.day) (sym b.2) (refl, refl)
]

-- the books of one day of a World are one World
pub same_day : (w : World) (a b : BookValue) → a.stream ≡ b.stream → a.day ≡ b.day → IsDay w a → IsDay w b
    → book_world a ≡ book_world b
same_day w a b s d is_a is_b = same_by (book_world a) (book_world b)
    (λ f h. is_b.whole f (subst (λ n. IsOn b.stream n f) d (subst (λ t. IsOn t a.day f) s (on_day a f h))) (is_a.only f h))
    (λ f h. is_a.whole f
    (subst (λ n. IsOn a.stream n f) (sym d) (subst (λ t. IsOn t b.day f) (sym s) (on_day b f h))) (is_b.only f h))

-- books of one unit whose rows have the same members are one World
pub same_rows : (a b : BookValue) → a.stream ≡ b.stream → a.day ≡ b.day → a.unit ≡ b.unit
    → ((row : ℕ × Version) → Member row a.rows → Member row b.rows)
    → ((row : ℕ × Version) → Member row b.rows → Member row a.rows)
    → book_world a ≡ book_world b
same_rows a b s d e there back = same_by (book_world a) (book_world b)
    (λ f h. within a b s d e there f h)
    (λ f h. within b a (sym s) (sym d) (sym e) back f h)
  where
    within : (a b : BookValue) → a.stream ≡ b.stream → a.day ≡ b.day → a.unit ≡ b.unit
        → ((row : ℕ × Version) → Member row a.rows → Member row b.rows)
        → (f : Fact) → f ∈ book_world a → f ∈ book_world b
    within a b s d e there f h = elim (from_book a f h) [
      | inl m ↦
          let n = member_head a.stream a.day a.unit a.rows f m in
          subst (λ g. g ∈ book_world b) (sym (n.4 ∙ (λ i. row_head (s i) (d i) n.0 n.2)))
          (head_in_book b n.2 (there n.2 n.3) n.0 (sym e ∙ n.1))
      | inr m ↦
          subst (λ g. g ∈ book_world b)
          (sym (m.2 ∙ ap (λ t. row_fact t a.day m.0) s ∙ ap (λ n. row_fact b.stream n m.0) d))
          (row_in_book b m.0 (there m.0 m.1))
    ]

-- a row of a lawful book has a unit, and is within its length
pub head_of_row : (book : BookValue) → IsLawful (book_world book) → (row : ℕ × Version) → Member row book.rows
    → (unit : MeasureUnit) × (book.unit ≡ Some unit) × (1 ≤ row.0) × (row.0 ≤ count_of row.1.length)
head_of_row book lawful row m =
    let h = lawful.closed.headed _ _ (row_in_book book row m) in
    let k = head_of_book book _ h.1 in
    (h.0, k.2, h.2, h.3)

-- a day that has a row is known
pub row_known : (book : BookValue) → IsLawful (book_world book) → (row : ℕ × Version) → Member row book.rows
    → IsKnownDay (book_world book) book.stream book.day
row_known book lawful row m =
    let h = head_of_row book lawful row m in
    (head_at book.stream book.day row.1.update row.1.length h.0, head_in_book book row m h.0 h.1, refl, refl)

-- the rows of one update of a lawful book are of one length
pub one_minutes : (book : BookValue) → IsLawful (book_world book) → OneLength book.rows
one_minutes book lawful a b m n e =
    let p = head_of_row book lawful a m in
    lawful.agrees.one_length (head_at book.stream book.day a.1.update a.1.length p.0) (head_at book.stream book.day b.1.update b.1.length p.0)
    (head_in_book book a m p.0 p.1) (head_in_book book b n p.0 p.1) refl refl e

-- the length of a row of the greatest update, with the unit, is the book's form
pub form_in_book : (book : BookValue) (form : ℕ × MeasureUnit) → IsFormOfRows (Some form) book.rows → book.unit ≡ Some form.1
    → IsFormOf (book_world book) book.stream book.day form.0 form.1
form_in_book book form (row, m, same, top) e = (
  head_at book.stream book.day row.1.update row.1.length form.1,
  record {
    held = (head_in_book book row m form.1 e, refl, refl);
    greatest = λ other h. let k = head_of_book book other h.0 in subst (λ n. n ≤ row.1.update) k.6 (top k.3 k.4);
  },
  same,
  refl,
)

-- a lawful book has one reading of an interval and update
pub one_reading : (book : BookValue) → IsLawful (book_world book) → (a b : ℕ × Version) → Member a book.rows
    → Member b book.rows → a.0 ≡ b.0 → a.1.update ≡ b.1.update → a ≡ b
one_reading book lawful a b m n e f =
    let l : a.1.length ≡ b.1.length = one_minutes book lawful a b m n f in
    let key : Key = key_at book.stream book.day b.1.length b.0 b.1.update in
    let at_b : a ≡ (b.0, record { update = b.1.update; length = b.1.length; reading = a.1.reading }) =
    λ i. (e i, record { update = f i; length = l i; reading = a.1.reading }) in
    let here = subst (λ (row : ℕ × Version). Member row book.rows) at_b m in
    let same = lawful.agrees.one_reading key a.1.reading b.1.reading
    (row_in_book book (b.0, record { update = b.1.update; length = b.1.length; reading = a.1.reading }) here) (row_in_book book b n) in
    at_b ∙ ap (λ (r : ReadingValue). (b.0, record { update = b.1.update; length = b.1.length; reading = r })) same

-- rows that fit have a unit
pub fits_row : (known : Option MeasureUnit) (rows : List (ℕ × Version)) → Fits known rows → (row : ℕ × Version) → Member row rows
    → (unit : MeasureUnit) × (known ≡ Some unit) × OneLength rows × AreWithin rows
fits_row None rows fits row m = absurd (subst (Member row) fits m)
fits_row (Some unit) rows fits row m = (unit, refl, fits.0, fits.1)

-- a book is lawful by what its rows are
pub lawful_book : (book : BookValue) → OneEach book.rows → Fits book.unit book.rows → IsLawful (book_world book)
lawful_book book each fits = record {
  agrees = record {
    one_length = λ a b h k s d u.
        let m = head_of_book book a h in
        let n = head_of_book book b k in
        let f = fits_row book.unit book.rows fits m.3 m.4 in
        sym m.5 ∙ f.2 m.3 n.3 m.4 n.4 (m.6 ∙ u ∙ sym n.6) ∙ n.5;
    one_unit = λ a b h k s d. same_some a.unit b.unit (sym (head_of_book book a h).2 ∙ (head_of_book book b k).2);
    one_reading = λ key a b h k.
        let m = version_of_book book key a h in
        let n = version_of_book book key b k in
        ap (λ (r : ℕ × Version). r.1.reading) (each _ _ m.2 n.2 refl refl);
    one_content = λ key a b h k. absurd (on_day book _ h);
  };
  one_job = λ id a b m n h k. absurd (on_day book _ h);
  closed = record {
    headed = λ key reading h.
        let m = version_of_book book key reading h in
        let f = fits_row book.unit book.rows fits _ m.2 in
        let within = f.3 _ m.2 in (
          f.0,
          subst (λ h. HeadIs h ∈ book_world book) (λ i. head_at (sym m.0 i) (sym m.1 i) key.update key.length f.0) (head_in_book book _ m.2 f.0 f.1),
          within.0,
          within.1,
        );
    versioned = λ head h.
        let m = head_of_book book head h in (
          m.3.0,
          m.3.1.reading,
          subst (λ k. VersionIs k m.3.1.reading ∈ book_world book)
              (λ i. key_at (sym m.0 i) (sym m.1 i) (m.5 i) m.3.0 (m.6 i)) (row_in_book book m.3 m.4),
        );
    detailed = λ detail h. absurd (on_day book _ h);
  };
}

-- a day of a lawful World is lawful by itself
pub lawful_day : (w : World) (book : BookValue) → IsLawful w → IsDay w book → IsLawful (book_world book)
lawful_day w book lawful day = record {
  agrees = agrees_within w (book_world book) day.only lawful.agrees;
  one_job = λ id a b m n h k. lawful.one_job id a b m n (day.only _ h) (day.only _ k);
  closed = record {
    headed = λ key reading h.
        let m = version_of_book book key reading h in
        let g = lawful.closed.headed key reading (day.only _ h) in
        (g.0, day.whole (HeadIs (head_over key g.0)) (m.0, m.1) g.1, g.2, g.3);
    versioned = λ head h.
        let m = head_of_book book head h in
        let v = lawful.closed.versioned head (day.only _ h) in
        (v.0, v.1, day.whole (VersionIs (key_under head v.0) v.1) (m.0, m.1) v.2);
    detailed = λ detail h. absurd (on_day book _ h);
  };
}

misfit : (known : Option MeasureUnit) (rows : List (ℕ × Version))
    → ((row : ℕ × Version) → Member row rows → (unit : MeasureUnit) × (known ≡ Some unit) × (1 ≤ row.0) × (row.0 ≤ count_of row.1.length))
    → OneLength rows → Misfits known rows → ⊥
misfit None rows heads one (row, m) = let f = heads row m in let e = f.1 in cc
misfit (Some unit) rows heads one (inl (a, b, m, n, e, other)) = other (one a b m n e)
misfit (Some unit) rows heads one (inr (row, m, bad)) =
    let f = heads row m in
    let low = f.2 in
    let high = f.3 in
    elim bad [ inl a ↦ omega arith | inr b ↦ omega arith ]

-- a lawful book's rows fit its unit
pub no_misfit : (book : BookValue) → IsLawful (book_world book) → Misfits book.unit book.rows → ⊥
no_misfit book lawful = misfit book.unit book.rows (head_of_row book lawful) (one_minutes book lawful)
