-- What the readers of a day's book say.
use Rattle.std.specs.Prelude.{◌≡◌, ◌≢◌, ◌↔◌, ◌⊎◌, ◌+◌, ◌-◌, ◌<◌, ◌≤◌, ℕ, max, min, List, [], ◌∷◌, length, map, Option, Some, None, IfSome, IfNone, refl}
use Rattle.std.specs.List.{AllPairs, fold, reduce, slice_get}
use Rattle.std.proofs.Common.{sym, ap, ◌∙◌, subst, inl, inr, arith, get_or, take, drop}
use Rattle.std.proofs.lemmas.Bool.{cases_lt}
use Rattle.std.proofs.lemmas.List.{get_or-take, length-take, get_or-drop, length-drop}
use Rattle.mds_calendar.specs.Length.{count_of}
use Rattle.mds_world.specs.Current.{HasNoVersion, IsDayReading, IsFormOf, IsHeadOf, IsLatest}
use Rattle.mds_world.specs.declared.facts.Head.{Head}
use Rattle.mds_names.specs.declared.stream.Stream.{Stream}
use Rattle.mds_world.specs.Facts.{head_at, key_at}
use Rattle.mds_world.specs.Facts.Fact.{VersionIs}
use Rattle.mds_world.proofs.Forms.{form_is_latest, one_size}
use Rattle.mds_world.proofs.Lists.{in_map, map_in}
use Rattle.mds_world.specs.Lists.{Member}
use Rattle.mds_world.specs.Sets.{◌∈◌}
use Rattle.mds_quantity.specs.declared.unit.Unit.{Unit as MeasureUnit}
use Rattle.mds_world.specs.World.{IsCurrent, IsKnownDay, IsLawful, World}
use Rattle.mds_keeper.specs.Books.{BookValue, book_world}
use Rattle.mds_keeper.proofs.BookFacts.{form_in_book, head_in_book, head_of_book, head_of_row, row_in_book, row_known, row_of_book}
use Rattle.mds_keeper.proofs.Rows.{member_get, row_found, same_some}
use Rattle.std.proofs.lemmas.Option.{get_or_from_slice_get, slice_get_within}
use Rattle.mds_keeper.proofs.BookPlaces.{before_end, member_at, no_row, place_of}
use Rattle.mds_keeper.specs.BookPlaces.{EndsAt, StartsAt}
use Rattle.mds_keeper.specs.BookRows.{AreVersionsOf, HasIntervalOf, IsBefore, IsFormOfRows, unit_of}
use Rattle.mds_keeper.specs.LentVersions.{lent_reading, reading_of}
use Rattle.mds_keeper.specs.declared.day_book.Version.{Version}
use Rattle.mds_keeper.specs.declared.lent_version.LentVersion.{LentVersion}

-- the greatest of a number and a list
fold_max : (a : ℕ) (xs : List ℕ) → (a ≤ fold max a xs) × ((x : ℕ) → Member x xs → x ≤ fold max a xs)
    × ((fold max a xs ≡ a) ⊎ Member (fold max a xs) xs)
fold_max a [] = (omega arith, (λ x m. absurd m), inl refl)
fold_max a (x ∷ xs) =
    let r = fold_max (max a x) xs in
    let least : max a x ≤ fold max (max a x) xs = r.0 in (
      omega arith,
      (λ y m. elim m [ inl e ↦ omega arith | inr n ↦ r.1 y n ]),
      elim r.2 [
        | inl e ↦ elim (cases_lt a x) [
          | inl h ↦ inr (inl (e ∙ (omega arith)))
          | inr h ↦ inl (e ∙ (omega arith))
        ]
        | inr m ↦ inr (inr m)
      ],
    )

pub greatest_of : (xs : List ℕ) (m : ℕ) → Some m ≡ reduce max xs → Member m xs × ((x : ℕ) → Member x xs → x ≤ m)
greatest_of [] m e = absurd cc
greatest_of (x ∷ xs) m e =
    let f : m ≡ fold max x xs = cc in
    let r = fold_max x xs in
    let least : x ≤ fold max x xs = r.0 in (
      elim r.2 [
        | inl g ↦ inl (f ∙ g)
        | inr n ↦ inr (subst (λ k. Member k xs) (sym f) n)
      ],
      (λ y n. elim n [ inl g ↦ omega arith | inr k ↦ let h = r.1 y k in omega arith ]),
    )

-- The greatest update of all versions is that of the form, and so the latest of the current ones.
pub latest_is : (book : BookValue) → IsLawful (book_world book) → (result : Option ℕ)
    → result ≡ reduce max (map (λ (row : ℕ × Version). row.1.update) book.rows)
    → IfSome result (λ update. (minutes : ℕ) (unit : MeasureUnit) → IsFormOf (book_world book) book.stream book.day minutes unit
    → IsLatest (book_world book) book.stream book.day minutes update)
latest_is book lawful None e = tt
latest_is book lawful (Some update) e = λ minutes unit form.
    let update_of : ℕ × Version → ℕ = λ row. row.1.update in
    let g = greatest_of (map update_of book.rows) update e in
    let r = in_map update_of book.rows update g.0 in
    let h = head_of_row book lawful r.0 r.1 in
    let k = head_of_book book form.0 form.1.held.0 in
    let at : update ≡ r.0.1.update = r.2 in
    let up : r.0.1.update ≤ form.0.update =
    form.1.greatest (head_at book.stream book.day r.0.1.update r.0.1.length h.0) (head_in_book book r.0 r.1 h.0 h.1, refl, refl) in
    let down : k.3.1.update ≤ update = g.1 k.3.1.update (map_in update_of book.rows k.3 k.4) in
    let of_head : k.3.1.update ≡ form.0.update = k.6 in
    let same : form.0.update ≡ update = omega arith in
    subst (λ u. IsLatest (book_world book) book.stream book.day minutes u) same
    (subst (λ n. IsLatest (book_world book) book.stream book.day n form.0.update) form.2
    (form_is_latest (book_world book) book.stream book.day form.0 lawful form.1))

-- an update is that of a row
pub latest_known : (book : BookValue) → IsLawful (book_world book) → (result : Option ℕ)
    → result ≡ reduce max (map (λ (row : ℕ × Version). row.1.update) book.rows)
    → IfSome result (λ _. IsKnownDay (book_world book) book.stream book.day)
latest_known book lawful None e = tt
latest_known book lawful (Some update) e =
    let update_of : ℕ × Version → ℕ = λ row. row.1.update in
    let r = in_map update_of book.rows update (greatest_of (map update_of book.rows) update e).0 in
    row_known book lawful r.0 r.1

none_of : (xs : List ℕ) → None ≡ reduce max xs → (x : ℕ) → Member x xs → ⊥
none_of [] e x m = m
none_of (y ∷ xs) e x m = cc

pub none_latest : (book : BookValue) → IsLawful (book_world book) → (result : Option ℕ)
    → result ≡ reduce max (map (λ (row : ℕ × Version). row.1.update) book.rows)
    → IfNone result (IsKnownDay (book_world book) book.stream book.day → ⊥)
none_latest book lawful None e = λ known.
    let h = head_of_book book known.0 known.1 in
    none_of (map (λ (row : ℕ × Version). row.1.update) book.rows) e h.3.1.update
    (map_in (λ (row : ℕ × Version). row.1.update) book.rows h.3 h.4)
none_latest book lawful (Some update) e = tt

-- the rows of an interval begin before they end
pub start_before_end : (rows : List (ℕ × Version)) (interval start end : ℕ) → StartsAt rows interval start
    → EndsAt rows interval end → start ≤ end
start_before_end rows interval start end starts ends = elim (cases_lt end start) [
  | inl a ↦
      let inside = starts.within in
      let low = starts.below end no_row a in
      let high = ends.above end no_row (omega arith) (omega arith) in
      absurd (omega arith)
  | inr b ↦ b
]

-- a place of a part of a list
at_part : (rows : List (ℕ × Version)) (start count k : ℕ) (d : ℕ × Version) → k < length (take count (drop start rows))
    → (start + k < length rows) × (k < count)
    × (get_or (take count (drop start rows)) k d ≡ get_or rows (start + k) d)
at_part rows start count k d h =
    let n : k < min count (length rows - start) = simp (length-take, length-drop) at h in
    (omega arith, omega arith, get_or-take count (drop start rows) k d (omega arith) ∙ get_or-drop start rows k d)

-- the rows from the start to the end are the versions of the interval
pub versions_between : (book : BookValue) → AllPairs IsBefore book.rows → (interval start end : ℕ)
    → StartsAt book.rows interval start → EndsAt book.rows interval end
    → AreVersionsOf (book_world book) book.stream book.day interval (take (end - start) (drop start book.rows))
versions_between book up interval start end starts ends =
    let rows : List (ℕ × Version) = book.rows in
    let inside : start ≤ end = start_before_end rows interval start end starts ends in
    let within : end ≤ length rows = ends.within in
    let here : (k : ℕ) (d : ℕ × Version) → k < length (take (end - start) (drop start rows))
    → (get_or rows (start + k) d).0 ≡ interval =
    λ k d h.
    let p = at_part rows start (end - start) k d h in
    let below = p.1 in
    let high = ends.below (start + k) d (omega arith) in
    let low = starts.from (start + k) d (omega arith) p.0 in
    omega arith in
    record {
      each = λ update minutes reading.
          let row : ℕ × Version = (interval, record { update = update; length = minutes; reading = reading }) in (
            (λ m.
                let p = place_of _ (take (end - start) (drop start rows)) m in
                let q = at_part rows start (end - start) p.0 row p.1 in
                let e = sym q.2 ∙ p.2 row in
                row_in_book book row (subst (λ r. Member r rows) e (member_at rows (start + p.0) row q.0))),
            (λ h. between rows interval start end starts ends row (row_of_book book minutes interval update reading h) refl),
          );
      here = λ k d h.
          let p = at_part rows start (end - start) k d h in
          ap (λ (r : ℕ × Version). r.0) p.2 ∙ here k d h;
      ascending = λ i j d h k.
          let p = at_part rows start (end - start) i d (omega arith) in
          let q = at_part rows start (end - start) j d k in
          let e = ap (λ (r : ℕ × Version). r.1.update) p.2 in
          let f = ap (λ (r : ℕ × Version). r.1.update) q.2 in
          let a = here i d (omega arith) in
          let b = here j d k in
          elim (up (start + i) (start + j) d (omega arith) q.0) [
            | inl g ↦ absurd (omega arith)
            | inr g ↦ let less = g.1 in omega arith
          ];
    }
  where
    between : (rows : List (ℕ × Version)) (interval start end : ℕ) → StartsAt rows interval start
        → EndsAt rows interval end → (row : ℕ × Version) → Member row rows → row.0 ≡ interval
        → Member row (take (end - start) (drop start rows))
    between rows interval start end starts ends row m same =
        let p = before_end rows interval end ends row m (omega arith) in
        let e = ap (λ (r : ℕ × Version). r.0) (p.3 row) in
        let k = p.0 in
        let below = p.1 in
        let inside = p.2 in
        let from : start ≤ k = elim (cases_lt k start) [
          | inl a ↦ let low = starts.below k row a in absurd (omega arith)
          | inr b ↦ b
        ] in
        let n : k - start < length (take (end - start) (drop start rows)) =
        simp (length-take, length-drop) (omega arith) in
        let q = at_part rows start (end - start) (k - start) row n in
        let back : start + (k - start) ≡ k = omega arith in
        subst (λ r. Member r (take (end - start) (drop start rows)))
        (q.2 ∙ ap (λ i. get_or rows i row) back ∙ p.3 row)
        (member_at (take (end - start) (drop start rows)) (k - start) row n)

-- ---- what a day shows of an interval

-- the version of an interval of a length is current, and there is none where it says none
pub record IsCurrentOf (book : BookValue) (minutes interval : ℕ) (lent : Option LentVersion) : Type 0 where
  pub some : IfSome lent (λ version. (version.length ≡ minutes)
      × IsCurrent (book_world book) book.stream book.day minutes interval version.update (lent_reading version))
  pub none : IfNone lent (HasNoVersion (book_world book) book.stream book.day minutes interval)

module _ (book : BookValue) (lawful : IsLawful (book_world book)) (minutes : ℕ) (unit : MeasureUnit)
    (form : IsFormOf (book_world book) book.stream book.day minutes unit) (interval : ℕ) where
  -- its length is that of the day
  pub shown_some : (lent : Option LentVersion) → IsCurrentOf book minutes interval lent → IfSome lent (λ version. (unit : MeasureUnit)
      × IsFormOf (book_world book) book.stream book.day version.length unit
      × IsCurrent (book_world book) book.stream book.day version.length interval version.update (lent_reading version))
  shown_some None is = tt
  shown_some (Some version) is = (
    unit,
    subst (λ n. IsFormOf (book_world book) book.stream book.day n unit) (sym is.some.0) form,
    subst (λ n. IsCurrent (book_world book) book.stream book.day n interval version.update (lent_reading version)) (sym is.some.0) is.some.1,
  )

  pub shown_none : (lent : Option LentVersion) → IsCurrentOf book minutes interval lent → IfNone lent ((size : ℕ) (other : MeasureUnit)
      → IsFormOf (book_world book) book.stream book.day size other → HasNoVersion (book_world book) book.stream book.day size interval)
  shown_none None is = λ size other too.
      let same : minutes ≡ size = (one_size (book_world book) book.stream book.day minutes size unit other lawful.agrees form too).0 in
      subst (λ n. HasNoVersion (book_world book) book.stream book.day n interval) same is.none
  shown_none (Some version) is = tt

  pub shown_reading : (lent : Option LentVersion) → IsCurrentOf book minutes interval lent
      → IsDayReading (book_world book) book.stream book.day interval (reading_of lent)
  shown_reading (Some version) is = inl (minutes, unit, form, inl (version.update, is.some.1))
  shown_reading None is = inl (minutes, unit, form, inr (is.none, refl))

-- a book without a row shows nothing
module _ (book : BookValue) (none : book.rows ≡ []) where
  pub unknown_book : IsKnownDay (book_world book) book.stream book.day → ⊥
  unknown_book known = let h = head_of_book book known.0 known.1 in subst (Member h.3) none h.4

-- a book's form
pub form_some : (book : BookValue) (form : Option (ℕ × MeasureUnit)) → IsFormOfRows form book.rows → unit_of form ≡ book.unit
    → IfSome form (λ form. IsFormOf (book_world book) book.stream book.day form.0 form.1)
form_some book None is unit = tt
form_some book (Some form) is unit = form_in_book book form is (sym unit)

pub form_none : (book : BookValue) (form : Option (ℕ × MeasureUnit)) → IsFormOfRows form book.rows
    → IfNone form (IsKnownDay (book_world book) book.stream book.day → ⊥)
form_none book None is = unknown_book book is
form_none book (Some form) is = tt

-- a head of a lawful book has the interval where a row's length has it
pub head_has : (book : BookValue) → IsLawful (book_world book) → (interval : ℕ)
    → HasIntervalOf book.rows interval ↔ ((head : Head) × IsHeadOf (book_world book) book.stream book.day head
    × (1 ≤ interval) × (interval ≤ count_of head.length))
head_has book lawful interval = (
  (λ has.
      let h = head_of_row book lawful has.0 has.1 in (
        head_at book.stream book.day has.0.1.update has.0.1.length h.0,
        (head_in_book book has.0 has.1 h.0 h.1, refl, refl),
        has.2,
        has.3,
      )),
  (λ has.
      let k = head_of_book book has.0 has.1.0 in
      (k.3, k.4, has.2, subst (λ n. interval ≤ count_of n) (sym k.5) has.3)),
)

-- ---- the last version of an interval that has a length

-- the versions from a place on have other lengths
abbrev pub AreOther : ℕ → List (ℕ × Version) → ℕ → Type 0
AreOther minutes found end = (k : ℕ) (row : ℕ × Version) → end ≤ k → slice_get found k ≡ Some row → row.1.length ≢ minutes

module _ (w : World) (stream : Stream) (day minutes interval : ℕ) (found : List (ℕ × Version)) (are : AreVersionsOf w stream day interval found)
    (end : ℕ) (other : AreOther minutes found end) where
  pub none_current : end ≡ 0 → HasNoVersion w stream day minutes interval
  none_current e update reading h =
      let m = member_get found _ ((are.each update minutes reading).1 h) in
      other m.0 _ (omega arith) m.2 refl

  module _ (at : ℕ) (row : ℕ × Version) (last : at + 1 ≡ end) (within : at < length found) (is : slice_get found at ≡ Some row) where
    pub last_current : row.1.length ≡ minutes → IsCurrent w stream day minutes interval row.1.update row.1.reading
    last_current same = record {
      held = subst (λ n. VersionIs (key_at stream day n interval row.1.update) row.1.reading ∈ w) same
          (row_found w stream day interval found are at row within (sym (get_or_from_slice_get found at row row is)) row.1.update refl);
      greatest = λ update reading h.
          let m = member_get found _ ((are.each update minutes reading).1 h) in
          elim (cases_lt m.0 at) [
            | inl below ↦
                let up = are.ascending m.0 at row below within in
                let that : ℕ × Version = (interval, record { update = update; length = minutes; reading = reading }) in
                let a : (get_or found m.0 row).1.update ≡ update =
                ap (λ (r : ℕ × Version). r.1.update) (get_or_from_slice_get found m.0 that row m.2) in
                let b = ap (λ (r : ℕ × Version). r.1.update) (get_or_from_slice_get found at row row is) in
                omega arith
            | inr above ↦ elim (cases_lt at m.0) [
              | inl behind ↦ absurd (other m.0 _ (omega arith) m.2 refl)
              | inr here ↦
                  let e : m.0 ≡ at = omega arith in
                  let one = same_some _ _ (sym m.2 ∙ ap (slice_get found) e ∙ is) in
                  let u = ap (λ (r : ℕ × Version). r.1.update) one in
                  omega arith
            ]
          ];
    }

-- nothing stands behind the end
pub none_other : (minutes : ℕ) (found : List (ℕ × Version)) → AreOther minutes found (length found)
none_other minutes found k row h is = absurd (omega (arith, h, slice_get_within found k row is))

-- one more that has another length
pub other_before : (minutes : ℕ) (found : List (ℕ × Version)) (end : ℕ) → AreOther minutes found end → (at : ℕ) (row : ℕ × Version)
    → at + 1 ≡ end → slice_get found at ≡ Some row → row.1.length ≢ minutes → AreOther minutes found at
other_before minutes found end other at row last is apart k r above got = elim (cases_lt at k) [
  | inl behind ↦ other k r (omega arith) got
  | inr here ↦
      let e : k ≡ at = omega arith in
      let one = same_some _ _ (sym got ∙ ap (slice_get found) e ∙ is) in
      λ same. apart (sym (ap (λ (x : ℕ × Version). x.1.length) one) ∙ same)
]
