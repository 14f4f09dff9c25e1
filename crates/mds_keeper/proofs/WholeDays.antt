-- A day's book that has one version of each interval, all under one update.
use Rattle.std.proofs.Common.{◌≡◌, ◌≢◌, ◌↔◌, ℕ, zero, suc, ◌+◌, ◌<◌, ◌≤◌, List, [], ◌∷◌, length, get_or, Option, Some, None, refl, sym, ap, ◌∙◌, subst, inl, inr, arith}
use Rattle.std.specs.Prelude.{cond, true, IfNone, IfSome, Ok, Err}
use Rattle.std.specs.List.{AllPairs, slice_get}
use Rattle.std.proofs.lemmas.Option.{slice_get_cases, slice_get_read}
use Rattle.mds_quantity.specs.declared.unit.Unit.{Unit as MeasureUnit}
use Rattle.mds_marks.specs.Reading.{ReadingValue}
use Rattle.mds_world.specs.Current.{HasNoVersion, IsDayReading, IsFormOf, IsLatest}
use Rattle.mds_world.specs.Facts.Fact.{VersionIs}
use Rattle.mds_world.specs.Lists.{Member}
use Rattle.mds_world.specs.Sets.{◌∈◌}
use Rattle.mds_world.specs.World.{IsCurrent, IsKnownDay, IsLawful}
use Rattle.mds_keeper.specs.Books.{BookValue, book_world}
use Rattle.mds_calendar.specs.Length.{count_of}
use Rattle.mds_keeper.specs.BookRows.{AreVersionsOf, Fits, HasIntervalOf, IsBefore, IsFormOfRows}
use Rattle.mds_keeper.specs.Claims.{Contradicts, IsFirst, IsLengthUnder, Suits, held_count, is_held, key_of}
use Rattle.mds_keeper.specs.Content.{whole_rows}
use Rattle.mds_keeper.specs.DayMergeSteps.{AreAsMany, AreHeld, AreOfLength, row_of}
use Rattle.mds_keeper.specs.KeptRows.{AreWhole}
use Rattle.mds_keeper.specs.LentVersions.{IsUnder, lent_reading}
use Rattle.mds_keeper.specs.declared.day_book.Version.{Version}
use Rattle.mds_keeper.specs.declared.lent_version.LentVersion.{LentVersion}
use Rattle.mds_keeper.proofs.BookFacts.{head_of_book, row_in_book, row_known, row_of_book}
use Rattle.mds_keeper.proofs.BookReads.{IsCurrentOf}
use Rattle.mds_keeper.proofs.Rows.{get_below, same_some}

-- ---- its rows by their places

from_whole : (minutes update i : ℕ) (rs : List ReadingValue) (row : ℕ × Version) → Member row (whole_rows minutes update i rs)
    → (k : ℕ) × (r : ReadingValue) × (slice_get rs k ≡ Some r) × (row ≡ row_of minutes (i + k) update r)
from_whole minutes update i [] row m = absurd m
from_whole minutes update i (r ∷ rs) row (inl e) =
    let z : i ≡ i + 0 = omega arith in
    (0, r, refl, e ∙ ap (λ n. row_of minutes n update r) z)
from_whole minutes update i (r ∷ rs) row (inr m) =
    let n = from_whole minutes update (i + 1) rs row m in
    let z : i + 1 + n.0 ≡ i + suc n.0 = omega arith in
    (suc n.0, n.1, n.2, n.3 ∙ ap (λ x. row_of minutes x update n.1) z)

to_whole : (minutes update i : ℕ) (rs : List ReadingValue) (k : ℕ) (r : ReadingValue) → slice_get rs k ≡ Some r
    → Member (row_of minutes (i + k) update r) (whole_rows minutes update i rs)
to_whole minutes update i [] k r e = cc
to_whole minutes update i (x ∷ rs) zero r e =
    let z : i + 0 ≡ i = omega arith in
    let s : r ≡ x = cc in
    inl (λ j. row_of minutes (z j) update (s j))
to_whole minutes update i (x ∷ rs) (suc k) r e =
    let z : i + 1 + k ≡ i + suc k = omega arith in
    inr (subst (λ n. Member (row_of minutes n update r) (whole_rows minutes update (i + 1) rs)) z (to_whole minutes update (i + 1) rs k r e))

at_whole : (minutes update i : ℕ) (rs : List ReadingValue) (k : ℕ) (d : ℕ × Version) → k < length (whole_rows minutes update i rs)
    → (get_or (whole_rows minutes update i rs) k d).0 ≡ i + k
at_whole minutes update i [] k d h = absurd (omega arith)
at_whole minutes update i (r ∷ rs) zero d h = omega arith
at_whole minutes update i (r ∷ rs) (suc k) d h = let e = at_whole minutes update (i + 1) rs k d (omega arith) in omega arith

pub whole_ascends : (minutes update : ℕ) (rs : List ReadingValue) → AllPairs IsBefore (whole_rows minutes update 1 rs)
whole_ascends minutes update rs i j d h k =
    let a = at_whole minutes update 1 rs i d (omega arith) in
    let b = at_whole minutes update 1 rs j d k in
    inl (omega arith)

-- they take no memory where there are none
pub some_whole : (minutes update : ℕ) (rs : List ReadingValue) → (length rs ≡ 0 → ⊥) → 0 < length (whole_rows minutes update 1 rs)
some_whole minutes update [] some = absurd (some refl)
some_whole minutes update (r ∷ rs) some = omega arith

-- readings of each interval of a length are rows of one length
pub fits_whole : (unit : MeasureUnit) (minutes update : ℕ) (rs : List ReadingValue) → AreWhole (Some (minutes, length rs))
    → Fits (Some unit) (whole_rows minutes update 1 rs)
fits_whole unit minutes update rs (count, some) = (
  (λ a b m n e.
      let x = from_whole minutes update 1 rs a m in
      let y = from_whole minutes update 1 rs b n in
      ap (λ (x : ℕ × Version). x.1.length) x.3 ∙ sym (ap (λ (x : ℕ × Version). x.1.length) y.3)),
  (λ row m.
      let n = from_whole minutes update 1 rs row m in
      let at = ap (λ (x : ℕ × Version). x.0) n.3 in
      let low = get_below rs n.0 n.1 n.2 in
      let l = ap (λ (x : ℕ × Version). x.1.length) n.3 in
      let high : row.0 ≤ count_of minutes = omega (arith, at, low, count) in
      (omega arith, subst (λ k. row.0 ≤ count_of k) (sym l) high)),
)

-- and that length is the form's
pub form_whole : (unit : MeasureUnit) (minutes update : ℕ) (rs : List ReadingValue) → 0 < length rs
    → IsFormOfRows (Some (minutes, unit)) (whole_rows minutes update 1 rs)
form_whole unit minutes update [] h = absurd (omega arith)
form_whole unit minutes update (r ∷ rs) h = (
  row_of minutes 1 update r,
  inl refl,
  refl,
  (λ other m.
      let n = from_whole minutes update 1 (r ∷ rs) other m in
      let u = ap (λ (x : ℕ × Version). x.1.update) n.3 in
      omega arith),
)

-- ---- what it says

module _ (b : BookValue) (minutes update : ℕ) (rs : List ReadingValue) (is : b.rows ≡ whole_rows minutes update 1 rs) where
  in_whole : (k : ℕ) (r : ReadingValue) → slice_get rs k ≡ Some r → VersionIs (key_of b minutes (k + 1) update) r ∈ book_world b
  in_whole k r e =
      let z : 1 + k ≡ k + 1 = omega arith in
      subst (λ n. VersionIs (key_of b minutes n update) r ∈ book_world b) z
      (row_in_book b (row_of minutes (1 + k) update r) (subst (Member (row_of minutes (1 + k) update r)) (sym is) (to_whole minutes update 1 rs k r e)))

  of_whole : (size interval other : ℕ) (r : ReadingValue) → VersionIs (key_of b size interval other) r ∈ book_world b
      → (other ≡ update) × (size ≡ minutes) × ((k : ℕ) × (interval ≡ k + 1) × (slice_get rs k ≡ Some r))
  of_whole size interval other r h =
      let n = from_whole minutes update 1 rs _ (subst (Member (row_of size interval other r)) is (row_of_book b size interval other r h)) in
      let at : interval ≡ 1 + n.0 = ap (λ (x : ℕ × Version). x.0) n.3 in (
        ap (λ (x : ℕ × Version). x.1.update) n.3,
        ap (λ (x : ℕ × Version). x.1.length) n.3,
        (n.0, omega arith, n.2 ∙ ap Some (sym (ap (λ (x : ℕ × Version). x.1.reading) n.3))),
      )

  -- the reading of the interval after so many
  pub under_whole : (interval k : ℕ) (r : ReadingValue) → interval ≡ k + 1 → k < length rs → r ≡ get_or rs k r
      → VersionIs (key_of b minutes interval update) r ∈ book_world b
  under_whole interval k r at h e =
      subst (λ n. VersionIs (key_of b minutes n update) r ∈ book_world b) (sym at) (in_whole k r (slice_get_read rs (length rs) k r refl h e))

  -- no other interval has one, and none is under another update
  pub none_outside : (interval : ℕ) → ((k : ℕ) → interval ≡ k + 1 → k < length rs → ⊥) → (size : ℕ) (r : ReadingValue)
      → VersionIs (key_of b size interval update) r ∈ book_world b → ⊥
  none_outside interval out size r h =
      let n = of_whole size interval update r h in
      out n.2.0 n.2.1 (get_below rs n.2.0 r n.2.2)

  pub none_other : (other : ℕ) → other ≢ update → (size interval : ℕ) (r : ReadingValue) → VersionIs (key_of b size interval other) r ∈ book_world b → ⊥
  none_other other apart size interval r h = apart (of_whole size interval other r h).0

  -- the one version of an interval is current
  current_is : (size interval of_it : ℕ) (r : ReadingValue) → of_it ≡ update → VersionIs (key_of b size interval update) r ∈ book_world b
      → IsCurrent (book_world b) b.stream b.day size interval of_it r
  current_is size interval of_it r e h = record {
    held = subst (λ u. VersionIs (key_of b size interval u) r ∈ book_world b) (sym e) h;
    greatest = λ other of_other g. let same = (of_whole size interval other of_other g).0 in omega arith;
  }

  pub current_whole : (interval : ℕ) (lent : Option LentVersion) → IsUnder b interval update lent
      → IfSome lent (λ version. IsCurrent (book_world b) b.stream b.day version.length interval version.update (lent_reading version))
  current_whole interval None u = tt
  current_whole interval (Some version) u = current_is version.length interval version.update (lent_reading version) u.some.0 u.some.1

  has_none : (interval : ℕ) → ((size : ℕ) (r : ReadingValue) → VersionIs (key_of b size interval update) r ∈ book_world b → ⊥)
      → (size : ℕ) → HasNoVersion (book_world b) b.stream b.day size interval
  has_none interval none size other r h =
      none size r (subst (λ u. VersionIs (key_of b size interval u) r ∈ book_world b) (of_whole size interval other r h).0 h)

  pub none_whole : (interval : ℕ) (lent : Option LentVersion) → IsUnder b interval update lent
      → IfNone lent ((size : ℕ) → HasNoVersion (book_world b) b.stream b.day size interval)
  none_whole interval None u = has_none interval u.none
  none_whole interval (Some version) u = tt

  -- all its rows are of its length, and so its form
  form_of_whole : (size : ℕ) (unit : MeasureUnit) → IsFormOf (book_world b) b.stream b.day size unit → minutes ≡ size
  form_of_whole size unit form =
      let h = head_of_book b form.0 form.1.held.0 in
      let n = from_whole minutes update 1 rs h.3 (subst (Member h.3) is h.4) in
      sym (ap (λ (x : ℕ × Version). x.1.length) n.3) ∙ h.5 ∙ form.2

  -- so it is what is current of the form
  pub current_of_whole : (size : ℕ) (unit : MeasureUnit) → IsFormOf (book_world b) b.stream b.day size unit
      → (interval : ℕ) (lent : Option LentVersion) → IsUnder b interval update lent → IsCurrentOf b size interval lent
  current_of_whole size unit form interval None u = record { some = tt; none = none_whole interval None u size }
  current_of_whole size unit form interval (Some version) u =
      let same : version.length ≡ size =
      (of_whole version.length interval update (lent_reading version) u.some.1).1 ∙ form_of_whole size unit form in
      record {
        some = (
          same,
          subst (λ n. IsCurrent (book_world b) b.stream b.day n interval version.update (lent_reading version)) same
              (current_whole interval (Some version) u),
        );
        none = tt;
      }

  -- its day shows the reading of each interval
  pub shown_whole : (size : ℕ) (unit : MeasureUnit) → IsFormOf (book_world b) b.stream b.day size unit → (k : ℕ) (r : ReadingValue)
      → slice_get rs k ≡ Some r → IsDayReading (book_world b) b.stream b.day (k + 1) r
  shown_whole size unit form k r e =
      let there = subst (λ n. VersionIs (key_of b n (k + 1) update) r ∈ book_world b) (form_of_whole size unit form) (in_whole k r e) in
      inl (size, unit, form, inl (update, current_is size (k + 1) update r refl there))

  -- it has just the intervals of its length
  pub whole_has : 0 < length rs → (interval : ℕ) → ((1 ≤ interval) × (interval ≤ count_of minutes)) ↔ HasIntervalOf b.rows interval
  whole_has some interval = (
    (λ in_it. at_first rs some is in_it),
    (λ has.
        let n = from_whole minutes update 1 rs has.0 (subst (Member has.0) is has.1) in
        (has.2, subst (λ l. interval ≤ count_of l) (ap (λ (x : ℕ × Version). x.1.length) n.3) has.3)),
  )
    where
      at_first : (xs : List ReadingValue) → 0 < length xs → b.rows ≡ whole_rows minutes update 1 xs
          → (1 ≤ interval) × (interval ≤ count_of minutes) → HasIntervalOf b.rows interval
      at_first [] h e in_it = absurd (omega arith)
      at_first (x ∷ xs) h e in_it =
          (row_of minutes 1 update x, subst (Member (row_of minutes 1 update x)) (sym e) (inl refl), in_it.0, in_it.1)

  -- as many as are asked of the rows of its update
  pub as_many_whole : AreWhole (Some (minutes, length rs)) → (count : ℕ) → AreAsMany b update count → length rs ≡ count
  as_many_whole whole count many =
      let n : count ≡ count_of minutes = at_first rs whole.1 is in
      whole.0 ∙ sym n
    where
      at_first : (xs : List ReadingValue) → 0 < length xs → b.rows ≡ whole_rows minutes update 1 xs → count ≡ count_of minutes
      at_first [] h e = absurd (omega arith)
      at_first (x ∷ xs) h e =
          many (row_of minutes 1 update x) (subst (Member (row_of minutes 1 update x)) (sym e) (inl refl)) refl

  -- its update is the latest
  pub latest_whole : AreWhole (Some (minutes, length rs)) → (size : ℕ) (unit : MeasureUnit)
      → IsFormOf (book_world b) b.stream b.day size unit → IsLatest (book_world b) b.stream b.day size update
  latest_whole whole size unit form = record {
    held = (
      1,
      (first rs whole.1).0,
      current_is size 1 update (first rs whole.1).0 refl
          (subst (λ n. VersionIs (key_of b n 1 update) (first rs whole.1).0 ∈ book_world b) (form_of_whole size unit form) (in_whole 0 (first rs whole.1).0 (first rs whole.1).1)),
    );
    greatest = λ interval other r c. let same = (of_whole size interval other r c.held).0 in omega arith;
  }
    where
      first : (xs : List ReadingValue) → 0 < length xs → (r : ReadingValue) × (slice_get xs 0 ≡ Some r)
      first [] h = absurd (omega arith)
      first (x ∷ xs) h = (x, refl)

  -- its day is known
  pub known_whole : AreWhole (Some (minutes, length rs)) → IsLawful (book_world b) → IsKnownDay (book_world b) b.stream b.day
  known_whole whole lawful = at_first rs whole.1 is
    where
      at_first : (xs : List ReadingValue) → 0 < length xs → b.rows ≡ whole_rows minutes update 1 xs
          → IsKnownDay (book_world b) b.stream b.day
      at_first [] h e = absurd (omega arith)
      at_first (x ∷ xs) h e =
          row_known b lawful (row_of minutes 1 update x) (subst (Member (row_of minutes 1 update x)) (sym e) (inl refl))

  -- the versions of an interval are one or none
  pub no_versions : (interval : ℕ) (rows : List (ℕ × Version)) → rows ≡ []
      → ((size : ℕ) (r : ReadingValue) → VersionIs (key_of b size interval update) r ∈ book_world b → ⊥)
      → AreVersionsOf (book_world b) b.stream b.day interval rows
  no_versions interval rows e none = subst (AreVersionsOf (book_world b) b.stream b.day interval) (sym e) (record {
    each = λ other size r. ((λ m. absurd m), (λ h. absurd (has_none interval none size other r h)));
    here = λ k d h. absurd (omega arith);
    ascending = λ i j d h k. absurd (omega arith);
  })

  pub one_version : (interval : ℕ) (r : ReadingValue) (rows : List (ℕ × Version)) → rows ≡ row_of minutes interval update r ∷ []
      → (of_it : ℕ) → VersionIs (key_of b of_it interval update) r ∈ book_world b → AreVersionsOf (book_world b) b.stream b.day interval rows
  one_version interval r rows e of_it there = subst (AreVersionsOf (book_world b) b.stream b.day interval) (sym e) (record {
    each = λ other size q. (
      (λ m. elim m [
        | inl same ↦ subst (λ (x : ℕ × Version). VersionIs (key_of b x.1.length interval x.1.update) x.1.reading ∈ book_world b) (sym same) h
        | inr none ↦ absurd none
      ]),
      (λ g.
          let n = of_whole size interval other q g in
          let m = of_whole minutes interval update r h in
          let at : n.2.0 ≡ m.2.0 = omega (arith, n.2.1, m.2.1) in
          let s : q ≡ r = same_some q r (sym n.2.2 ∙ ap (slice_get rs) at ∙ m.2.2) in
          inl (λ j. row_of (n.1 j) interval (n.0 j) (s j))),
    );
    here = λ k d h. one_here k d h;
    ascending = λ i j d h k. absurd (omega arith);
  })
    where
      h : VersionIs (key_of b minutes interval update) r ∈ book_world b
      h = subst (λ n. VersionIs (key_of b n interval update) r ∈ book_world b) (of_whole of_it interval update r there).1 there

      one_here : (k : ℕ) (d : ℕ × Version) → k < 1 → (get_or (row_of minutes interval update r ∷ []) k d).0 ≡ interval
      one_here zero d h = refl
      one_here (suc k) d h = absurd (omega arith)

  -- the length of rows of which there is one
  pub length_is : 0 < length rs → (size : ℕ) → AreOfLength b size update → minutes ≡ size
  length_is some size of_length = go rs is some
    where
      go : (xs : List ReadingValue) → b.rows ≡ whole_rows minutes update 1 xs → 0 < length xs → minutes ≡ size
      go [] e s = absurd (omega arith)
      go (x ∷ xs) e s = of_length (row_of minutes 1 update x) (subst (Member (row_of minutes 1 update x)) (sym e) (inl refl)) refl

  -- its one update has its length
  pub one_under : 0 < length rs → (other : ℕ) → update ≡ other → IsLengthUnder b other (Some minutes)
  one_under some other e = go rs is some
    where
      go : (xs : List ReadingValue) → b.rows ≡ whole_rows minutes update 1 xs → 0 < length xs → IsLengthUnder b other (Some minutes)
      go [] f s = absurd (omega arith)
      go (x ∷ xs) f s = (row_of minutes 1 update x, subst (Member (row_of minutes 1 update x)) (sym f) (inl refl), e, refl)

  pub none_under : (other : ℕ) → update ≢ other → IsLengthUnder b other None
  none_under other apart row m u =
      let n = from_whole minutes update 1 rs row (subst (Member row) is m) in
      apart (sym (ap (λ (x : ℕ × Version). x.1.update) n.3) ∙ u)

  -- ---- which of a claim's readings it has

  all_held : (i : ℕ) (xs : List ReadingValue) → ((k : ℕ) (r : ReadingValue) → slice_get xs k ≡ Some r → is_held b minutes update (i + k) r ≡ true)
      → held_count b minutes update i xs ≡ length xs
  all_held i [] each = refl
  all_held i (x ∷ xs) each =
      let z : i + 0 ≡ i = omega arith in
      let here : is_held b minutes update i x ≡ true = ap (λ n. is_held b minutes update n x) (sym z) ∙ each 0 x refl in
      let rest = all_held (i + 1) xs (λ k r e.
      let y : i + 1 + k ≡ i + suc k = omega arith in
      ap (λ n. is_held b minutes update n r) y ∙ each (suc k) r e) in
      ap (λ t. cond t 1 0 + held_count b minutes update (i + 1) xs) here ∙ (omega arith)

  module _ (readings : List ReadingValue) where
    suits_same : (k : ℕ) → slice_get rs k ≡ slice_get readings k → Suits (book_world b) b minutes update readings k
    suits_same k e mine other at h =
        let n = of_whole minutes (k + 1) update other h in
        let z : n.2.0 ≡ k = omega (arith, n.2.1) in
        same_some other mine (sym n.2.2 ∙ ap (slice_get rs) z ∙ e ∙ at)

    -- it has them all where they are its own
    pub held_same : ((k : ℕ) → slice_get rs k ≡ slice_get readings k) → (count : ℕ) → count ≡ length readings
        → AreHeld b minutes update readings (Ok count)
    held_same same count e = record {
      held = e ∙ sym (all_held 1 readings (λ k r at.
          let z : k + 1 ≡ 1 + k = omega arith in
          subst (λ n. is_held b minutes update n r ≡ true) z (in_whole k r (same k ∙ at))));
      few = omega arith;
      suits = λ k. suits_same k (same k);
      conflict = tt;
    }

    -- the first that is another one contradicts it
    pub held_first : length rs ≡ length readings → (interval : ℕ)
        → IsFirst (λ k. slice_get rs k ≢ slice_get readings k) (λ k. slice_get rs k ≡ slice_get readings k) interval
        → AreHeld b minutes update readings (Err interval)
    held_first many interval q = record {
      held = tt;
      few = tt;
      suits = tt;
      conflict = (q.0, q.1, other q.0 q.2, (λ j below. suits_same j (q.3 j below)));
    }
      where
        other : (k : ℕ) → slice_get rs k ≢ slice_get readings k → Contradicts (book_world b) b minutes update readings k
        other k apart = elim (slice_get_cases readings k).1 [
          | inl x ↦ elim (slice_get_cases rs k).1 [
            | inl y ↦ (x.0, y.0, x.2, in_whole k y.0 y.2, (λ e. apart (y.2 ∙ ap Some e ∙ sym x.2)))
            | inr y ↦ absurd (omega (arith, y.0, x.1, many))
          ]
          | inr x ↦ elim (slice_get_cases rs k).1 [
            | inl y ↦ absurd (omega (arith, y.1, x.0, many))
            | inr y ↦ absurd (apart (y.1 ∙ sym x.1))
          ]
        ]
