-- A walk down the rows of a book, side by side with the readings of a claim.
use Rattle.std.proofs.Common.{◌≡◌, ◌≢◌, ℕ, suc, ◌+◌, ◌<◌, ◌≤◌, List, [], ◌∷◌, ◌++◌, ◌-◌, length, take, take_all, drop, get_or, Some, refl, sym, ap, ◌∙◌, subst, inl, inr, arith, drop-cons, length-append}
use Rattle.std.specs.Prelude.{Bool, true, false, cond, Ok, Err, IsTrue, ◌↔◌}
use Rattle.std.specs.List.{AllPairs, slice_get}
use Rattle.std.proofs.lemmas.Bool.{cases_lt}
use Rattle.std.proofs.lemmas.List.{drop_all}
use Rattle.std.proofs.lemmas.Option.{slice_get_cases, slice_get_within}
use Rattle.mds_marks.specs.Reading.{ReadingValue}
use Rattle.mds_world.specs.Facts.Fact.{VersionIs}
use Rattle.mds_world.specs.Lists.{Member}
use Rattle.mds_world.specs.Sets.{◌∈◌}
use Rattle.mds_world.specs.World.{Agrees, IsLawful}
use Rattle.mds_keeper.specs.Books.{BookValue, book_world}
use Rattle.mds_keeper.specs.BookRows.{IsBefore}
use Rattle.mds_keeper.specs.ClaimedUpdates.{ComesBeside}
use Rattle.mds_keeper.specs.Claims.{Entry, Suits, fresh_all, fresh_versions, held_all, held_count, is_held, key_of}
use Rattle.mds_keeper.specs.DayMergeSteps.{AreCounts, AreHeld, AreOfLength, IsFrom, claimed_entries, claimed_readings, row_of}
use Rattle.mds_keeper.specs.declared.claimed.ClaimedReadings.{ClaimedReadings}
use Rattle.mds_keeper.specs.declared.day_book.Version.{Version}
use Rattle.mds_keeper.proofs.BookFacts.{one_minutes, row_in_book, row_of_book}
use Rattle.mds_keeper.proofs.BookPlaces.{place_of}
use Rattle.mds_keeper.proofs.Rows.{same_some}

-- ---- rows from an interval on

tail_up : (row : ℕ × Version) (rest : List (ℕ × Version)) → AllPairs IsBefore (row ∷ rest) → AllPairs IsBefore rest
tail_up row rest up i j d h k = up (suc i) (suc j) d (omega arith) (omega arith)

head_up : (row : ℕ × Version) (rest : List (ℕ × Version)) → AllPairs IsBefore (row ∷ rest) → (later : ℕ × Version)
    → Member later rest → row.0 ≤ later.0
head_up row rest up later m =
    let p = place_of later rest m in
    let e = ap (λ (r : ℕ × Version). r.0) (p.2 row) in
    elim (up 0 (suc p.0) row (omega arith) (omega (arith, p.1))) [ inl a ↦ omega arith | inr b ↦ let f = b.0 in omega arith ]

-- the first of a list that isn't empty, and the rest
pub first_and_rest : {X : Type 0} (xs : List X) (x : X) → 1 ≤ length xs → x ≡ get_or xs 0 x → xs ≡ x ∷ take (length xs - 1) (drop 1 xs)
first_and_rest [] x h e = absurd (omega arith)
first_and_rest (y ∷ ys) x h e =
    let n : suc (length ys) - 1 ≡ length ys = omega arith in
    λ i. sym e i ∷ (sym (take_all (length ys) ys (omega arith)) ∙ ap (λ k. take k ys) (sym n)) i

pub none_left : {X : Type 0} (xs : List X) → length xs < 1 → xs ≡ []
none_left [] h = refl
none_left (x ∷ xs) h = absurd (omega arith)

-- what is left while rows are passed over
pub record Passes (rows : List (ℕ × Version)) (interval : ℕ) (left : List (ℕ × Version)) : Type 0 where
  pub ascending : AllPairs IsBefore left
  pub whole : (row : ℕ × Version) → Member row rows → interval ≤ row.0 → Member row left
  pub only : (row : ℕ × Version) → Member row left → Member row rows

pub passes_start : (rows : List (ℕ × Version)) (interval : ℕ) → AllPairs IsBefore rows → Passes rows interval rows
passes_start rows interval up = record { ascending = up; whole = λ row m h. m; only = λ row m. m }

pub passes_on : (rows : List (ℕ × Version)) (interval : ℕ) (left : List (ℕ × Version)) (row : ℕ × Version) (rest : List (ℕ × Version))
    → left ≡ row ∷ rest → row.0 < interval → Passes rows interval left → Passes rows interval rest
passes_on rows interval left row rest e low p = record {
  ascending = tail_up row rest (subst (AllPairs IsBefore) e p.ascending);
  whole = λ other m h. elim (subst (Member other) e (p.whole other m h)) [
    | inl same ↦ let n : other.0 ≡ row.0 = ap (λ (r : ℕ × Version). r.0) same in absurd (omega (arith, n, h, low))
    | inr there ↦ there
  ];
  only = λ other m. p.only other (subst (Member other) (sym e) (inr m));
}

pub passes_stop : (rows : List (ℕ × Version)) (interval : ℕ) (left : List (ℕ × Version)) (row : ℕ × Version) (rest : List (ℕ × Version))
    → left ≡ row ∷ rest → interval ≤ row.0 → Passes rows interval left → IsFrom rows interval left
passes_stop rows interval left row rest e high p = record {
  ascending = p.ascending;
  from = λ other m. elim (subst (Member other) e m) [
    | inl same ↦ subst (λ (r : ℕ × Version). interval ≤ r.0) (sym same) high
    | inr there ↦
        let h = head_up row rest (subst (AllPairs IsBefore) e p.ascending) other there in
        omega arith
  ];
  whole = p.whole;
  only = p.only;
}

pub passes_end : (rows : List (ℕ × Version)) (interval : ℕ) (left : List (ℕ × Version))
    → left ≡ [] → Passes rows interval left → IsFrom rows interval left
passes_end rows interval left e p = record {
  ascending = p.ascending;
  from = λ other m. absurd (subst (Member other) e m);
  whole = p.whole;
  only = p.only;
}

-- a later interval's rows are among those left
pub from_later : (rows : List (ℕ × Version)) (interval : ℕ) (old left : List (ℕ × Version)) → Passes rows interval old
    → IsFrom old interval left → IsFrom rows interval left
from_later rows interval old left p f = record {
  ascending = f.ascending;
  from = f.from;
  whole = λ row m h. f.whole row (p.whole row m h) h;
  only = λ row m. p.only row (f.only row m);
}

pub passes_next : (rows : List (ℕ × Version)) (interval : ℕ) (left : List (ℕ × Version)) → IsFrom rows interval left
    → Passes rows (interval + 1) left
passes_next rows interval left f = record {
  ascending = f.ascending;
  whole = λ row m h. f.whole row m (omega arith);
  only = f.only;
}

-- ---- the reading of an interval under an update

pub record Seeks (rows : List (ℕ × Version)) (interval update : ℕ) (left : List (ℕ × Version)) : Type 0 where
  pub ascending : AllPairs IsBefore left
  pub from : (row : ℕ × Version) → Member row left → interval ≤ row.0
  pub only : (row : ℕ × Version) → Member row left → Member row rows
  pub whole : (minutes : ℕ) (reading : ReadingValue) → Member (row_of minutes interval update reading) rows
      → Member (row_of minutes interval update reading) left

pub seeks_start : (rows : List (ℕ × Version)) (interval update : ℕ) → IsFrom rows interval rows → Seeks rows interval update rows
seeks_start rows interval update f = record { ascending = f.ascending; from = f.from; only = λ row m. m; whole = λ minutes reading m. m }

module _ (rows : List (ℕ × Version)) (interval update : ℕ) (left : List (ℕ × Version)) (row : ℕ × Version) (rest : List (ℕ × Version))
    (e : left ≡ row ∷ rest) (s : Seeks rows interval update left) where
  first_there : Member row left
  first_there = subst (Member row) (sym e) (inl refl)

  pub seeks_past : row.0 ≢ interval → (minutes : ℕ) (reading : ReadingValue) → Member (row_of minutes interval update reading) rows → ⊥
  seeks_past other minutes reading m =
      let f = s.from row first_there in
      elim (subst (Member (row_of minutes interval update reading)) e (s.whole minutes reading m)) [
        | inl same ↦ other (ap (λ (r : ℕ × Version). r.0) (sym same))
        | inr there ↦
            let h : row.0 ≤ interval = head_up row rest (subst (AllPairs IsBefore) e s.ascending) _ there in
            other (omega arith)
      ]

  pub seeks_found : row.0 ≡ interval → row.1.update ≡ update → (minutes : ℕ) × Member (row_of minutes interval update row.1.reading) rows
  seeks_found at under =
      let is : row ≡ row_of row.1.length interval update row.1.reading =
      λ j. (at j, record { update = under j; length = row.1.length; reading = row.1.reading }) in
      (row.1.length, subst (λ r. Member r rows) is (s.only row first_there))

  pub seeks_on : row.1.update ≢ update → Seeks rows interval update rest
  seeks_on other = record {
    ascending = tail_up row rest (subst (AllPairs IsBefore) e s.ascending);
    from = λ r m. s.from r (subst (Member r) (sym e) (inr m));
    only = λ r m. s.only r (subst (Member r) (sym e) (inr m));
    whole = λ minutes reading m. elim (subst (Member (row_of minutes interval update reading)) e (s.whole minutes reading m)) [
      | inl same ↦ absurd (other (ap (λ (r : ℕ × Version). r.1.update) (sym same)))
      | inr there ↦ there
    ];
  }

pub seeks_end : (rows : List (ℕ × Version)) (interval update : ℕ) (left : List (ℕ × Version)) → left ≡ []
    → Seeks rows interval update left → (minutes : ℕ) (reading : ReadingValue) → Member (row_of minutes interval update reading) rows → ⊥
seeks_end rows interval update left e s minutes reading m = subst (Member (row_of minutes interval update reading)) e (s.whole minutes reading m)

-- ---- what a book says of it

is_false : (t : Bool) → (t ≡ true → ⊥) → t ≡ false
is_false true h = absurd (h refl)
is_false false h = refl

module _ (b : BookValue) (rows : List (ℕ × Version)) (minutes interval update : ℕ) (f : IsFrom b.rows interval rows) where
  none_there : ((size : ℕ) (reading : ReadingValue) → Member (row_of size interval update reading) rows → ⊥) → (other : ReadingValue)
      → VersionIs (key_of b minutes interval update) other ∈ book_world b → ⊥
  none_there none other i = none minutes other (f.whole _ (row_of_book b minutes interval update other i) (omega arith))

  pub count_none : (reading : ReadingValue) → ((size : ℕ) (r : ReadingValue) → Member (row_of size interval update r) rows → ⊥)
      → (is_held b minutes update interval reading ≡ false)
      × ((other : ReadingValue) → VersionIs (key_of b minutes interval update) other ∈ book_world b → other ≡ reading)
  count_none reading none = (
    is_false (is_held b minutes update interval reading) (λ i. none_there none reading i),
    (λ other i. absurd (none_there none other i)),
  )

  module _ (of_length : AreOfLength b minutes update) where
    kept_there : (size : ℕ) (kept : ReadingValue) → Member (row_of size interval update kept) rows
        → VersionIs (key_of b minutes interval update) kept ∈ book_world b
    kept_there size kept m =
        let there = f.only _ m in
        row_in_book b (row_of minutes interval update kept)
        (subst (λ n. Member (row_of n interval update kept) b.rows) (of_length _ there refl) there)

    pub count_one : (size : ℕ) (reading kept : ReadingValue) → Agrees (book_world b) → Member (row_of size interval update kept) rows
        → kept ≡ reading
        → (is_held b minutes update interval reading ≡ true)
        × ((other : ReadingValue) → VersionIs (key_of b minutes interval update) other ∈ book_world b → other ≡ reading)
    count_one size reading kept agrees m e = (
      subst (λ r. is_held b minutes update interval r ≡ true) e (kept_there size kept m),
      (λ other i. agrees.one_reading _ other kept i (kept_there size kept m) ∙ e),
    )

    pub count_other : (size : ℕ) (reading kept : ReadingValue) → Member (row_of size interval update kept) rows → kept ≢ reading
        → (other : ReadingValue) × (VersionIs (key_of b minutes interval update) other ∈ book_world b) × (other ≢ reading)
    count_other size reading kept m apart = (kept, kept_there size kept m, apart)

-- ---- all readings of a claim

-- those up to an index, of a length
pub record IsCounted (b : BookValue) (minutes update : ℕ) (readings : List ReadingValue) (held i : ℕ) : Type 0 where
  pub suits : (k : ℕ) → k < i → Suits (book_world b) b minutes update readings k
  pub counted : held + held_count b minutes update (i + 1) (drop i readings) ≡ held_count b minutes update 1 readings

-- the same, whatever length the rows of the update have
pub record IsWalked (b : BookValue) (update : ℕ) (readings : List ReadingValue) (left : List (ℕ × Version)) (held i : ℕ) : Type 0 where
  pub passes : Passes b.rows (i + 1) left
  pub few : held ≤ i
  pub counts : (minutes : ℕ) → AreOfLength b minutes update → IsCounted b minutes update readings held i

pub walk_start : (b : BookValue) (update : ℕ) (readings : List ReadingValue) (left : List (ℕ × Version)) → left ≡ b.rows
    → AllPairs IsBefore left → IsWalked b update readings left 0 0
walk_start b update readings left e up = record {
  passes = subst (λ l. Passes b.rows 1 l) (sym e) (passes_start b.rows 1 (subst (AllPairs IsBefore) e up));
  few = omega arith;
  counts = λ minutes _. record { suits = λ k h. absurd (omega arith); counted = omega arith };
}

module _ (b : BookValue) (update : ℕ) (readings : List ReadingValue) (old left : List (ℕ × Version)) (held i : ℕ)
    (w : IsWalked b update readings old held i) (f : IsFrom old (i + 1) left) where
  pub walk_from : IsFrom b.rows (i + 1) left
  walk_from = from_later b.rows (i + 1) old left w.passes f

  module _ (within : i < length readings) where
    here : (r : ReadingValue) × (slice_get readings i ≡ Some r) × (get_or readings i r ≡ r)
    here = elim (slice_get_cases readings i).1 [ inl x ↦ (x.0, x.2, x.3) | inr y ↦ absurd (omega (arith, y.0)) ]

    pub walk_on : (count : ℕ) → count ≤ 1
        → ((minutes : ℕ) (r : ReadingValue) → AreOfLength b minutes update → slice_get readings i ≡ Some r
        → (count ≡ cond (is_held b minutes update (i + 1) r) 1 0)
        × ((other : ReadingValue) → VersionIs (key_of b minutes (i + 1) update) other ∈ book_world b → other ≡ r))
        → IsWalked b update readings left (held + count) (i + 1)
    walk_on count small counts =
        let r : ReadingValue = here.0 in
        let at : slice_get readings i ≡ Some r = here.1 in
        let p = w.few in
        record {
          passes = passes_next b.rows (i + 1) left walk_from;
          few = omega arith;
          counts = λ minutes of_length.
              let before = w.counts minutes of_length in
              let is : count ≡ cond (is_held b minutes update (i + 1) r) 1 0 = (counts minutes r of_length at).0 in
              record {
                suits = λ k h. elim (cases_lt k i) [
                  | inl below ↦ before.suits k below
                  | inr above ↦
                      let e : i ≡ k = omega arith in
                      subst (λ n. Suits (book_world b) b minutes update readings n) e
                      (λ mine other g j. (counts minutes r of_length at).1 other j ∙ same_some r mine (sym at ∙ g))
                ];
                counted =
                    let d : drop i readings ≡ r ∷ drop (suc i) readings = drop-cons readings i r within ∙ ap (λ x. x ∷ drop (suc i) readings) here.2 in
                    let c : held + (cond (is_held b minutes update (i + 1) r) 1 0 + held_count b minutes update (i + 1 + 1) (drop (suc i) readings))
                    ≡ held_count b minutes update 1 readings =
                    ap (λ l. held + held_count b minutes update (i + 1) l) (sym d) ∙ before.counted in
                    let z : i + 1 ≡ suc i = omega arith in
                    ap (λ n. held + count + held_count b minutes update (i + 1 + 1) (drop n readings)) z
                    ∙ ap (λ n. held + n + held_count b minutes update (i + 1 + 1) (drop (suc i) readings)) is
                    ∙ omega (arith, c);
              };
        }

    pub walk_stop : ((minutes : ℕ) (r : ReadingValue) → AreOfLength b minutes update → slice_get readings i ≡ Some r
        → (other : ReadingValue) × (VersionIs (key_of b minutes (i + 1) update) other ∈ book_world b) × (other ≢ r))
        → (interval : ℕ) → interval ≡ i + 1 → (minutes : ℕ) → AreOfLength b minutes update → AreHeld b minutes update readings (Err interval)
    walk_stop none interval at minutes of_length = let q = none minutes here.0 of_length here.1 in record {
      held = tt;
      few = tt;
      suits = tt;
      conflict = (i, at, (here.0, q.0, here.1, q.1, q.2), (w.counts minutes of_length).suits);
    }

pub walk_end : (b : BookValue) (update : ℕ) (readings : List ReadingValue) (left : List (ℕ × Version)) (held i : ℕ)
    → IsWalked b update readings left held i → i ≡ length readings → (minutes : ℕ) → AreOfLength b minutes update
    → AreHeld b minutes update readings (Ok held)
walk_end b update readings left held i w h minutes of_length = let counts = w.counts minutes of_length in record {
  held =
      let c : held + held_count b minutes update (i + 1) [] ≡ held_count b minutes update 1 readings =
      ap (λ l. held + held_count b minutes update (i + 1) l) (sym (drop_all i readings (omega arith))) ∙ counts.counted in
      omega arith;
  few = let f = w.few in omega arith;
  suits = λ k mine other e g. counts.suits k (omega (arith, slice_get_within readings k mine e)) mine other e g;
  conflict = tt;
}

-- a book that has a reading of another length has none of this one
pub other_length : (b : BookValue) → IsLawful (book_world b) → (minutes size interval update : ℕ) (held reading : ReadingValue)
    → VersionIs (key_of b size interval update) held ∈ book_world b → size ≢ minutes → is_held b minutes update interval reading ≡ false
other_length b lawful minutes size interval update held reading there other =
    is_false (is_held b minutes update interval reading) (λ here. other
    (one_minutes b lawful (row_of size interval update held) (row_of minutes interval update reading)
    (row_of_book b size interval update held there) (row_of_book b minutes interval update reading here) refl))

-- a book that has a reading of this length has this one where they are the same
pub held_is : (b : BookValue) → IsLawful (book_world b) → (minutes size interval update : ℕ) (held reading : ReadingValue)
    → VersionIs (key_of b size interval update) held ∈ book_world b → size ≡ minutes → (same : Bool) → IsTrue same ↔ (held ≡ reading)
    → same ≡ is_held b minutes update interval reading
held_is b lawful minutes size interval update held reading there e = go
  where
    here : VersionIs (key_of b minutes interval update) held ∈ book_world b
    here = subst (λ n. VersionIs (key_of b n interval update) held ∈ book_world b) e there

    go : (same : Bool) → IsTrue same ↔ (held ≡ reading) → same ≡ is_held b minutes update interval reading
    go true is = sym (subst (λ r. is_held b minutes update interval r ≡ true) (is.0 refl) here)
    go false is =
        sym (is_false (is_held b minutes update interval reading) (λ it.
        let t : IsTrue false = is.1 (lawful.agrees.one_reading _ held reading here it) in cc))

-- ---- a book that has no reading under an update

pub no_rows : (b : BookValue) (minutes update : ℕ) → b.rows ≡ [] → (interval : ℕ) (r : ReadingValue)
    → VersionIs (key_of b minutes interval update) r ∈ book_world b → ⊥
no_rows b minutes update none interval r i = subst (Member (row_of minutes interval update r)) none (row_of_book b minutes interval update r i)

module _ (b : BookValue) (minutes update : ℕ)
    (none : (interval : ℕ) (r : ReadingValue) → VersionIs (key_of b minutes interval update) r ∈ book_world b → ⊥) where
  none_held : (interval : ℕ) (rs : List ReadingValue) → held_count b minutes update interval rs ≡ 0
  none_held interval [] = refl
  none_held interval (r ∷ rs) =
      none_more (is_held b minutes update interval r) (is_false (is_held b minutes update interval r) (none interval r)) _ (none_held (interval + 1) rs)
    where
      none_more : (t : Bool) → t ≡ false → (n : ℕ) → n ≡ 0 → cond t 1 0 + n ≡ 0
      none_more true e n z = cc
      none_more false e n z = omega arith

  pub held_none : (rs : List ReadingValue) → AreHeld b minutes update rs (Ok 0)
  held_none rs = record {
    held = sym (none_held 1 rs);
    few = omega arith;
    suits = λ k mine other e i. absurd (none (k + 1) other i);
    conflict = tt;
  }

-- ---- the counts of all that was claimed

pub one_or_other : (b : BookValue) (minutes update interval : ℕ) (rs : List ReadingValue)
    → held_count b minutes update interval rs + length (fresh_versions b minutes update interval rs) ≡ length rs
one_or_other b minutes update interval [] = refl
one_or_other b minutes update interval (r ∷ rs) = go (is_held b minutes update interval r) (one_or_other b minutes update (interval + 1) rs)
  where
    go : (t : Bool) → held_count b minutes update (interval + 1) rs + length (fresh_versions b minutes update (interval + 1) rs) ≡ length rs
        → cond t 1 0 + held_count b minutes update (interval + 1) rs
        + length (cond t (fresh_versions b minutes update (interval + 1) rs) ((key_of b minutes interval update, r) ∷ fresh_versions b minutes update (interval + 1) rs))
        ≡ suc (length rs)
    go true h = omega arith
    go false h = omega arith

module _ (b : BookValue) (update : ℕ) (kept : ClaimedReadings) where
  held_beside : (front back : List (ℕ × ClaimedReadings))
      → held_all b (claimed_entries b (front ++ (update, kept) ∷ back))
      ≡ held_all b (claimed_entries b (front ++ back)) + held_count b kept.length update 1 (claimed_readings b update kept.readings)
  held_beside [] back = omega arith
  held_beside (e ∷ front) back = let rest = held_beside front back in omega arith

  fresh_beside : (front back : List (ℕ × ClaimedReadings))
      → length (fresh_all b (claimed_entries b (front ++ (update, kept) ∷ back)))
      ≡ length (fresh_all b (claimed_entries b (front ++ back))) + length (fresh_versions b kept.length update 1 (claimed_readings b update kept.readings))
  fresh_beside [] back =
      length-append (fresh_versions b kept.length update 1 (claimed_readings b update kept.readings)) (fresh_all b (claimed_entries b back)) ∙ omega arith
  fresh_beside (e ∷ front) back =
      let rest = fresh_beside front back in
      let here : List _ = fresh_versions b e.1.length e.0 1 (claimed_readings b e.0 e.1.readings) in
      let l = length-append here (fresh_all b (claimed_entries b (front ++ (update, kept) ∷ back))) in
      let m = length-append here (fresh_all b (claimed_entries b (front ++ back))) in
      omega arith

  pub counts_more : (es later : List (ℕ × ClaimedReadings)) → ComesBeside es later (update, kept)
      → (rs : List ReadingValue) → claimed_readings b update kept.readings ≡ rs
      → (held fresh one other all_held all_fresh : ℕ) → AreCounts b (claimed_entries b es) held fresh
      → one ≡ held_count b kept.length update 1 rs → one + other ≡ length rs → all_held ≡ held + one → all_fresh ≡ fresh + other
      → AreCounts b (claimed_entries b later) all_held all_fresh
  counts_more es later put rs same held fresh one other all_held all_fresh c is split h f =
      let both = one_or_other b kept.length update 1 (claimed_readings b update kept.readings) in
      let p : held ≡ held_all b (claimed_entries b (put.0 ++ put.1)) = c.held_are ∙ ap (λ l. held_all b (claimed_entries b l)) put.2 in
      let q : fresh ≡ length (fresh_all b (claimed_entries b (put.0 ++ put.1))) =
      c.fresh_are ∙ ap (λ l. length (fresh_all b (claimed_entries b l))) put.2 in
      let one_is : one ≡ held_count b kept.length update 1 (claimed_readings b update kept.readings) =
      is ∙ ap (held_count b kept.length update 1) (sym same) in
      let all : one + other ≡ length (claimed_readings b update kept.readings) = split ∙ ap length (sym same) in
      record {
        held_are = (let z : all_held ≡ held_all b (claimed_entries b (put.0 ++ (update, kept) ∷ put.1)) = omega (arith, held_beside put.0 put.1) in z)
            ∙ ap (λ l. held_all b (claimed_entries b l)) (sym put.3);
        fresh_are = (let z : all_fresh ≡ length (fresh_all b (claimed_entries b (put.0 ++ (update, kept) ∷ put.1))) = omega (arith, fresh_beside put.0 put.1) in z)
            ∙ ap (λ l. length (fresh_all b (claimed_entries b l))) (sym put.3);
      }

pub counts_same : (b : BookValue) (es later : List Entry) (held fresh : ℕ) → later ≡ es → AreCounts b es held fresh → AreCounts b later held fresh
counts_same b es later held fresh e c = subst (λ l. AreCounts b l held fresh) (sym e) c

pub counts_none : (b : BookValue) (es : List Entry) → es ≡ [] → AreCounts b es 0 0
counts_none b es e = subst (λ l. AreCounts b l 0 0) (sym e) (record { held_are = refl; fresh_are = refl })
