-- The readings that a book has under an update are those claimed, where it has them all.
use Rattle.std.proofs.Common.{◌≡◌, ◌≢◌, ℕ, zero, suc, ◌+◌, ◌<◌, ◌≤◌, List, [], ◌∷◌, length, Some, refl, sym, ap, ◌∙◌, subst, inl, inr, arith}
use Rattle.std.specs.Prelude.{Bool, true, false, cond, nat_eq}
use Rattle.std.specs.List.{AllPairs, slice_get}
use Rattle.std.proofs.lemmas.Bool.Decides.{nat_tests}
use Rattle.std.proofs.lemmas.Option.{slice_get_cases}
use Rattle.mds_marks.specs.Reading.{ReadingValue}
use Rattle.mds_world.specs.Facts.Fact.{VersionIs}
use Rattle.mds_world.specs.Lists.{Member}
use Rattle.mds_world.specs.Sets.{◌∈◌}
use Rattle.mds_world.specs.World.{IsLawful}
use Rattle.mds_keeper.specs.Books.{BookValue, book_world}
use Rattle.mds_keeper.specs.BookRows.{IsBefore}
use Rattle.mds_keeper.specs.Claims.{Contradicts, IsFirst, Suits, held_count, is_held, key_of}
use Rattle.mds_keeper.specs.DayMergeSteps.{AreAsMany, IsInBook, readings_under, row_of}
use Rattle.mds_keeper.specs.declared.day_book.Version.{Version}
use Rattle.mds_keeper.proofs.BookFacts.{head_of_row, row_of_book}
use Rattle.mds_keeper.proofs.BookPlaces.{place_of}
use Rattle.mds_keeper.proofs.Rows.{same_some}

same_update : (a b : ℕ) → nat_eq a b ≡ true → a ≡ b
same_update a b e = grind (arith, nat_tests)

other_update : (a b : ℕ) → nat_eq a b ≡ false → a ≢ b
other_update a b e = grind (arith, nat_tests)

-- the first of rows that ascend stands before the others
first_before : (row : ℕ × Version) (rest : List (ℕ × Version)) → AllPairs IsBefore (row ∷ rest) → (later : ℕ × Version)
    → Member later rest → IsBefore row later
first_before row rest up later m =
    let p = place_of later rest m in
    subst (IsBefore row) (p.2 row) (up 0 (suc p.0) row (omega arith) (omega (arith, p.1)))

rest_up : (row : ℕ × Version) (rest : List (ℕ × Version)) → AllPairs IsBefore (row ∷ rest) → AllPairs IsBefore rest
rest_up row rest up i j d h k = up (suc i) (suc j) d (omega arith) (omega arith)

-- Rows that ascend, from an interval on, have the readings under an update that they have one by one, where none lies behind these.
under_are : (minutes update i : ℕ) (left : List (ℕ × Version)) (rs : List ReadingValue) → AllPairs IsBefore left
    → ((row : ℕ × Version) → Member row left → row.1.update ≡ update → i ≤ row.0)
    → ((row : ℕ × Version) → Member row left → row.1.update ≡ update → row.0 < i + length rs)
    → ((k : ℕ) (r : ReadingValue) → slice_get rs k ≡ Some r → Member (row_of minutes (i + k) update r) left)
    → readings_under update left ≡ rs
under_are minutes update i [] [] up low high has = refl
under_are minutes update i [] (r ∷ rs) up low high has = absurd (has 0 r refl)
under_are minutes update i (row ∷ rest) rs up low high has =
    go (nat_eq row.1.update update) refl (λ j xs l h k. under_are minutes update j rest xs (rest_up row rest up) l h k)
  where
    Later : Type 0
    Later = (j : ℕ) (xs : List ReadingValue)
        → ((x : ℕ × Version) → Member x rest → x.1.update ≡ update → j ≤ x.0)
        → ((x : ℕ × Version) → Member x rest → x.1.update ≡ update → x.0 < j + length xs)
        → ((k : ℕ) (r : ReadingValue) → slice_get xs k ≡ Some r → Member (row_of minutes (j + k) update r) rest)
        → readings_under update rest ≡ xs

    passed : Later → row.1.update ≢ update → readings_under update rest ≡ rs
    passed later apart = later i rs (λ x m. low x (inr m)) (λ x m. high x (inr m)) (λ k r e. elim (has k r e) [
      | inl same ↦ absurd (apart (sym (ap (λ x. x.1.update) same)))
      | inr m ↦ m
    ])

    taken : Later → (xs : List ReadingValue) → rs ≡ xs → row.1.update ≡ update → row.1.reading ∷ readings_under update rest ≡ xs
    taken later [] e same = let h = high row (inl refl) same in let l = low row (inl refl) same in absurd (omega (arith, h, l, ap length e))
    taken later (x ∷ xs) e same =
        let first = has 0 x (ap (λ l. slice_get l 0) e) in
        let l = low row (inl refl) same in
        let z : i + 0 ≡ i = omega arith in
        let here : row_of minutes i update x ≡ row = elim (subst (λ n. Member (row_of minutes n update x) (row ∷ rest)) z first) [
          | inl q ↦ q
          | inr m ↦ elim (first_before row rest up _ m) [
            | inl below ↦ absurd (omega (arith, below, l))
            | inr tie ↦ absurd (omega (arith, tie.1, same))
          ]
        ] in
        let at : i ≡ row.0 = ap (λ y. y.0) here in
        let more : length rs ≡ suc (length xs) = ap length e in
        let tail : readings_under update rest ≡ xs = later (i + 1) xs
        (λ y m u. elim (first_before row rest up y m) [
          | inl below ↦ omega (arith, below, at)
          | inr tie ↦ absurd (omega (arith, tie.1, same, u))
        ])
        (λ y m u. let h = high y (inr m) u in omega (arith, h, more))
        (λ k r q. elim (has (suc k) r (ap (λ l. slice_get l (suc k)) e ∙ q)) [
          | inl s ↦ let n : i + suc k ≡ row.0 = ap (λ y. y.0) s in absurd (omega (arith, n, at))
          | inr m ↦ let n : i + suc k ≡ i + 1 + k = omega arith in subst (λ j. Member (row_of minutes j update r) rest) n m
        ]) in
        λ j. (sym (ap (λ y. y.1.reading) here)) j ∷ tail j

    go : (t : Bool) → nat_eq row.1.update update ≡ t → Later
        → cond t (row.1.reading ∷ readings_under update rest) (readings_under update rest) ≡ rs
    go true e later = taken later rs refl (same_update row.1.update update e)
    go false e later = passed later (other_update row.1.update update e)

-- of readings of which the book has as many as there are it has each
held_most : (b : BookValue) (minutes update i : ℕ) (rs : List ReadingValue) → held_count b minutes update i rs ≤ length rs
held_most b minutes update i [] = omega arith
held_most b minutes update i (r ∷ rs) = go (is_held b minutes update i r) (held_most b minutes update (i + 1) rs)
  where
    go : (t : Bool) → held_count b minutes update (i + 1) rs ≤ length rs → cond t 1 0 + held_count b minutes update (i + 1) rs ≤ suc (length rs)
    go true h = omega arith
    go false h = omega arith

each_held : (b : BookValue) (minutes update i : ℕ) (rs : List ReadingValue) → held_count b minutes update i rs ≡ length rs
    → (k : ℕ) (r : ReadingValue) → slice_get rs k ≡ Some r → is_held b minutes update (i + k) r ≡ true
each_held b minutes update i [] all k r e = cc
each_held b minutes update i (x ∷ xs) all k r e = go (is_held b minutes update i x) refl all (λ s n q. each_held b minutes update (i + 1) xs s n r q) k e
  where
    go : (t : Bool) → is_held b minutes update i x ≡ t → cond t 1 0 + held_count b minutes update (i + 1) xs ≡ suc (length xs)
        → (held_count b minutes update (i + 1) xs ≡ length xs → (n : ℕ) → slice_get xs n ≡ Some r → is_held b minutes update (i + 1 + n) r ≡ true)
        → (n : ℕ) → slice_get (x ∷ xs) n ≡ Some r → is_held b minutes update (i + n) r ≡ true
    go true h s later zero q =
        let z : i + 0 ≡ i = omega arith in
        ap (λ j. is_held b minutes update j r) z ∙ ap (is_held b minutes update i) (sym (same_some x r q)) ∙ h
    go true h s later (suc n) q =
        let z : i + suc n ≡ i + 1 + n = omega arith in
        ap (λ j. is_held b minutes update j r) z ∙ later (omega (arith, s)) n q
    go false h s later n q = let m = held_most b minutes update (i + 1) xs in absurd (omega (arith, s, m))

module _ (b : BookValue) (minutes update : ℕ) (rs : List ReadingValue) (lawful : IsLawful (book_world b)) (ascending : AllPairs IsBefore b.rows)
    (whole : AreAsMany b update (length rs))
    (all : held_count b minutes update 1 rs ≡ length rs) where
  here : (k : ℕ) (r : ReadingValue) → slice_get rs k ≡ Some r → VersionIs (key_of b minutes (1 + k) update) r ∈ book_world b
  here k r e = each_held b minutes update 1 rs all k r e

  -- what a book has under an update of which it has a reading for each interval
  pub kept_same : readings_under update b.rows ≡ rs
  kept_same = under_are minutes update 1 b.rows rs ascending
      (λ row m u. (head_of_row b lawful row m).2)
      (λ row m u. let h = head_of_row b lawful row m in let n = whole row m u in omega (arith, h.3, n))
      (λ k r e. row_of_book b minutes (1 + k) update r (here k r e))

  pub kept_in_book : IsInBook b minutes update
  kept_in_book k r e =
      let z : 1 + k ≡ k + 1 = omega arith in
      subst (λ n. VersionIs (key_of b minutes n update) r ∈ book_world b) z (here k r (ap (λ l. slice_get l k) (sym kept_same) ∙ e))

-- a claim beside one under the same update of which the book has all readings
module _ (b : BookValue) (minutes update : ℕ) (rs : List ReadingValue) (lawful : IsLawful (book_world b)) (kept : IsInBook b minutes update)
    (many : length (readings_under update b.rows) ≡ length rs) where
  pub same_at : (k : ℕ) → Suits (book_world b) b minutes update rs k → slice_get (readings_under update b.rows) k ≡ slice_get rs k
  same_at k suits = elim (slice_get_cases rs k).1 [
    | inl x ↦ elim (slice_get_cases (readings_under update b.rows) k).1 [
      | inl y ↦ y.2 ∙ ap Some (suits x.0 y.0 x.2 (kept k y.0 y.2)) ∙ sym x.2
      | inr y ↦ absurd (omega (arith, y.0, x.1, many))
    ]
    | inr x ↦ elim (slice_get_cases (readings_under update b.rows) k).1 [
      | inl y ↦ absurd (omega (arith, y.1, x.0, many))
      | inr y ↦ y.1 ∙ sym x.1
    ]
  ]

  pub first_other : (interval : ℕ) → IsFirst (Contradicts (book_world b) b minutes update rs) (Suits (book_world b) b minutes update rs) interval
      → IsFirst (λ k. slice_get (readings_under update b.rows) k ≢ slice_get rs k)
      (λ k. slice_get (readings_under update b.rows) k ≡ slice_get rs k) interval
  first_other interval q = (
    q.0,
    q.1,
    (λ e.
        let w = q.2 in
        w.4 (lawful.agrees.one_reading _ w.1 w.0 w.3 (kept q.0 w.0 (e ∙ w.2)))),
    (λ j below. same_at j (q.3 j below)),
  )
