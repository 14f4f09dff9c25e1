-- The rows of a range of days, day by day.
use Rattle.std.proofs.Common.{◌≡◌, ◌↔◌, ◌⊎◌, ◌+◌, ◌-◌, ◌<◌, ◌≤◌, ℕ, suc, zero, List, [], ◌∷◌, ◌++◌, map, drop, length, get_or, refl, sym, ap, ◌∙◌, subst, inl, inr, arith, append-nil, append_assoc, drop-cons}
use Rattle.std.specs.List.{AllPairs}
use Rattle.std.proofs.lemmas.Bool.{cases_lt}
use Rattle.std.proofs.lemmas.List.Elements.{All-head, All-tail}
use Rattle.std.proofs.lemmas.List.Quantifiers.{all_pairs_push}
use Rattle.mds_names.specs.declared.stream.Stream.{Stream}
use Rattle.mds_world.proofs.Lists.{append_left, append_right, in_map, map_in, member_append}
use Rattle.mds_world.specs.Lists.{Member}
use Rattle.mds_world.specs.World.{IsKnownDay, World}
use Rattle.mds_keeper.specs.Books.{BookValue, IsDay}
use Rattle.mds_keeper.specs.Queries.{AreDaysOf}
use Rattle.mds_keeper.proofs.BookPlaces.{member_at}
use Rattle.mds_registers.specs.Stretches.{AreGaps, IsFinal, IsGap}
use Rattle.mds_registers.proofs.BookReadings.{known_by_count}
use Rattle.mds_registers.specs.declared.stretches.Final.{Final}
use Rattle.mds_registers.specs.declared.stretches.Gap.{Gap}
use Rattle.mds_registers.specs.declared.writing.FinalRow.{FinalRow}
use Rattle.mds_registers.specs.declared.writing.GapRow.{GapRow}
use Rattle.mds_ranges.specs.Ranges.{AreFinalRows, AreGapRows, AreRows}
use Rattle.mds_ranges.specs.RangesSteps.{AddsFinals, AddsGaps, whole_day, whole_days}
use Rattle.mds_ranges.proofs.Pairs.{map_pairs, pairs_append, pairs_head, pairs_none, pairs_tail}

-- ---- the known days from a day on

-- a known day is one of theirs, and they are from the first of them on
known_from : (w : World) (s : Stream) (from last : ℕ) (book : BookValue) (books : List BookValue)
    → AreDaysOf w s from last (book ∷ books) → (day : ℕ) → from ≤ day → day ≤ last → IsKnownDay w s day
    → (day ≡ book.day) ⊎ Member day (map (λ b. b.day) books)
known_from w s from last book books are day low high known = (are.known day).1 (low, high, known)

later_day : (w : World) (s : Stream) (from last : ℕ) (book : BookValue) (books : List BookValue)
    → AreDaysOf w s from last (book ∷ books) → (day : ℕ) → Member day (map (λ b. b.day) books) → book.day < day
later_day w s from last book books are day m =
    let at = in_map (λ (b : BookValue). b.day) books day m in
    let less = pairs_head (λ (a b : BookValue). a.day < b.day) book books are.ascending at.0 at.1 in
    let same = at.2 in omega (arith, less, same)

-- the first of them is in the range
pub first_within : (w : World) (s : Stream) (from last : ℕ) (book : BookValue) (books : List BookValue)
    → AreDaysOf w s from last (book ∷ books) → (from ≤ book.day) × (book.day ≤ last)
first_within w s from last book books are = let k = (are.known book.day).0 (inl refl) in (k.0, k.1)

pub first_is : (w : World) (s : Stream) (from last : ℕ) (book : BookValue) (books : List BookValue)
    → AreDaysOf w s from last (book ∷ books) → (book.stream ≡ s) × IsDay w book
first_is w s from last book books are =
    All-head (λ (b : BookValue). (b.stream ≡ s) × IsDay w b) book books are.each

-- no day before the first of them is known
pub unknown_before : (w : World) (s : Stream) (from last : ℕ) (book : BookValue) (books : List BookValue)
    → AreDaysOf w s from last (book ∷ books) → (day : ℕ) → from ≤ day → day < book.day → IsKnownDay w s day → ⊥
unknown_before w s from last book books are day low high known =
    let within = (first_within w s from last book books are).1 in
    elim (known_from w s from last book books are day low (omega (arith, high, within)) known) [
      | inl same ↦ omega (arith, same, high)
      | inr m ↦ let less = later_day w s from last book books are day m in omega (arith, less, high)
    ]

-- those behind it are the known days from the next day on
pub days_behind : (w : World) (s : Stream) (from last : ℕ) (book : BookValue) (books : List BookValue)
    → AreDaysOf w s from last (book ∷ books) → AreDaysOf w s (book.day + 1) last books
days_behind w s from last book books are =
    let low = (first_within w s from last book books are).0 in
    record {
      each = All-tail (λ (b : BookValue). (b.stream ≡ s) × IsDay w b) book books are.each;
      known = λ day. (
        (λ m.
            let less = later_day w s from last book books are day m in
            let k = (are.known day).0 (inr m) in
            (omega (arith, less), k.1, k.2)),
        (λ k. elim (known_from w s from last book books are day (let h = k.0 in omega (arith, low, h)) k.1 k.2) [
          | inl same ↦ absurd (let h = k.0 in omega (arith, same, h))
          | inr m ↦ m
        ]),
      );
      ascending = pairs_tail (λ (a b : BookValue). a.day < b.day) book books are.ascending;
    }

-- ---- rows up to a day

module _ {Row : Type 0} (day_in first_in : Row → ℕ) (P : Row → Type 0) where
  abbrev Follows : Row → Row → Type 0
  Follows a b = (day_in a < day_in b) ⊎ ((day_in a ≡ day_in b) × (first_in a < first_in b))

  -- The rows before a day, where these are the known days from that day on.
  pub record IsOnWay (w : World) (s : Stream) (first last end : ℕ) (books : List BookValue) (rows : List Row) : Type 0 where
    pub left : AreDaysOf w s end last books
    pub low : first ≤ end
    pub rows_are : AreRows day_in first_in (λ row. (day_in row < end) × P row) first last rows

  pub way_start : (w : World) (s : Stream) (first last : ℕ) (books : List BookValue) (rows : List Row)
      → AreDaysOf w s first last books → rows ≡ [] → IsOnWay w s first last first books rows
  way_start w s first last books rows are e = record {
    left = are;
    low = omega arith;
    rows_are = subst (AreRows day_in first_in (λ row. (day_in row < first) × P row) first last) (sym e) (record {
      each = λ row. ((λ m. absurd m), (λ h. let a = h.0 in let b = h.2.0 in absurd (omega (arith, a, b))));
      ascending = pairs_none Follows;
    });
  }

  -- the rows from a day on come behind those before it
  joined : (Q : ℕ → Type 0) (first last mid : ℕ) (xs ys zs : List Row) → first ≤ mid
      → ((day : ℕ) → day < mid → Q day)
      → AreRows day_in first_in (λ row. (day_in row < mid) × P row) first last xs
      → ((row : Row) → Member row ys ↔ ((mid ≤ day_in row) × (day_in row ≤ last) × Q (day_in row) × P row))
      → AllPairs Follows ys → zs ≡ xs ++ ys
      → AreRows day_in first_in (λ row. Q (day_in row) × P row) first last zs
  joined Q first last mid xs ys zs low under are each up e =
      subst (AreRows day_in first_in (λ row. Q (day_in row) × P row) first last) (sym e) (record {
        each = λ row. (
          (λ m. elim (member_append row xs ys m) [
            | inl a ↦ let h = (are.each row).0 a in (h.0, h.1, (under (day_in row) h.2.0, h.2.1))
            | inr b ↦ let h = (each row).0 b in let from = h.0 in (omega (arith, low, from), h.1, (h.2, h.3))
          ]),
          (λ h. elim (cases_lt (day_in row) mid) [
            | inl less ↦ append_left row xs ys ((are.each row).1 (h.0, h.1, (less, h.2.1)))
            | inr more ↦ append_right row xs ys ((each row).1 (more, h.1, h.2.0, h.2.1))
          ]),
        );
        ascending = pairs_append Follows xs ys are.ascending up (λ x y m n.
            let a = ((are.each x).0 m).2.0 in let b = ((each y).0 n).0 in inl (omega (arith, a, b)));
      })

  -- The rows of the days before the first of the books, and of that one, come behind.
  pub way_on : (w : World) (s : Stream) (first last mid : ℕ) (book : BookValue) (books : List BookValue)
      (xs ys zs : List Row) → IsOnWay w s first last mid (book ∷ books) xs
      → ((row : Row) → Member row ys
      ↔ ((mid ≤ day_in row) × (day_in row ≤ last) × (day_in row < book.day + 1) × P row))
      → AllPairs Follows ys → zs ≡ xs ++ ys → IsOnWay w s first last (book.day + 1) books zs
  way_on w s first last mid book books xs ys zs way each up e =
      let within = (first_within w s mid last book books way.left).0 in
      let low = way.low in
      record {
        left = days_behind w s mid last book books way.left;
        low = omega (arith, low, within);
        rows_are = joined (λ day. day < book.day + 1) first last mid xs ys zs way.low (λ day less. omega (arith, less, within))
            way.rows_are each up e;
      }

  -- The rows of the days behind the last of the books come behind: these are all.
  pub way_end : (w : World) (s : Stream) (first last mid : ℕ) (books : List BookValue)
      (xs ys zs : List Row) → IsOnWay w s first last mid books xs
      → ((row : Row) → Member row ys ↔ ((mid ≤ day_in row) × (day_in row ≤ last) × P row))
      → AllPairs Follows ys → zs ≡ xs ++ ys → AreRows day_in first_in P first last zs
  way_end w s first last mid books xs ys zs way each up e =
      let all = joined (λ day. Unit {0}) first last mid xs ys zs way.low (λ day less. tt) way.rows_are
      (λ row. ((λ m. let h = (each row).0 m in (h.0, h.1, tt, h.2)), (λ h. (each row).1 (h.0, h.1, h.3)))) up e in
      record {
        each = λ row. (
          (λ m. let h = (all.each row).0 m in (h.0, h.1, h.2.1)),
          (λ h. (all.each row).1 (h.0, h.1, (tt, h.2))),
        );
        ascending = all.ascending;
      }

-- ---- gaps

-- whole days, one behind the other
in_whole : (first n : ℕ) (row : GapRow) → Member row (whole_days first n)
    → (first ≤ row.day) × (row.day < first + n) × (row ≡ whole_day row.day)
in_whole first zero row m = absurd m
in_whole first (suc n) row m = elim (member_append row (whole_days first n) (whole_day (first + n) ∷ []) m) [
  | inl a ↦ let h = in_whole first n row a in let less = h.1 in (h.0, omega (arith, less), h.2)
  | inr b ↦ elim b [
    | inl e ↦
        let day = ap (λ (r : GapRow). r.day) e in
        (omega (arith, day), omega (arith, day), e ∙ ap whole_day (sym day))
    | inr z ↦ absurd z
  ]
]

whole_in : (first n day : ℕ) → first ≤ day → day < first + n → Member (whole_day day) (whole_days first n)
whole_in first zero day low high = absurd (omega (arith, low, high))
whole_in first (suc n) day low high = elim (cases_lt day (first + n)) [
  | inl less ↦ append_left (whole_day day) (whole_days first n) (whole_day (first + n) ∷ []) (whole_in first n day low less)
  | inr more ↦
      let same : day ≡ first + n = omega (arith, more, high) in
      append_right (whole_day day) (whole_days first n) (whole_day (first + n) ∷ []) (inl (ap whole_day same))
]

abbrev GapsFollow : GapRow → GapRow → Type 0
GapsFollow = Follows (λ (row : GapRow). row.day) (λ row. row.gap.first) (λ row. Unit {0})

whole_up : (first n : ℕ) → AllPairs GapsFollow (whole_days first n)
whole_up first zero = pairs_none GapsFollow
whole_up first (suc n) =
    all_pairs_push GapsFollow (whole_days first n) (whole_day (first + n)) (whole_up first n) (λ k d within.
    let h = in_whole first n (get_or (whole_days first n) k d) (member_at (whole_days first n) k d within) in
    inl (h.1))

-- one more
pub whole_more : (first n more day : ℕ) (old xs ys : List GapRow) → xs ≡ old ++ whole_days first n → more ≡ suc n
    → day ≡ first + n → ys ≡ xs ++ whole_day day ∷ [] → ys ≡ old ++ whole_days first more
whole_more first n more day old xs ys e m d f =
    f ∙ ap (λ l. l ++ whole_day day ∷ []) e ∙ append_assoc old (whole_days first n) (whole_day day ∷ [])
    ∙ ap (λ z. old ++ (whole_days first n ++ whole_day z ∷ [])) d ∙ ap (λ k. old ++ whole_days first k) (sym m)

abbrev pub IsGapRow : World → Stream → GapRow → Type 0
IsGapRow w s row = IsGap w s row.day row.gap

abbrev pub GapsOnWay : World → Stream → ℕ → ℕ → ℕ → List BookValue → List GapRow → Type 0
GapsOnWay w s first last end books rows =
    IsOnWay (λ row. row.day) (λ row. row.gap.first) (IsGapRow w s) w s first last end books rows

-- a gap of a day that isn't known is the whole day
gap_unknown : (w : World) (s : Stream) (row : GapRow) → (IsKnownDay w s row.day → ⊥) → IsGapRow w s row
    → row ≡ whole_day row.day
gap_unknown w s row unknown (inl (count, has, is)) = absurd (unknown (known_by_count w s row.day count has))
gap_unknown w s row unknown (inr (none, f, l)) = λ i. record { day = row.day; gap = record { first = f i; last = l i } }

whole_is : (w : World) (s : Stream) (row : GapRow) → (IsKnownDay w s row.day → ⊥) → row ≡ whole_day row.day
    → IsGapRow w s row
whole_is w s row unknown e =
    inr (unknown, ap (λ (r : GapRow). r.gap.first) e, ap (λ (r : GapRow). r.gap.last) e)

abbrev gap_row : ℕ → Gap → GapRow
gap_row day gap = record { day = day; gap = gap }

-- the gaps of a day of the World
module _ (w : World) (s : Stream) (book : BookValue) (gaps : List Gap) (at : book.stream ≡ s)
    (are : AreGaps w book.stream book.day gaps) where
  in_gaps : (row : GapRow) → Member row (map (gap_row book.day) gaps) → (row.day ≡ book.day) × IsGapRow w s row
  in_gaps row m =
      let from = in_map (gap_row book.day) gaps row m in (
        ap (λ (r : GapRow). r.day) from.2,
        subst (IsGapRow w s) (sym from.2) (subst (λ t. IsGap w t book.day from.0) at ((are.each from.0).0 from.1)),
      )

  gaps_in : (row : GapRow) → row.day ≡ book.day → IsGapRow w s row → Member row (map (gap_row book.day) gaps)
  gaps_in row day is =
      let e : gap_row book.day row.gap ≡ row = λ i. record { day = sym day i; gap = row.gap } in
      subst (λ r. Member r (map (gap_row book.day) gaps)) e
      (map_in (gap_row book.day) gaps row.gap ((are.each row.gap).1
      (subst (λ n. IsGap w book.stream n row.gap) day (subst (λ t. IsGap w t row.day row.gap) (sym at) is))))

  gaps_up : AllPairs GapsFollow (map (gap_row book.day) gaps)
  gaps_up = map_pairs (gap_row book.day) GapsFollow gaps (λ i j d less within. inr (refl, are.ascending i j d less within))

-- the days up to the next book, which aren't known, and its own
pub gaps_on : (w : World) (s : Stream) (first last mid : ℕ) (book : BookValue) (books : List BookValue)
    (xs ys zs : List GapRow) → GapsOnWay w s first last mid (book ∷ books) xs
    → ys ≡ xs ++ whole_days mid (book.day - mid) → AddsGaps book ys zs
    → GapsOnWay w s first last (book.day + 1) books zs
gaps_on w s first last mid book books xs ys zs way e adds =
    let is = first_is w s mid last book books way.left in
    let within = first_within w s mid last book books way.left in
    let low = within.0 in
    let high = within.1 in
    let gaps = adds.0 in
    let are = adds.2 w is.1 in
    let whole = whole_days mid (book.day - mid) in
    let own = map (gap_row book.day) gaps in
    way_on (λ row. row.day) (λ row. row.gap.first) (IsGapRow w s) w s first last mid book books xs (whole ++ own) zs way
    (λ row. (
      (λ m. elim (member_append row whole own m) [
        | inl a ↦
            let h = in_whole mid (book.day - mid) row a in
            let less = h.1 in (
              h.0,
              omega (arith, less, low, high),
              omega (arith, less, low),
              whole_is w s row
                  (unknown_before w s mid last book books way.left row.day h.0 (omega (arith, less, low))) h.2,
            )
        | inr b ↦
            let h = in_gaps w s book gaps is.0 are row b in
            let same = h.0 in
            (omega (arith, same, low), omega (arith, same, high), omega (arith, same), h.1)
      ]),
      (λ h. elim (cases_lt row.day book.day) [
        | inl less ↦
            let from = h.0 in
            append_left row whole own (subst (λ r. Member r whole)
            (sym (gap_unknown w s row (unknown_before w s mid last book books way.left row.day from less) h.3))
            (whole_in mid (book.day - mid) row.day from (omega (arith, less, low))))
        | inr more ↦
            let upto = h.2 in
            append_right row whole own (gaps_in w s book gaps is.0 are row (omega (arith, more, upto)) h.3)
      ]),
    ))
    (pairs_append GapsFollow whole own (whole_up mid (book.day - mid)) (gaps_up w s book gaps is.0 are) (λ x y m n.
    let a = (in_whole mid (book.day - mid) x m).1 in
    let b = (in_gaps w s book gaps is.0 are y n).0 in inl (omega (arith, a, b, low))))
    (adds.1 ∙ ap (λ l. l ++ own) e ∙ append_assoc xs whole own)

-- the days behind the last book aren't known
pub gaps_end : (w : World) (s : Stream) (first last mid : ℕ) (xs zs : List GapRow)
    → GapsOnWay w s first last mid [] xs → zs ≡ xs ++ whole_days mid (last + 1 - mid) → AreGapRows w s first last zs
gaps_end w s first last mid xs zs way e =
    let whole = whole_days mid (last + 1 - mid) in
    let unknown : (day : ℕ) → mid ≤ day → day ≤ last → IsKnownDay w s day → ⊥ =
    λ day low high known. (way.left.known day).1 (low, high, known) in
    way_end (λ row. row.day) (λ row. row.gap.first) (IsGapRow w s) w s first last mid [] xs whole zs way
    (λ row. (
      (λ m.
          let h = in_whole mid (last + 1 - mid) row m in
          let low = h.0 in
          let less = h.1 in
          let high : row.day ≤ last = omega (arith, low, less) in
          (low, high, whole_is w s row (unknown row.day low high) h.2)),
      (λ h.
          let low = h.0 in
          let high = h.1 in
          subst (λ r. Member r whole) (sym (gap_unknown w s row (unknown row.day low high) h.2))
          (whole_in mid (last + 1 - mid) row.day low (omega (arith, low, high)))),
    ))
    (whole_up mid (last + 1 - mid)) e

-- ---- finals

abbrev pub IsFinalRow : World → Stream → FinalRow → Type 0
IsFinalRow w s row = IsFinal w s row.day row.stretch

-- the rows so far are those of the days before some day
abbrev pub FinalsOnWay : World → Stream → ℕ → ℕ → List BookValue → List FinalRow → Type 0
FinalsOnWay w s first last books rows =
    (end : ℕ) × IsOnWay (λ row. row.day) (λ row. row.stretch.first) (IsFinalRow w s) w s first last end books rows

abbrev final_row : ℕ → Final → FinalRow
final_row day stretch = record { day = day; stretch = stretch }

abbrev FinalsFollow : FinalRow → FinalRow → Type 0
FinalsFollow = Follows (λ (row : FinalRow). row.day) (λ row. row.stretch.first) (λ row. Unit {0})

-- a day with a final is known
known_final : (w : World) (s : Stream) (row : FinalRow) → IsFinalRow w s row → IsKnownDay w s row.day
known_final w s row is = known_by_count w s row.day is.0 is.1

pub finals_on : (w : World) (s : Stream) (first last : ℕ) (book : BookValue) (books : List BookValue)
    (xs zs : List FinalRow) → FinalsOnWay w s first last (book ∷ books) xs → AddsFinals book xs zs
    → FinalsOnWay w s first last books zs
finals_on w s first last book books xs zs (mid, way) adds =
    let is = first_is w s mid last book books way.left in
    let within = first_within w s mid last book books way.left in
    let low = within.0 in
    let high = within.1 in
    let finals = adds.0 in
    let are = adds.2 w is.1 in
    let own = map (final_row book.day) finals in (
      book.day + 1,
      way_on (λ row. row.day) (λ row. row.stretch.first) (IsFinalRow w s) w s first last mid book books xs own zs way
          (λ row. (
            (λ m.
                let from = in_map (final_row book.day) finals row m in
                let same = ap (λ (r : FinalRow). r.day) from.2 in (
                  omega (arith, same, low),
                  omega (arith, same, high),
                  omega (arith, same),
                  subst (IsFinalRow w s) (sym from.2)
                      (subst (λ t. IsFinal w t book.day from.0) is.0 ((are.each from.0).0 from.1)),
                )),
            (λ h. elim (cases_lt row.day book.day) [
              | inl less ↦ absurd (unknown_before w s mid last book books way.left row.day h.0 less
                  (known_final w s row h.3))
              | inr more ↦
                  let upto = h.2 in
                  let day : row.day ≡ book.day = omega (arith, more, upto) in
                  let e : final_row book.day row.stretch ≡ row = λ i. record { day = sym day i; stretch = row.stretch } in
                  subst (λ r. Member r own) e
                  (map_in (final_row book.day) finals row.stretch ((are.each row.stretch).1
                  (subst (λ n. IsFinal w book.stream n row.stretch) day
                  (subst (λ t. IsFinal w t row.day row.stretch) (sym is.0) h.3))))
            ]),
          ))
          (map_pairs (final_row book.day) FinalsFollow finals
          (λ i j d less within. inr (refl, are.ascending i j d less within)))
          adds.1,
    )

pub finals_end : (w : World) (s : Stream) (first last : ℕ) (books : List BookValue) (rows : List FinalRow) → books ≡ []
    → FinalsOnWay w s first last books rows → AreFinalRows w s first last rows
finals_end w s first last books rows e (mid, way) =
    let are : AreDaysOf w s mid last [] = subst (AreDaysOf w s mid last) e way.left in
    way_end (λ row. row.day) (λ row. row.stretch.first) (IsFinalRow w s) w s first last mid books rows [] rows way
    (λ row. (
      (λ m. absurd m),
      (λ h. absurd ((are.known row.day).1 (h.0, h.1, known_final w s row h.2))),
    ))
    (pairs_none FinalsFollow) (sym (append-nil rows))

-- ---- what is left of the books

pub books_left : (books : List BookValue) (i : ℕ) (book : BookValue) → i < length books → book ≡ get_or books i book
    → drop i books ≡ book ∷ drop (i + 1) books
books_left books i book within e =
    let next : suc i ≡ i + 1 = omega arith in
    drop-cons books i book within ∙ ap (λ b. b ∷ drop (suc i) books) (sym e) ∙ ap (λ n. book ∷ drop n books) next

-- ---- by the numbers that the code has of the days

pub gaps_begin : (w : World) (s : Stream) (first last from : ℕ) (books : List BookValue) (rows : List GapRow)
    → from ≡ first → rows ≡ [] → AreDaysOf w s first last books → GapsOnWay w s first last from books rows
gaps_begin w s first last from books rows e none are =
    subst (λ n. GapsOnWay w s first last n books rows) (sym e)
    (way_start (λ row. row.day) (λ row. row.gap.first) (IsGapRow w s) w s first last books rows are none)

pub gaps_next : (w : World) (s : Stream) (first last mid day : ℕ) (book : BookValue) (left books : List BookValue)
    (xs ys zs : List GapRow) → left ≡ book ∷ books → day ≡ book.day → ys ≡ xs ++ whole_days mid (day - mid)
    → AddsGaps book ys zs → GapsOnWay w s first last mid left xs → GapsOnWay w s first last (day + 1) books zs
gaps_next w s first last mid day book left books xs ys zs e same whole adds way =
    subst (λ n. GapsOnWay w s first last (n + 1) books zs) (sym same)
    (gaps_on w s first last mid book books xs ys zs (subst (λ bs. GapsOnWay w s first last mid bs xs) e way)
    (whole ∙ ap (λ n. xs ++ whole_days mid (n - mid)) same) adds)

pub gaps_done : (w : World) (s : Stream) (first last mid day : ℕ) (left : List BookValue) (xs zs : List GapRow)
    → left ≡ [] → day ≡ last → zs ≡ xs ++ whole_days mid (day + 1 - mid) → GapsOnWay w s first last mid left xs
    → AreGapRows w s first last zs
gaps_done w s first last mid day left xs zs e same whole way =
    gaps_end w s first last mid xs zs (subst (λ bs. GapsOnWay w s first last mid bs xs) e way)
    (whole ∙ ap (λ n. xs ++ whole_days mid (n + 1 - mid)) same)
