-- Gaps and finals, one interval after the other.
use Rattle.std.proofs.Common.{◌≡◌, ℕ, ◌+◌, List, [], ◌∷◌, ◌++◌, refl, sym, ap, ◌∙◌, subst, inl, inr, arith}
use Rattle.std.specs.Prelude.{Result, Ok, Err, OnErr}
use Rattle.mds_calendar.specs.Length.{count_of}
use Rattle.mds_quantity.specs.declared.unit.Unit.{Unit as MeasureUnit}
use Rattle.mds_marks.specs.declared.mark.Mark.{Mark}
use Rattle.mds_world.specs.Current.{IsFormOf}
use Rattle.mds_world.specs.World.{IsKnownDay, IsLawful, World}
use Rattle.mds_keeper.specs.Books.{BookValue, IsDay, book_world}
use Rattle.mds_registers.specs.Stretches.{AreFinals, AreGaps, HasIntervals, IsFinalWith, IsNull, IsStretch}
use Rattle.mds_registers.specs.StretchesSteps.{TakesInFinal, TakesInNull}
use Rattle.mds_registers.specs.declared.stretches.Final.{Final}
use Rattle.mds_registers.specs.declared.stretches.Gap.{Gap}
use Rattle.mds_registers.proofs.BookReadings.{count_is, has_intervals, is_unknown, known_by_count, one_mark}
use Rattle.mds_registers.proofs.Tiles.{Tiles, are_all, are_stretches, ascending, begins, goes_on, none_more}

-- what holds holds after an error
pub on_err : {T E P : Type 0} (result : Result T E) → P → OnErr result P
on_err (Ok value) p = tt
on_err (Err error) p = p

-- the gaps of the intervals 1 to n
abbrev pub AreGapsTo : World → BookValue → ℕ → List Gap → Type 0
AreGapsTo w book n gaps =
    Tiles (λ gap. gap.first) (λ gap. gap.last) (λ gap. IsNull w book.stream book.day) 1 n gaps

-- the finals of the intervals 1 to n
abbrev pub AreFinalsTo : World → BookValue → ℕ → List Final → Type 0
AreFinalsTo w book n finals =
    Tiles (λ f. f.first) (λ f. f.last) (λ f. IsFinalWith w book.stream book.day f.mark) 1 n finals

abbrev gap_first : Gap → ℕ
gap_first gap = gap.first

abbrev gap_last : Gap → ℕ
gap_last gap = gap.last

abbrev final_first : Final → ℕ
final_first f = f.first

abbrev final_last : Final → ℕ
final_last f = f.last

same_gap : (i : ℕ) (a b : Gap) → a.first ≡ b.first → a.last ≡ b.last → a ≡ b
same_gap i a b e f = λ k. record { first = e k; last = f k }

same_final : (a b : Final) → a.mark ≡ b.mark → a.first ≡ b.first → a.last ≡ b.last → a ≡ b
same_final a b m e f = λ k. record { first = e k; last = f k; mark = m k }

-- an interval that isn't null, and one that is
pub gaps_stay : (w : World) (book : BookValue) (n : ℕ) (gaps : List Gap)
    → (IsNull w book.stream book.day (n + 1) → ⊥) → AreGapsTo w book n gaps → AreGapsTo w book (n + 1) gaps
gaps_stay w book n gaps none t =
    none_more gap_first gap_last (λ gap. IsNull w book.stream book.day) 1 n gaps (λ y. none) t

pub gaps_grow : (w : World) (book : BookValue) (n : ℕ) (old new : List Gap) → IsNull w book.stream book.day (n + 1)
    → TakesInNull (n + 1) old new → AreGapsTo w book n old → AreGapsTo w book (n + 1) new
gaps_grow w book n old new here (inl x) t =
    let front = x.0 in let gap = x.1 in let next = x.3 in
    let N = λ (g : Gap). IsNull w book.stream book.day in
    subst (AreGapsTo w book (n + 1)) (sym x.4)
    (goes_on gap_first gap_last N 1 n front gap (record gap { last = n + 1 }) (omega arith) refl refl (λ i q. q) here
    (subst (AreGapsTo w book n) x.2 t))
gaps_grow w book n old new here (inr x) t =
    let N = λ (g : Gap). IsNull w book.stream book.day in
    subst (AreGapsTo w book (n + 1)) (sym x.1)
    (begins gap_first gap_last N 1 n old (record { first = n + 1; last = n + 1 }) (omega arith) refl refl here
    (λ front gap e l q. x.0 front gap e (omega arith)) t)

-- an interval that isn't final, and one that is
pub finals_stay : (w : World) (book : BookValue) (n : ℕ) (finals : List Final)
    → ((mark : Mark) → IsFinalWith w book.stream book.day mark (n + 1) → ⊥) → AreFinalsTo w book n finals
    → AreFinalsTo w book (n + 1) finals
finals_stay w book n finals none t =
    none_more final_first final_last (λ f. IsFinalWith w book.stream book.day f.mark) 1 n finals (λ y. none y.mark) t

pub finals_grow : (w : World) (book : BookValue) (n : ℕ) (mark : Mark) (old new : List Final) → IsDay w book
    → IsLawful (book_world book) → IsFinalWith w book.stream book.day mark (n + 1) → TakesInFinal (n + 1) mark old new
    → AreFinalsTo w book n old → AreFinalsTo w book (n + 1) new
finals_grow w book n mark old new is lawful here (inl x) t =
    let front = x.0 in let f = x.1 in let next = x.3.0 in
    let F = λ (g : Final). IsFinalWith w book.stream book.day g.mark in
    subst (AreFinalsTo w book (n + 1)) (sym x.4)
    (goes_on final_first final_last F 1 n front f (record f { last = n + 1 }) (omega arith) refl refl (λ i q. q)
    (subst (λ m. IsFinalWith w book.stream book.day m (n + 1)) (sym x.3.1) here) (subst (AreFinalsTo w book n) x.2 t))
finals_grow w book n mark old new is lawful here (inr x) t =
    let F = λ (g : Final). IsFinalWith w book.stream book.day g.mark in
    subst (AreFinalsTo w book (n + 1)) (sym x.1)
    (begins final_first final_last F 1 n old (record { first = n + 1; last = n + 1; mark = mark }) (omega arith) refl refl here
    (λ front f e l q. x.0 front f e (omega arith, one_mark w book (n + 1) f.mark mark is lawful q here)) t)

-- all intervals
pub gaps_are : (w : World) (book : BookValue) (form : ℕ × MeasureUnit) (n : ℕ) (gaps : List Gap) → IsDay w book
    → IsLawful (book_world book) → IsFormOf (book_world book) book.stream book.day form.0 form.1 → n ≡ count_of form.0
    → AreGapsTo w book n gaps → AreGaps w book.stream book.day gaps
gaps_are w book form n gaps is lawful some count t =
    let N = λ (g : Gap). IsNull w book.stream book.day in
    let alike = λ (i j : ℕ) (a b : Gap) (p : IsNull w book.stream book.day i) (q : IsNull w book.stream book.day i) (r : IsNull w book.stream book.day j). r in
    let same = λ (i : ℕ) (a b : Gap) (p : IsNull w book.stream book.day i) (q : IsNull w book.stream book.day i) (e : a.first ≡ b.first) (f : a.last ≡ b.last). same_gap i a b e f in
    let has = has_intervals w book form is some in
    record {
      each = λ gap. (
        (λ m. inl (
          n,
          subst (λ k. HasIntervals w book.stream book.day k) (sym count) has,
          are_stretches gap_first gap_last N alike same 1 n gaps gap (omega arith) (λ y over. absurd (omega arith)) t m,
        )),
        (λ is_gap. elim is_gap [
          | inl x ↦
              let e : x.0 ≡ n = count_is w book form x.0 is lawful some x.1 ∙ sym count in
              let stretch = subst (λ k. IsStretch (IsNull w book.stream book.day) k gap.first gap.last) e x.2 in
              are_all gap_first gap_last N alike same 1 n gaps gap (omega arith) stretch.from_one stretch t
          | inr x ↦ absurd (x.0 (known_by_count w book.stream book.day (count_of form.0) has))
        ]),
      );
      ascending = ascending gap_first gap_last N 1 n gaps t;
    }

pub finals_are : (w : World) (book : BookValue) (form : ℕ × MeasureUnit) (n : ℕ) (finals : List Final) → IsDay w book
    → IsLawful (book_world book) → IsFormOf (book_world book) book.stream book.day form.0 form.1 → n ≡ count_of form.0
    → AreFinalsTo w book n finals → AreFinals w book.stream book.day finals
finals_are w book form n finals is lawful some count t =
    let F = λ (g : Final). IsFinalWith w book.stream book.day g.mark in
    let alike = λ (i j : ℕ) (a b : Final) (p : F a i) (q : F b i) (r : F a j).
    subst (λ m. IsFinalWith w book.stream book.day m j) (one_mark w book i a.mark b.mark is lawful p q) r in
    let same = λ (i : ℕ) (a b : Final) (p : F a i) (q : F b i) (e : a.first ≡ b.first) (f : a.last ≡ b.last).
    same_final a b (one_mark w book i a.mark b.mark is lawful p q) e f in
    let has = has_intervals w book form is some in
    record {
      each = λ f. (
        (λ m. (
          n,
          subst (λ k. HasIntervals w book.stream book.day k) (sym count) has,
          are_stretches final_first final_last F alike same 1 n finals f (omega arith) (λ y over. absurd (omega arith)) t m,
        )),
        (λ is_final.
            let e : is_final.0 ≡ n = count_is w book form is_final.0 is lawful some is_final.1 ∙ sym count in
            let stretch = subst (λ k. IsStretch (F f) k f.first f.last) e is_final.2 in
            are_all final_first final_last F alike same 1 n finals f (omega arith) stretch.from_one stretch t),
      );
      ascending = ascending final_first final_last F 1 n finals t;
    }

-- a day that isn't known
pub unknown_gaps : (w : World) (book : BookValue) (none gaps : List Gap) → IsDay w book
    → (IsKnownDay (book_world book) book.stream book.day → ⊥) → none ≡ []
    → gaps ≡ none ++ record { first = 0; last = 0 } ∷ [] → AreGaps w book.stream book.day gaps
unknown_gaps w book none gaps is no_form empty are =
    let unknown = is_unknown w book is no_form in
    let one : gaps ≡ record { first = 0; last = 0 } ∷ [] =
    are ∙ ap (λ (front : List Gap). front ++ record { first = 0; last = 0 } ∷ []) empty in
    subst (AreGaps w book.stream book.day) (sym one) (record {
      each = λ gap. (
        (λ m. elim m [
          | inl e ↦ inr (unknown, ap gap_first e, ap gap_last e)
          | inr z ↦ absurd z
        ]),
        (λ is_gap. elim is_gap [
          | inl x ↦ absurd (unknown (known_by_count w book.stream book.day x.0 x.1))
          | inr x ↦ inl (same_gap 0 gap (record { first = 0; last = 0 }) x.1 x.2)
        ]),
      );
      ascending = λ i j d a b. absurd (omega arith);
    })

pub unknown_finals : (w : World) (book : BookValue) (finals : List Final) → IsDay w book
    → (IsKnownDay (book_world book) book.stream book.day → ⊥) → finals ≡ []
    → AreFinals w book.stream book.day finals
unknown_finals w book finals is none e =
    let unknown = is_unknown w book is none in
    subst (AreFinals w book.stream book.day) (sym e) (record {
      each = λ f. ((λ m. absurd m), (λ x. absurd (unknown (known_by_count w book.stream book.day x.0 x.1))));
      ascending = λ i j d a b. absurd (omega arith);
    })
