-- When rows and a unit make a day's book.
use Rattle.std.specs.Prelude.{◌≡◌, ◌⊎◌, ◌≤◌, ◌==◌, ℕ, Bool, true, false, List, [], ◌∷◌, length, map, max, Option, Some, None, is_some, not, refl}
use Rattle.std.specs.Bool.{MatchBool}
use Rattle.std.specs.List.{AllPairs, reduce}
use Rattle.std.proofs.Common.{sym, ap, ◌∙◌, subst, inl, inr, arith}
use Rattle.std.proofs.lemmas.Bool.Decides.{eqb_tells}
use Rattle.mds_quantity.specs.declared.unit.Unit.{Unit as MeasureUnit}
use Rattle.mds_names.specs.declared.stream.Stream.{Stream}
use Rattle.mds_world.proofs.Lists.{in_map, map_in}
use Rattle.mds_world.specs.Lists.{Member}
use Rattle.mds_world.specs.World.{IsLawful, World}
use Rattle.mds_keeper.specs.Books.{BookValue, IsDay, book_world}
use Rattle.mds_keeper.proofs.BookFacts.{lawful_book, lawful_day, no_misfit, one_minutes, one_reading, same_rows}
use Rattle.mds_keeper.proofs.BookReads.{greatest_of}
use Rattle.std.specs.FinSet as set
use Rattle.mds_keeper.specs.BookRows.{AreWithin, Fits, IsBefore, IsBook, IsFormOfRows, IsLengthIn, IsOneOutside, Misfits, OneLength, TwoLengths, unit_of}
use Rattle.mds_keeper.specs.BookOrder.{SameMembers, TwoReadings}
use Rattle.mds_keeper.specs.declared.day_book.Version.{Version}
use Rattle.mds_keeper.proofs.BookRowsMade.{one_each}

-- rows of one length under each update, with a unit
pub fit_some : (known : Option MeasureUnit) (rows : List (ℕ × Version)) (unit : MeasureUnit) (r : Bool) → known ≡ Some unit
    → OneLength rows → MatchBool r (AreWithin rows) (IsOneOutside rows) → MatchBool r (Fits known rows) (Misfits known rows)
fit_some known rows unit true e one within =
    subst (λ (o : Option MeasureUnit). Fits o rows) (sym e) (one, within)
fit_some known rows unit false e one out =
    subst (λ (o : Option MeasureUnit). Misfits o rows) (sym e) (inr out)

-- rows without one
pub fit_none : (known : Option MeasureUnit) (rows : List (ℕ × Version)) → known ≡ None
    → MatchBool (length rows == 0) (Fits known rows) (Misfits known rows)
fit_none known [] e =
    subst (λ (o : Option MeasureUnit). MatchBool (length {A = ℕ × Version} [] == 0) (Fits o []) (Misfits o []))
    (sym e) refl
fit_none known (row ∷ rows) e = elim (eqb_tells (length (row ∷ rows)) 0) [
  | inl p ↦ let none = p.1 in absurd (omega arith)
  | inr p ↦
      subst (λ b. MatchBool b (Fits known (row ∷ rows)) (Misfits known (row ∷ rows))) (sym p.0)
      (subst (λ (o : Option MeasureUnit). Misfits o (row ∷ rows)) (sym e) (row, inl refl))
]

-- whether there is a unit
pub no_unit : (known : Option MeasureUnit) (none : Bool) → is_some known ≡ not none → none ≡ true → known ≡ None
no_unit None none e t = refl
no_unit (Some unit) true e t = cc
no_unit (Some unit) false e t = cc

pub some_unit : (known : Option MeasureUnit) (none : Bool) → is_some known ≡ not none → none ≡ false
    → (unit : MeasureUnit) × (known ≡ Some unit)
some_unit None true e t = cc
some_unit None false e t = cc
some_unit (Some unit) none e t = (unit, refl)

-- ---- the form of rows

module _ (rows : List (ℕ × Version)) where
  abbrev update_of : ℕ × Version → ℕ
  update_of row = row.1.update

  -- the greatest update has a row, so it has a length
  pub some_length : (update : ℕ) → Some update ≡ reduce max (map update_of rows) → IsLengthIn rows update None → ⊥
  some_length update e none =
      let r = in_map update_of rows update (greatest_of (map update_of rows) update e).0 in
      none r.0 r.1 (sym r.2)

  -- and that is the form's
  pub form_of_length : (update : ℕ) → Some update ≡ reduce max (map update_of rows) → (form : ℕ × MeasureUnit)
      → IsLengthIn rows update (Some form.0) → IsFormOfRows (Some form) rows
  form_of_length update e form (row, m, of_update, same) = (
    row,
    m,
    same,
    (λ other n.
        subst (λ u. other.1.update ≤ u) (sym of_update)
        ((greatest_of (map update_of rows) update e).1 other.1.update (map_in update_of rows other n))),
  )

-- without one there is no row
pub no_update : (rows : List (ℕ × Version)) → None ≡ reduce max (map (λ (row : ℕ × Version). row.1.update) rows) → rows ≡ []
no_update [] e = refl
no_update (row ∷ rows) e = cc

-- ---- what no lawful World has

-- no lawful World has a day with two readings of an interval and update
pub two_refused : (book : BookValue) → TwoReadings book.rows → (w : World) → IsLawful w → IsDay w book → ⊥
two_refused book (a, b, m, n, e, f, apart) w lawful day =
    apart (one_reading book (lawful_day w book lawful day) a b m n e f)

-- or with two lengths under an update
pub lengths_refused : (book : BookValue) → TwoLengths book.rows → (w : World) → IsLawful w → IsDay w book → ⊥
lengths_refused book (a, b, m, n, e, other) w lawful day =
    other (one_minutes book (lawful_day w book lawful day) a b m n e)

-- two readings stay, however the rows lie
pub readings_kept : (rows sorted : List (ℕ × Version)) → SameMembers rows sorted → TwoReadings sorted → TwoReadings rows
readings_kept rows sorted same (a, b, m, n, e, f, apart) = (a, b, same.only a m, same.only b n, e, f, apart)

module _ (stream : Stream) (day : ℕ) (unit : Option MeasureUnit) (rows sorted : List (ℕ × Version))
    (same : SameMembers rows sorted) where
  -- the rows in order say what they said
  pub same_world : book_world (record { stream = stream; day = day; unit = unit; rows = sorted })
      ≡ book_world (record { stream = stream; day = day; unit = unit; rows = rows })
  same_world = same_rows (record { stream = stream; day = day; unit = unit; rows = sorted })
      (record { stream = stream; day = day; unit = unit; rows = rows }) refl refl refl same.only same.kept

  -- no lawful World has a day whose rows don't fit its unit
  pub misfit_refused : Misfits unit sorted → (w : World) → IsLawful w
      → IsDay w (record { stream = stream; day = day; unit = unit; rows = rows }) → ⊥
  misfit_refused bad w lawful is =
      no_misfit (record { stream = stream; day = day; unit = unit; rows = sorted })
      (subst IsLawful (sym same_world)
      (lawful_day w (record { stream = stream; day = day; unit = unit; rows = rows }) lawful is)) bad

-- rows that ascend and fit the unit are a book
pub is_book : (book : BookValue) → AllPairs IsBefore book.rows → Fits book.unit book.rows → IsBook book
is_book book up fits = record { lawful = lawful_book book (one_each book.rows up) fits; ascending = up }

-- the unit of a form is that of its rows, and without rows it says nothing
pub same_unit : (stream : Stream) (day : ℕ) (unit : Option MeasureUnit) (form : Option (ℕ × MeasureUnit)) (rows : List (ℕ × Version))
    → IsFormOfRows form rows → (rows ≡ []) ⊎ (unit_of form ≡ unit)
    → book_world (record { stream = stream; day = day; unit = unit_of form; rows = rows })
    ≡ book_world (record { stream = stream; day = day; unit = unit; rows = rows })
same_unit stream day unit form rows is (inr e) = ap (λ u. book_world (record { stream = stream; day = day; unit = u; rows = rows })) e
same_unit stream day unit form rows is (inl none) =
    subst (λ l. book_world (record { stream = stream; day = day; unit = unit_of form; rows = l })
    ≡ book_world (record { stream = stream; day = day; unit = unit; rows = l })) (sym none) (empty (unit_of form) ∙ sym (empty unit))
  where
    empty : (u : Option MeasureUnit) → book_world (record { stream = stream; day = day; unit = u; rows = [] }) ≡ set.empty
    empty None = refl
    empty (Some x) = refl

-- rows fit the unit of their form, too
pub fits_form : (unit : Option MeasureUnit) (form : Option (ℕ × MeasureUnit)) (rows : List (ℕ × Version)) → Fits unit rows
    → (rows ≡ []) ⊎ (unit_of form ≡ unit) → IsFormOfRows form rows → Fits (unit_of form) rows
fits_form unit form rows fits (inr e) is = subst (λ u. Fits u rows) (sym e) fits
fits_form unit None rows fits (inl none) is = none
fits_form unit (Some form) rows fits (inl none) is = absurd (subst (Member is.0) none is.1)
