-- Rows of a range of days, cut by day (profile). They are shown as the rows of one day are, with the day in their third
-- column.
use Rattle.std.specs.Prelude.{◌≡◌, ◌≢◌, ◌⊎◌, ◌<◌, ℕ, List, [], ◌∷◌, ◌++◌, map}
use Rattle.std.specs.List.{AllPairs, flat_map}
use Rattle.sqlite_value.specs.Order.{Row}
use Rattle.mds_names.specs.declared.stream.Stream.{Stream}
use Rattle.mds_quantity.specs.declared.unit.Unit.{Unit as MeasureUnit}
use Rattle.mds_world.specs.Lists.{Member}
use Rattle.mds_keeper.specs.Books.{BookValue}
use Rattle.mds_tables.specs.RowFacts.{natural_at, text_at, unit_named}
use Rattle.mds_commit.specs.FormRows.{IsBookOf}
use Rattle.mds_commit.specs.Ranges.{AreOfDay}

-- the columns of a row of mds_form or of mds_pack that a query of a range shows
abbrev pub range_columns : List ℕ
range_columns = 4 ∷ 5 ∷ 3 ∷ []

-- those of a row of mds_head: the day, and the unit
abbrev pub day_columns : List ℕ
day_columns = 3 ∷ 5 ∷ []

-- what is shown of a row of mds_head
abbrev pub day_unit : Row → ℕ × MeasureUnit
day_unit row = (natural_at row 0, unit_named (text_at row 1))

-- each day is before those after it
abbrev pub DaysAscend : List (ℕ × MeasureUnit) → Type 0
DaysAscend days = AllPairs (λ a b. a.0 < b.0) days

-- a known day: its book and its unit, with its rows of mds_form and of mds_pack
pub record DayCut : Type 0 where
  pub book : BookValue
  pub unit : MeasureUnit
  pub forms : List Row
  pub packs : List Row

-- A known day is one of these days with their units. Its book is made of its rows, of which at least one is in mds_form.
pub record IsCut (s : Stream) (days : List (ℕ × MeasureUnit)) (cut : DayCut) : Type 0 where
  pub listed : Member (cut.book.day, cut.unit) days
  pub some : cut.forms ≢ []
  pub of_forms : AreOfDay cut.book.day cut.forms
  pub of_packs : AreOfDay cut.book.day cut.packs
  pub made : IsBookOf s cut.book.day cut.unit cut.forms cut.packs cut.book

-- The books are those of the known days among these, in the same order. All rows are theirs.
pub record AreCut (s : Stream) (days : List (ℕ × MeasureUnit)) (forms packs : List Row) (books : List BookValue) : Type 0 where
  pub cuts : List DayCut
  pub each : (cut : DayCut) → Member cut cuts → IsCut s days cut
  pub ascending : AllPairs (λ (a b : DayCut). a.book.day < b.book.day) cuts
  pub of_books : books ≡ map (λ (cut : DayCut). cut.book) cuts
  pub of_forms : forms ≡ flat_map (λ (cut : DayCut). cut.forms) cuts
  pub of_packs : packs ≡ flat_map (λ (cut : DayCut). cut.packs) cuts

-- A day adds its book if it has a row of mds_form. If it has none it isn't known, and has no row of mds_pack either.
abbrev pub AddsDay : Stream → ℕ → MeasureUnit → List Row → List Row → List BookValue → List BookValue → Type 0
AddsDay s day unit forms packs old new =
    ((forms ≡ []) × (packs ≡ []) × (new ≡ old))
    ⊎ ((book : BookValue) × (forms ≢ []) × IsBookOf s day unit forms packs book × (new ≡ old ++ book ∷ []))
