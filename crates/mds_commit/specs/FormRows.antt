-- What the rows of mds_form and of mds_pack say that a query of a day shows (profile). Those of mds_form are an update and a
-- length, and those of mds_pack an update and a body.
use Rattle.std.specs.Prelude.{◌≡◌, ◌↔◌, ◌⊎◌, ℕ, List, [], ◌∷◌, ◌++◌, Some, map}
use Rattle.sqlite_value.specs.Order.{Row}
use Rattle.mds_names.specs.declared.stream.Stream.{Stream}
use Rattle.mds_quantity.specs.declared.unit.Unit.{Unit as MeasureUnit}
use Rattle.mds_world.specs.Facts.{Fact, head_at}
use Rattle.mds_world.specs.Facts.Fact.{HeadIs}
use Rattle.mds_world.specs.Lists.{Member}
use Rattle.mds_keeper.specs.Books.{BookValue, book_world, row_fact, row_head}
use Rattle.mds_keeper.specs.declared.day_book.Version.{Version}
use Rattle.mds_tables.specs.RowFacts.{natural_at}
use Rattle.mds_pack_rows.specs.DayRows.{AreHeldIn, shown_facts}

-- the columns of a row of mds_form that a query of a day shows: the update, and the length
abbrev pub form_columns : List ℕ
form_columns = 4 ∷ 5 ∷ []

-- the column of mds_form that has the day
abbrev pub form_day : ℕ
form_day = 3

-- the column of mds_head that has the unit
abbrev pub unit_columns : List ℕ
unit_columns = 5 ∷ []

-- the head that a row of mds_form says of a day with this unit
abbrev pub shown_head : Stream → ℕ → MeasureUnit → Row → Fact
shown_head s day unit form = HeadIs (head_at s day (natural_at form 0) (natural_at form 1) unit)

-- the heads of these versions are just those that rows of mds_form say
abbrev pub AreHeadsIn : List Row → List (ℕ × Version) → Type 0
AreHeadsIn forms versions =
    (s : Stream) (day : ℕ) (unit : MeasureUnit) (f : Fact)
    → Member f (map (row_head s day unit) versions) ↔ Member f (map (shown_head s day unit) forms)

-- These versions are those that rows of mds_pack say, under the heads that rows of mds_form say.
pub record AreUnder (forms packs : List Row) (versions : List (ℕ × Version)) : Type 0 where
  pub heads : AreHeadsIn forms versions
  pub held : AreHeldIn packs versions

-- One row of each table adds its versions, under its head.
pub record AddsRow (form pack : Row) (old new : List (ℕ × Version)) : Type 0 where
  pub held : (s : Stream) (day : ℕ) → map (row_fact s day) new ≡ map (row_fact s day) old ++ shown_facts s day pack
  pub head : (s : Stream) (day : ℕ) (unit : MeasureUnit) (f : Fact)
      → Member f (map (row_head s day unit) new) ↔ (Member f (map (row_head s day unit) old) ⊎ (f ≡ shown_head s day unit form))

-- The book is that of a day with this unit, and with the heads and the versions that rows say.
pub record IsBookOf (s : Stream) (day : ℕ) (unit : MeasureUnit) (forms packs : List Row) (book : BookValue) : Type 0 where
  pub versions : List (ℕ × Version)
  pub under : AreUnder forms packs versions
  pub stream : book.stream ≡ s
  pub on : book.day ≡ day
  pub says : book_world book ≡ book_world (record { stream = s; day = day; unit = Some unit; rows = versions })
