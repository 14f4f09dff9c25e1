-- A day of a World: its unit and all its versions. Its heads are those of its versions.
use Rattle.std.specs.Prelude.{ℕ, List, [], ◌++◌, map, Option, Some, None}
use Rattle.std.specs.FinSet as set
use Rattle.mds_quantity.specs.declared.unit.Unit.{Unit as MeasureUnit}
use Rattle.mds_names.specs.declared.stream.Stream.{Stream}
use Rattle.mds_world.specs.Facts.{Fact, head_at, key_at}
use Rattle.mds_world.specs.Facts.Fact.{HeadIs, VersionIs}
use Rattle.mds_world.specs.Sets.{◌∈◌}
use Rattle.mds_world.specs.World.{IsOn, World}
use Rattle.mds_keeper.specs.declared.day_book.Version.{Version}

-- a day of a stream, its unit if it is known, and its versions with their intervals and lengths
pub record BookValue : Type 0 where
  pub stream : Stream
  pub day : ℕ
  pub unit : Option MeasureUnit
  pub rows : List (ℕ × Version)

-- the head of a row: that of its update
abbrev pub row_head : Stream → ℕ → MeasureUnit → ℕ × Version → Fact
row_head stream day unit row = HeadIs (head_at stream day row.1.update row.1.length unit)

-- the head of each row, if the day is known
abbrev pub head_facts : Stream → ℕ → Option MeasureUnit → List (ℕ × Version) → List Fact
head_facts stream day None rows = []
head_facts stream day (Some unit) rows = map (row_head stream day unit) rows

abbrev pub row_fact : Stream → ℕ → ℕ × Version → Fact
row_fact stream day row =
    VersionIs (key_at stream day row.1.length row.0 row.1.update) row.1.reading

abbrev pub book_facts : BookValue → List Fact
book_facts book = head_facts book.stream book.day book.unit book.rows ++ map (row_fact book.stream book.day) book.rows

-- the facts of a day's book, as a World
abbrev pub book_world : BookValue → World
book_world book = set.from_list (book_facts book)

-- The book has exactly the heads and the versions that the World has of its day.
pub record IsDay (w : World) (book : BookValue) : Type 0 where
  pub whole : (f : Fact) → IsOn book.stream book.day f → f ∈ w → f ∈ book_world book
  pub only : (f : Fact) → f ∈ book_world book → f ∈ w
