-- What queries of a range of days show.
use Rattle.std.specs.Prelude.{◌≡◌, ◌≤◌, ◌↔◌, ℕ, List, map}
use Rattle.std.specs.List.{All}
use Rattle.sqlite_trees.specs.Tree.{Trees}
use Rattle.sqlite_value.specs.Order.{Row, column}
use Rattle.mds_names.specs.declared.stream.Stream.{Stream}
use Rattle.mds_world.specs.Lists.{Member}
use Rattle.mds_tables.specs.Cells.{day_cells}
use Rattle.mds_tables.specs.RowFacts.{natural_at}
use Rattle.mds_tables.specs.Stores.{Begins}

-- the row begins with the stream, and then a day from the first to the last
abbrev pub IsInRange : Stream → ℕ → ℕ → Row → Type 0
IsInRange s first last row = (day : ℕ) × (first ≤ day) × (day ≤ last) × Begins (day_cells s day) row

-- The rows of a tree that are in a range of days of a stream, each shown by its columns at these
-- places.
abbrev pub SelectsRange : ℕ → Stream → ℕ → ℕ → List ℕ → Trees → List Row → Type 0
SelectsRange tree s first last places trees rows =
    (shown : Row) → Member shown rows
    ↔ ((row : Row) × Member row (trees tree) × IsInRange s first last row × (shown ≡ map (column row) places))

-- each of the rows is of the day, which is in their third column
abbrev pub AreOfDay : ℕ → List Row → Type 0
AreOfDay day rows = All (λ row. natural_at row 2 ≡ day) rows
