-- What rows of a day say. Each is the update and the body of a row of mds_pack (profile).
use Rattle.std.specs.Prelude.{◌≡◌, ℕ, List, map}
use Rattle.std.specs.List.{flat_map}
use Rattle.sqlite_value.specs.Order.{Row}
use Rattle.mds_names.specs.declared.stream.Stream.{Stream}
use Rattle.mds_world.specs.Facts.{Fact}
use Rattle.mds_keeper.specs.Books.{row_fact}
use Rattle.mds_keeper.specs.declared.day_book.Version.{Version}
use Rattle.mds_tables.specs.RowFacts.{natural_at, text_at}
use Rattle.mds_pack_rows.specs.PackFacts.{body_facts}

-- the versions that one row says
abbrev pub shown_facts : Stream → ℕ → Row → List Fact
shown_facts s day shown = body_facts s day (natural_at shown 0) (text_at shown 1)

-- these versions are those that the rows say, one row after the other
abbrev pub AreHeldIn : List Row → List (ℕ × Version) → Type 0
AreHeldIn rows versions =
    (s : Stream) (day : ℕ) → map (row_fact s day) versions ≡ flat_map (shown_facts s day) rows
