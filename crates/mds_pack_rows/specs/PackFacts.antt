-- What the rows of mds_pack say, as facts (profile). Each row names the versions of its body, no matter who wrote it. A
-- body that can't be read says none, so any tables name a World.
use Rattle.std.specs.Prelude.{◌≡◌, ℕ, ◌+◌, ◌==◌, if◌then◌else◌, List, [], ◌∷◌, drop, length, Option, Some, None, unwrap_or}
use Rattle.std.specs.Int.{w16}
use Rattle.std.specs.List.{flat_map}
use Rattle.sqlite.specs.declared.types.Value.TheVariants.{Blob}
use Rattle.sqlite_trees.specs.Tree.{Trees}
use Rattle.sqlite_value.specs.Order.{Row, column}
use Rattle.mds_names.specs.declared.stream.Stream.{Stream}
use Rattle.mds_marks.specs.Reading.{ReadingValue}
use Rattle.mds_packs.specs.Unpacked.{◌>>=◌, number_at, unpacked}
use Rattle.mds_world.specs.Facts.{Fact, key_at}
use Rattle.mds_world.specs.Facts.Fact.{VersionIs}
use Rattle.mds_tables.specs.RowFacts.{natural_at, stream_in, text_at}
use Rattle.mds_pack_rows.specs.PackTables.{pack_tree}

-- The length of the intervals of a day with this count of them, in minutes. It is 0 if no length has this count.
abbrev pub minutes_of : ℕ → ℕ
minutes_of count = if count == 48 then 30 else (if count == 96 then 15 else (if count == 288 then 5 else 0))

-- Readings from an interval on, as versions of one length and one update. An interval without a reading has no version.
abbrev pub facts_from : Stream → ℕ → ℕ → ℕ → ℕ → List (Option ReadingValue) → List Fact
facts_from s day minutes update interval [] = []
facts_from s day minutes update interval (None ∷ readings) = facts_from s day minutes update (interval + 1) readings
facts_from s day minutes update interval (Some r ∷ readings) =
    VersionIs (key_at s day minutes interval update) r
    ∷ facts_from s day minutes update (interval + 1) readings

-- those of a whole day; the length is the one with this count of intervals
abbrev pub readings_facts : Stream → ℕ → ℕ → List (Option ReadingValue) → List Fact
readings_facts s day update readings = facts_from s day (minutes_of (length readings)) update 1 readings

-- the readings of these bytes, if they are a body, for as many intervals as they say themselves
abbrev pub readings_in : List ℕ → Option (List (Option ReadingValue))
readings_in body = do
  count ← number_at w16 (drop 1 body)
  unpacked count.0 body

-- a column has a body, and these are its readings
abbrev pub IsSaidAt : Row → ℕ → List (Option ReadingValue) → Type 0
IsSaidAt row at readings = (body : List ℕ) × (column row at ≡ Blob body) × (readings_in body ≡ Some readings)

-- the versions of one update that a body says
abbrev pub body_facts : Stream → ℕ → ℕ → List ℕ → List Fact
body_facts s day update body = readings_facts s day update (unwrap_or (readings_in body) [])

abbrev pub pack_facts : Row → List Fact
pack_facts row = body_facts (stream_in row) (natural_at row 3) (natural_at row 4) (text_at row 5)

-- the versions that the rows of mds_pack name, row by row
abbrev pub pack_versions : Trees → List Fact
pack_versions trees = flat_map pack_facts (trees pack_tree)
