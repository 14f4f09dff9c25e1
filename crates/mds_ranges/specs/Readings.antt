-- The current readings of a day.
use Rattle.std.specs.Prelude.{◌≡◌, ℕ, ◌+◌, List, length, slice_get, Some}
use Rattle.mds_names.specs.declared.stream.Stream.{Stream}
use Rattle.mds_marks.specs.Reading.{ReadingValue}
use Rattle.mds_world.specs.Current.{IsDayReading}
use Rattle.mds_world.specs.World.{World}

-- The reading of each of `count` intervals, in order.
pub record AreReadings (w : World) (stream : Stream) (day count : ℕ) (readings : List ReadingValue) : Type 0 where
  pub count_is : length readings ≡ count
  pub each : (i : ℕ) (reading : ReadingValue) → slice_get readings i ≡ Some reading → IsDayReading w stream day (i + 1) reading
