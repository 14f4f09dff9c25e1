-- The days of a selection in their order, each with the day before it.
use Rattle.std.specs.Prelude.{◌==◌, ◌&&◌, Bool, false, List, [], ◌∷◌, bytes_eq, Option, Some, None}
use Rattle.std.specs.List.{flat_map}
use Rattle.std.specs.Ordering.{eq_by_cmp}
use Rattle.mds_quantity.specs.Unit.{unit_text}
use Rattle.mds_terms.specs.Details.{details_cmp}
use Rattle.mds_statements.specs.declared.selected.SelectedDay.{SelectedDay}
use Rattle.mds_statements.specs.declared.selected.SelectedStream.{SelectedStream}

-- a day of a stream, and the day before it in that stream, if there is one
pub record PlacedDay : Type 0 where
  pub selected : SelectedStream
  pub before : Option SelectedDay
  pub day : SelectedDay

-- days of a stream that come after a day, or first
abbrev pub placed_after : SelectedStream → Option SelectedDay → List SelectedDay → List PlacedDay
placed_after selected before [] = []
placed_after selected before (day ∷ days) =
    record { selected = selected; before = before; day = day } ∷ placed_after selected (Some day) days

-- the days of all streams, stream by stream
abbrev pub placed_days : List SelectedStream → List PlacedDay
placed_days streams = flat_map (λ selected. placed_after selected None selected.days.items) streams

-- the day before it in its stream has the same length, unit and details, so that the 200 of that day governs it too
abbrev pub is_governed : Option SelectedDay → SelectedDay → Bool
is_governed None day = false
is_governed (Some before) day =
    (before.length == day.length) && bytes_eq (unit_text before.unit) (unit_text day.unit)
    && eq_by_cmp details_cmp before.details day.details
