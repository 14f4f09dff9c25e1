-- How a selection is tested for its order: private steps.
use Rattle.std.specs.Prelude.{Bool, true, ◌&&◌, ◌==◌, List, [], ◌∷◌, length, nat_lt, Option, None, Some}
use Rattle.std.specs.Ordering.{is_lt}
use Rattle.mds_calendar.specs.Length.{count_of}
use Rattle.mds_statements.specs.Selected.{stream_cmp}
use Rattle.mds_statements.specs.declared.selected.SelectedDay.{SelectedDay}
use Rattle.mds_statements.specs.declared.selected.SelectedStream.{SelectedStream}

-- a day has a reading for each interval
abbrev pub has_all : SelectedDay → Bool
has_all day = length day.readings == count_of day.length

-- a day comes after the last one, and has a reading for each interval
abbrev pub day_follows : Option SelectedDay → SelectedDay → Bool
day_follows None day = has_all day
day_follows (Some last) day = nat_lt last.date day.date && has_all day

-- days follow a last one, each the one before
abbrev pub days_follow : Option SelectedDay → List SelectedDay → Bool
days_follow last [] = true
days_follow last (day ∷ days) = day_follows last day && days_follow (Some day) days

-- a stream comes after the last one
abbrev pub is_after : Option SelectedStream → SelectedStream → Bool
is_after None selected = true
is_after (Some last) selected = is_lt (stream_cmp last.stream selected.stream)

-- and its days are in order
abbrev pub stream_follows : Option SelectedStream → SelectedStream → Bool
stream_follows last selected = is_after last selected && days_follow None selected.days.items

-- streams follow a last one, each the one before
abbrev pub streams_follow : Option SelectedStream → List SelectedStream → Bool
streams_follow last [] = true
streams_follow last (selected ∷ streams) = stream_follows last selected && streams_follow (Some selected) streams
