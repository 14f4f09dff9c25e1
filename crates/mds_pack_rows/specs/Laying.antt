-- The readings of a day combined with others of it.
use Rattle.std.specs.Prelude.{List, [], ◌∷◌, Option, Some, None, option_map}
use Rattle.std.specs.Option.{option_and_then}
use Rattle.mds_marks.specs.Reading.{ReadingValue}

-- what an interval has of both, if at most one has a reading there
abbrev pub held_of : Option ReadingValue → Option ReadingValue → Option (Option ReadingValue)
held_of None other = Some other
held_of (Some r) None = Some (Some r)
held_of (Some r) (Some other) = None

-- All readings of both. None if an interval has two, or the days have different counts of intervals.
abbrev pub laid : List (Option ReadingValue) → List (Option ReadingValue) → Option (List (Option ReadingValue))
laid [] [] = Some []
laid [] (other ∷ others) = None
laid (one ∷ ones) [] = None
laid (one ∷ ones) (other ∷ others) =
    option_and_then (λ held. option_map (λ more. held ∷ more) (laid ones others)) (held_of one other)
