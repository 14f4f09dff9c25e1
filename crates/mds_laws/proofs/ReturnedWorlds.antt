-- What an export states, taken in again: of Worlds, without the machine.
use Rattle.std.specs.Prelude.{◌≡◌, ◌↔◌, ℕ, ◌+◌, List}
use Rattle.mds_names.specs.declared.stream.Stream.{Stream}
use Rattle.mds_statements.specs.Statements.{HeaderValue}
use Rattle.mds_world.specs.Counts.{added_by, known_by}
use Rattle.mds_world.specs.Current.{HasSameDetails}
use Rattle.mds_world.specs.Stated.{stated}
use Rattle.mds_world.specs.World.{Agrees, IsKnownDay, IsLawful, World, union}
use Rattle.mds_nem12.specs.Statements.{statements_of}
use Rattle.mds_export.specs.Shows.{Shows, selection_stated}
use Rattle.mds_statements.specs.declared.selected.SelectedStream.{SelectedStream}
use Rattle.mds_ranges.specs.Selections.{IsSelection}
use Rattle.mds_laws.specs.Returns.{IsAskedFor, IsSameDay, intervals_in}

-- The facts of a text of a selection are those of its statements without their lines, and it has as many intervals.
abbrev pub StatesTheSelection : Type 0
StatesTheSelection =
    (header : HeaderValue) (streams : List SelectedStream) (text : List ℕ) → Shows header streams text
    → (stated (statements_of text) ≡ stated (selection_stated header streams))
    × (intervals_in (statements_of text) ≡ intervals_in (selection_stated header streams))

-- What an export of a lawful World states agrees. It knows just the days that were asked for, each with the same current length
-- and unit, the same current details and the same current readings.
abbrev pub ComesBackAlone : Type 0
ComesBackAlone =
    (w : World) (nmi : List ℕ) (suffixes : List (List ℕ)) (first last : ℕ) (header : HeaderValue)
    (streams : List SelectedStream) → IsLawful w → IsSelection w nmi suffixes first last streams
    → Agrees (stated (selection_stated header streams))
    × ((stream : Stream) (day : ℕ) → IsKnownDay (stated (selection_stated header streams)) stream day
    ↔ IsAskedFor w nmi suffixes first last stream day)
    × ((stream : Stream) (day : ℕ) → IsAskedFor w nmi suffixes first last stream day
    → IsSameDay w (stated (selection_stated header streams)) stream day
    × HasSameDetails w (stated (selection_stated header streams)) stream day)

-- It agrees with that World too. Together with it each day has the current length and unit, the current details and the current
-- readings that it had. What comes in and what is there are its intervals.
abbrev pub ComesBackHome : Type 0
ComesBackHome =
    (w : World) (nmi : List ℕ) (suffixes : List (List ℕ)) (first last : ℕ) (header : HeaderValue)
    (streams : List SelectedStream) → IsLawful w → IsSelection w nmi suffixes first last streams
    → Agrees (union w (stated (selection_stated header streams)))
    × ((stream : Stream) (day : ℕ) → IsSameDay w (union w (stated (selection_stated header streams))) stream day
    × HasSameDetails w (union w (stated (selection_stated header streams))) stream day)
    × (added_by w (stated (selection_stated header streams)) + known_by w (stated (selection_stated header streams))
    ≡ intervals_in (selection_stated header streams))
