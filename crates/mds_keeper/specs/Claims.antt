-- What a claim adds to a day's book: which rule it breaks first, and which of its versions the book doesn't have.
use Rattle.std.specs.Prelude.{◌≡◌, ◌≢◌, ℕ, ◌+◌, ◌<◌, Bool, cond, nat_eq, List, [], ◌∷◌, ◌++◌, length, Option, Some}
use Rattle.std.specs.List.{list_any, slice_get}
use Rattle.std.specs.FinSet as set
use Rattle.mds_calendar.specs.Length.{count_of}
use Rattle.mds_quantity.specs.declared.unit.Unit.{Unit as MeasureUnit}
use Rattle.mds_marks.specs.Reading.{ReadingValue}
use Rattle.mds_world.specs.declared.facts.Head.{Head}
use Rattle.mds_world.specs.declared.facts.Key.{Key}
use Rattle.mds_world.specs.Facts.{head_at, key_at}
use Rattle.mds_world.specs.Facts.Fact.{VersionIs}
use Rattle.mds_world.specs.Lists.{Member}
use Rattle.mds_world.specs.Sets.{◌∈◌}
use Rattle.mds_world.specs.World.{World}
use Rattle.mds_keeper.specs.BookRows.{IsLengthIn}
use Rattle.mds_keeper.specs.Books.{BookValue, book_world}
use Rattle.mds_keeper.specs.declared.day_book.Version.{Version}
use Rattle.mds_keeper.specs.declared.refusal.RefusalCode.{RefusalCode}
use Rattle.mds_keeper.specs.declared.refusal.RefusalCode.TheVariants.{LengthConflict, UnitConflict}

-- the key of a version of a book's day
abbrev pub key_of : BookValue → ℕ → ℕ → ℕ → Key
key_of book minutes interval update = key_at book.stream book.day minutes interval update

-- a claim's reading of the interval after k equals that of the World, if it has one of that length under the update
abbrev pub Suits : World → BookValue → ℕ → ℕ → List ReadingValue → ℕ → Type 0
Suits w book minutes update readings k =
    (mine other : ReadingValue) → slice_get readings k ≡ Some mine
    → VersionIs (key_of book minutes (k + 1) update) other ∈ w → other ≡ mine

-- the World has another reading of that interval under the update
abbrev pub Contradicts : World → BookValue → ℕ → ℕ → List ReadingValue → ℕ → Type 0
Contradicts w book minutes update readings k =
    (mine : ReadingValue) × (other : ReadingValue) × (slice_get readings k ≡ Some mine)
    × (VersionIs (key_of book minutes (k + 1) update) other ∈ w) × (other ≢ mine)

-- the first interval, from 1, that is wrong, after intervals that are right
abbrev pub IsFirst : (ℕ → Type 0) → (ℕ → Type 0) → ℕ → Type 0
IsFirst IsWrong IsRight interval =
    (k : ℕ) × (interval ≡ k + 1) × IsWrong k × ((j : ℕ) → j < k → IsRight j)

-- it equals what is known, if something is
abbrev pub SuitsKnown : {T : Type 0} → Option T → T → Type 0
SuitsKnown known one = (other : _) → known ≡ Some other → other ≡ one

-- something else is known
abbrev pub IsOther : {T : Type 0} → Option T → T → Type 0
IsOther known one = (other : _) × (known ≡ Some other) × (other ≢ one)

-- The rule that a length and a unit break, given the length known under the update and the day's unit. The length comes first.
abbrev pub BreaksHead : Option ℕ → Option MeasureUnit → ℕ → MeasureUnit → RefusalCode → Type 0
BreaksHead known of_day length unit LengthConflict = IsOther known length
BreaksHead known of_day length unit UnitConflict = SuitsKnown known length × IsOther of_day unit
BreaksHead known of_day length unit code = ⊥

abbrev pub SuitsHead : Option ℕ → Option MeasureUnit → ℕ → MeasureUnit → Type 0
SuitsHead known of_day length unit = SuitsKnown known length × SuitsKnown of_day unit

-- the length of the book's rows of an update, or nothing if there are none
abbrev pub IsLengthUnder : BookValue → ℕ → Option ℕ → Type 0
IsLengthUnder book update known = IsLengthIn book.rows update known

-- the book has this reading of the interval under the update
abbrev pub is_held : BookValue → ℕ → ℕ → ℕ → ReadingValue → Bool
is_held book minutes update interval reading =
    set.contains (book_world book) (VersionIs (key_of book minutes interval update) reading)

-- the readings that were claimed under an update, and their length
abbrev pub Entry : Type 0
Entry = ℕ × (ℕ × List ReadingValue)

-- one of the rows has the update
abbrev pub has_update : ℕ → List (ℕ × Version) → Bool
has_update update rows = list_any (λ row. nat_eq row.1.update update) rows

-- the heads of claimed updates of which the book has no row
abbrev pub fresh_heads : BookValue → MeasureUnit → List Entry → List Head
fresh_heads book unit [] = []
fresh_heads book unit (entry ∷ rest) =
    cond (has_update entry.0 book.rows) (fresh_heads book unit rest)
    (head_at book.stream book.day entry.0 entry.1.0 unit ∷ fresh_heads book unit rest)

-- those of an update's readings, from an interval on, that the book doesn't have, with their keys
abbrev pub fresh_versions : BookValue → ℕ → ℕ → ℕ → List ReadingValue → List (Key × ReadingValue)
fresh_versions book minutes update interval [] = []
fresh_versions book minutes update interval (reading ∷ rest) =
    cond (is_held book minutes update interval reading)
    (fresh_versions book minutes update (interval + 1) rest)
    ((key_of book minutes interval update, reading) ∷ fresh_versions book minutes update (interval + 1) rest)

-- how many of them the book has
abbrev pub held_count : BookValue → ℕ → ℕ → ℕ → List ReadingValue → ℕ
held_count book minutes update interval [] = 0
held_count book minutes update interval (reading ∷ rest) =
    cond (is_held book minutes update interval reading) 1 0 + held_count book minutes update (interval + 1) rest

-- the same for all claimed updates
abbrev pub fresh_all : BookValue → List Entry → List (Key × ReadingValue)
fresh_all book [] = []
fresh_all book (entry ∷ rest) = fresh_versions book entry.1.0 entry.0 1 entry.1.1 ++ fresh_all book rest

abbrev pub held_all : BookValue → List Entry → ℕ
held_all book [] = 0
held_all book (entry ∷ rest) = held_count book entry.1.0 entry.0 1 entry.1.1 + held_all book rest

-- each has a reading for each interval of its length
abbrev pub AreComplete : List Entry → Type 0
AreComplete claimed = (entry : Entry) → Member entry claimed → length entry.1.1 ≡ count_of entry.1.0
