-- What days will hold while heads and versions are added to them.
use Rattle.std.specs.Prelude.{◌≡◌, ◌+◌, ◌⊎◌, ℕ, List, Option, Some, None, IfSome, IsSome, map}
use Rattle.std.specs.List.{slice_get}
use Rattle.std.specs.BTreeMap.{BTreeMap, IsOrdered, get}
use Rattle.mds_marks.specs.Reading.{ReadingValue}
use Rattle.mds_world.specs.declared.facts.Head.{Head}
use Rattle.mds_world.specs.declared.facts.Key.{Key}
use Rattle.mds_world.specs.declared.facts.StreamDay.{StreamDay}
use Rattle.mds_world.specs.Facts.{Fact}
use Rattle.mds_world.specs.Facts.Fact.{HeadIs, VersionIs}
use Rattle.mds_world.specs.Lists.{Member}
use Rattle.mds_world.specs.Sets.{◌∈◌}
use Rattle.mds_world.specs.World.{IsLawful, IsOn, World}
use Rattle.mds_keeper.specs.Books.{BookValue, IsDay, book_world, row_fact}
use Rattle.mds_keeper.specs.Content.{rows_of}
use Rattle.mds_memory.specs.Stored.{place_cmp}
use Rattle.mds_memory.specs.declared.stored_days.InHand.{InHand}
use Rattle.mds_memory.specs.declared.stored_days.Rows.{Rows}

abbrev pub rows_book : StreamDay → Rows → BookValue
rows_book place rows = record {
  stream = place.stream;
  day = place.day;
  unit = rows.unit;
  rows = rows_of rows.rows;
}

-- What a World and more facts say of the day: its versions are just those of the rows, and each head has their unit.
pub record Holds (w : World) (more : List Fact) (place : StreamDay) (rows : Rows) : Type 0 where
  pub heads : (head : Head) → IsOn place.stream place.day (HeadIs head) → (HeadIs head ∈ w) ⊎ Member (HeadIs head) more
      → rows.unit ≡ Some head.unit
  pub versions : (key : Key) (reading : ReadingValue) → IsOn place.stream place.day (VersionIs key reading)
      → (VersionIs key reading ∈ w) ⊎ Member (VersionIs key reading) more
      → Member (VersionIs key reading) (map (row_fact place.stream place.day) (rows_of rows.rows))
  pub only : (f : Fact) → Member f (map (row_fact place.stream place.day) (rows_of rows.rows)) → (f ∈ w) ⊎ Member f more

-- The head at a place among heads joins what a day will hold, or it isn't of that day. The last argument is the place of the
-- next head.
abbrev pub GetsHead : List Head → ℕ → StreamDay → Rows → Rows → ℕ → Type 0
GetsHead heads at place old new next =
    ((new ≡ old) × (next ≡ at))
    ⊎ ((head : Head) × (slice_get heads at ≡ Some head) × (place ≡ record { stream = head.stream; day = head.day })
    × (new.unit ≡ Some head.unit) × (new.rows ≡ old.rows) × (next ≡ at + 1))

-- a day other than the one in hand
abbrev pub IsOther : Option InHand → StreamDay → Type 0
IsOther None place = Unit {0}
IsOther (Some hand) place = hand.place ≡ place → ⊥

-- the day in hand
abbrev pub IsTheOne : Option InHand → StreamDay → Type 0
IsTheOne None place = ⊥
IsTheOne (Some hand) place = hand.place ≡ place

-- Each day that the added facts are on, and maybe others, holds what it will. One of them may be in hand, and then the map
-- isn't asked for it.
pub record AreChanged (w : World) (more : List Fact) (closed : BTreeMap StreamDay Rows) (in_hand : Option InHand) : Type 0 where
  pub each : (place : StreamDay) (rows : Rows) → get place_cmp closed place ≡ Some rows → IsOther in_hand place
      → Holds w more place rows
  pub hand : IfSome in_hand (λ hand. Holds w more hand.place hand.rows)
  pub all : (f : Fact) → Member f more
      → (place : StreamDay) × IsOn place.stream place.day f × (IsSome (get place_cmp closed place) ⊎ IsTheOne in_hand place)
  pub ordered : IsOrdered place_cmp closed

-- each is a day of a lawful World
abbrev pub AreLawfulDays : BTreeMap StreamDay Rows → Type 0
AreLawfulDays closed =
    (place : StreamDay) (rows : Rows) → Member (place, rows) closed.entries
    → (w : World) × IsLawful w × IsDay w (rows_book place rows)

-- a book for each day, and no other
pub record AreBooks (closed : BTreeMap StreamDay Rows) (books : BTreeMap StreamDay BookValue) : Type 0 where
  pub each : (place : StreamDay) (book : BookValue) → Member (place, book) books.entries
      → (rows : Rows) × Member (place, rows) closed.entries × (book_world book ≡ book_world (rows_book place rows))
  pub all : (place : StreamDay) (rows : Rows) → Member (place, rows) closed.entries
      → (book : BookValue) × Member (place, book) books.entries
