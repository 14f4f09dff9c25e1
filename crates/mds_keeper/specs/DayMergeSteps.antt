-- What a merge holds, as a value, and what it appends to additions.
use Rattle.std.specs.Prelude.{◌≡◌, ◌≢◌, ◌⊎◌, ◌+◌, ◌≤◌, ℕ, Bool, true, false, cond, nat_eq, List, [], ◌∷◌, map, Option, Some, None, IsNone, Result, IfErr, IfOk, OnOk, length, refl}
use Rattle.std.specs.Coded.{Coded, code_by, coded×, coded_ℕ, coded_list, coded_option}
use Rattle.std.specs.FinSet as set
use Rattle.std.specs.FinSet.{code}
use Rattle.std.specs.List.{AllPairs, flat_map, slice_get}
use Rattle.mds_calendar.specs.Length.{count_of}
use Rattle.mds_quantity.specs.declared.unit.Unit.{Unit as MeasureUnit}
use Rattle.mds_marks.specs.Reading.{ReadingValue}
use Rattle.mds_world.specs.declared.facts.Head.{Head}
use Rattle.mds_world.specs.declared.facts.Key.{Key}
use Rattle.mds_world.specs.Facts.{Fact}
use Rattle.mds_world.specs.Facts.Fact.{VersionIs}
use Rattle.mds_world.specs.FactCodes.{coded_fact, coded_measure, coded_reading, coded_stream}
use Rattle.mds_world.specs.Lists.{Apart, Member}
use Rattle.mds_world.specs.Sets.{◌∈◌}
use Rattle.mds_world.specs.Stated.{day_facts}
use Rattle.mds_world.specs.World.{Agrees, World, union}
use Rattle.mds_keeper.specs.Books.{BookValue, book_world}
use Rattle.mds_keeper.specs.BookRows.{IsBefore}
use Rattle.mds_keeper.specs.Claims.{AreComplete, Contradicts, Entry, IsFirst, IsLengthUnder, Suits, fresh_all, fresh_heads, held_all, held_count, key_of}
use Rattle.mds_keeper.specs.DayMerges.{DayMergeValue, Grows}
use Rattle.mds_keeper.specs.declared.additions.Additions.{Additions}
use Rattle.mds_keeper.specs.declared.claimed.ClaimedReadings.{ClaimedReadings}
use Rattle.mds_keeper.specs.declared.day_book.Version.{Version}

-- the readings that rows have under an update, by interval if the rows ascend
abbrev pub readings_under : ℕ → List (ℕ × Version) → List ReadingValue
readings_under update [] = []
readings_under update (row ∷ rest) =
    cond (nat_eq row.1.update update) (row.1.reading ∷ readings_under update rest) (readings_under update rest)

-- the book has each of them, at its position among the intervals of a length
abbrev pub IsInBook : BookValue → ℕ → ℕ → Type 0
IsInBook book minutes update =
    (k : ℕ) (reading : ReadingValue) → slice_get (readings_under update book.rows) k ≡ Some reading
    → VersionIs (key_of book minutes (k + 1) update) reading ∈ book_world book

-- this many readings are one for each interval that the rows of an update have
abbrev pub AreAsMany : BookValue → ℕ → ℕ → Type 0
AreAsMany book update count =
    (row : ℕ × Version) → Member row book.rows → row.1.update ≡ update → count ≡ count_of row.1.length

-- the rows of an update have this length
abbrev pub AreOfLength : BookValue → ℕ → ℕ → Type 0
AreOfLength book minutes update = (row : ℕ × Version) → Member row book.rows → row.1.update ≡ update → row.1.length ≡ minutes

-- the readings claimed under an update: if none are kept, those of the book
abbrev pub claimed_readings : BookValue → ℕ → Option (List ReadingValue) → List ReadingValue
claimed_readings book update (Some readings) = readings
claimed_readings book update None = readings_under update book.rows

-- what was claimed under an update
abbrev pub claimed_entry : BookValue → ℕ × ClaimedReadings → Entry
claimed_entry book entry = (entry.0, (entry.1.length, claimed_readings book entry.0 entry.1.readings))

-- the same for all claimed updates
abbrev pub claimed_entries : BookValue → List (ℕ × ClaimedReadings) → List Entry
claimed_entries book claimed = map (claimed_entry book) claimed

-- if none are kept, the book has them, with the claimed length
abbrev pub AreInBook : BookValue → List (ℕ × ClaimedReadings) → Type 0
AreInBook book claimed = (update : ℕ) (kept : ClaimedReadings) → Member (update, kept) claimed → IsNone kept.readings
    → IsInBook book kept.length update

-- each has readings
abbrev pub HaveReadings : List Entry → Type 0
HaveReadings claimed = (entry : Entry) → Member entry claimed → 1 ≤ length entry.1.1

-- The length claimed under an update. If nothing was claimed under it, it is that of the book's rows of the update.
abbrev pub IsKnownLength : BookValue → List Entry → ℕ → Option ℕ → Type 0
IsKnownLength book claimed update known =
    ((entry : Entry) × Member entry claimed × (entry.0 ≡ update) × (known ≡ Some entry.1.0))
    ⊎ (((entry : Entry) → Member entry claimed → entry.0 ≢ update) × IsLengthUnder book update known)

-- the facts claimed under an update; the lines that claimed them aren't kept
abbrev pub claimed_facts : BookValue → MeasureUnit → Entry → List Fact
claimed_facts book unit entry = day_facts book.stream book.day entry.1.0 unit entry.0 entry.1.1

-- all that was claimed, update by update
abbrev pub all_claimed : BookValue → Option MeasureUnit → List Entry → World
all_claimed book None claimed = set.empty
all_claimed book (Some unit) claimed = set.from_list (flat_map (claimed_facts book unit) claimed)

abbrev pub merge_value : BookValue → Option MeasureUnit → List Entry → DayMergeValue
merge_value book unit claimed = record {
  book = book;
  said = all_claimed book unit claimed;
}

-- All agrees, no update comes twice, and each claim has a reading for each interval of its length. The unit is that of the book or of
-- a claim.
pub record IsDayMerge (book : BookValue) (unit : Option MeasureUnit) (claimed : List Entry) : Type 0 where
  pub agrees : Agrees (union (book_world book) (merge_value book unit claimed).said)
  pub whole : AreComplete claimed
  pub some : HaveReadings claimed
  pub once : Apart (map (λ entry. entry.0) claimed)
  pub none : unit ≡ None → claimed ≡ []
  pub known : (one : MeasureUnit) → book.unit ≡ Some one → unit ≡ Some one
  pub told : (one : MeasureUnit) → unit ≡ Some one
      → ((row : ℕ × Version) × Member row book.rows × (book.unit ≡ Some one)) ⊎ ((entry : Entry) × Member entry claimed)

-- how many of the claimed readings the book has, and how many it doesn't have
pub record AreCounts (book : BookValue) (claimed : List Entry) (held fresh : ℕ) : Type 0 where
  pub held_are : held ≡ held_all book claimed
  pub fresh_are : fresh ≡ length (fresh_all book claimed)

-- the head of a claimed update, if the book has no row of it
abbrev pub fresh_head : BookValue → MeasureUnit → ℕ → ℕ → List Head
fresh_head book unit update minutes = fresh_heads book unit ((update, (minutes, [])) ∷ [])

-- the heads of all claimed updates of which the book has no row: if something was claimed there is a unit
abbrev pub new_heads : BookValue → Option MeasureUnit → List Entry → List Head
new_heads book None claimed = []
new_heads book (Some unit) claimed = fresh_heads book unit claimed

-- the first of the heads of a new day
abbrev pub first_of : Bool → List Head → List Head
first_of false heads = []
first_of true [] = []
first_of true (head ∷ rest) = head ∷ []

-- the others: all of them, if the day isn't new
abbrev pub further_of : Bool → List Head → List Head
further_of false heads = heads
further_of true [] = []
further_of true (head ∷ rest) = rest

-- Heads and versions are appended to the additions: the first head of a new day goes to those of new days.
abbrev pub Gains : Additions → Additions → Bool → List Head → List (Key × ReadingValue) → Type 0
Gains old new is_new_day heads versions = Grows old new (first_of is_new_day heads) (further_of is_new_day heads) versions

-- how many of an update's readings the book has, or the first interval for which it has another reading
pub record AreHeld (book : BookValue) (minutes update : ℕ) (readings : List ReadingValue) (result : Result ℕ ℕ) : Type 0 where
  pub held : IfOk result (λ held. held ≡ held_count book minutes update 1 readings)
  pub few : IfOk result (λ held. held ≤ length readings)
  pub suits : OnOk result ((k : ℕ) → Suits (book_world book) book minutes update readings k)
  pub conflict : IfErr result (IsFirst (Contradicts (book_world book) book minutes update readings)
      (Suits (book_world book) book minutes update readings))

-- the row of a reading of an interval of a length
abbrev pub row_of : ℕ → ℕ → ℕ → ReadingValue → ℕ × Version
row_of minutes interval update reading = (interval, record { update = update; length = minutes; reading = reading })

-- ascending rows, which are the rows from an interval on
pub record IsFrom (rows : List (ℕ × Version)) (interval : ℕ) (left : List (ℕ × Version)) : Type 0 where
  pub ascending : AllPairs IsBefore left
  pub from : (row : ℕ × Version) → Member row left → interval ≤ row.0
  pub whole : (row : ℕ × Version) → Member row rows → interval ≤ row.0 → Member row left
  pub only : (row : ℕ × Version) → Member row left → Member row rows

coded_version : Coded Version
coded_version =
    code_by _ (coded× coded_ℕ (coded× coded_ℕ coded_reading))
    (λ v. (v.update, (v.length, v.reading)))
    (λ p. record { update = p.0; length = p.1.0; reading = p.1.1 })
    (λ _. refl)

coded_book : Coded BookValue
coded_book =
    code_by _
    (coded× coded_stream
    (coded× coded_ℕ (coded× (coded_option coded_measure) (coded_list (coded× coded_ℕ coded_version)))))
    (λ b. (b.stream, (b.day, (b.unit, b.rows))))
    (λ p. record { stream = p.0; day = p.1.0; unit = p.1.1.0; rows = p.1.1.1 })
    (λ _. refl)

pub coded_merge : Coded DayMergeValue
coded_merge =
    code_by (BookValue × World) (coded× coded_book (code coded_fact))
    (λ d. (d.book, d.said))
    (λ p. record { book = p.0; said = p.1 })
    (λ _. refl)
