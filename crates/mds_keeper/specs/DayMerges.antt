-- A day's book with what lines claim about the day.
use Rattle.std.specs.Prelude.{◌≡◌, ◌<◌, ◌≤◌, List, [], ◌++◌, map, length}
use Rattle.std.specs.List.{AllPairs}
use Rattle.std.specs.FinSet as set
use Rattle.mds_marks.specs.Reading.{ReadingValue}
use Rattle.mds_world.specs.declared.facts.Head.{Head}
use Rattle.mds_world.specs.declared.facts.Key.{Key}
use Rattle.mds_world.specs.Counts.{countable}
use Rattle.mds_world.specs.Facts.Fact.{HeadIs}
use Rattle.mds_world.specs.Lists.{Apart, Member}
use Rattle.mds_world.specs.World.{Agrees, IsKnownDay, World, union}
use Rattle.mds_keeper.specs.Books.{BookValue, book_world}
use Rattle.mds_keeper.specs.Content.{AreMoreDays, AreNew, AreWellFormed, content, version_fact, versions_of}
use Rattle.mds_keeper.specs.declared.additions.Additions.{Additions}
use Rattle.mds_keeper.specs.declared.additions.DayVersions.{DayVersions}
use Rattle.mds_keeper.specs.declared.claim.Claim.{Claim}
use Rattle.mds_keeper.specs.declared.day_merge.MergeCounts.{MergeCounts}
use Rattle.mds_keeper.specs.declared.day_merge.Stop.{Stop}
use Rattle.mds_keeper.specs.declared.day_merge.Stop.TheVariants.{Refused, Memory}
use Rattle.mds_keeper.specs.declared.refusal.Refusal.{Refusal}

-- the book of a day, and what lines claim about that day
pub record DayMergeValue : Type 0 where
  pub book : BookValue
  pub said : World

-- if it is a refusal
abbrev pub IfRefused : Stop → (Refusal → Type 0) → Type 0
IfRefused (Refused refusal) P = P refusal
IfRefused Memory P = Unit {0}

-- claims in the order of their lines, each on a line of its own
abbrev pub AreAscending : List Claim → Type 0
AreAscending claims = AllPairs (λ a b. a.line < b.line) claims

-- What a book gains from these claims: all agrees, the union is the same with the additions, and these are new. One head of a day that
-- isn't known is listed separately, as that of a new day.
pub record IsPlan (book : BookValue) (said : World) (additions : Additions) : Type 0 where
  pub agrees : Agrees (union (book_world book) said)
  pub whole : union (book_world book) (content additions) ≡ union (book_world book) said
  pub new : AreNew (book_world book) additions
  pub counted : length (versions_of additions.days.items) ≡ set.len (set.difference (countable said) (countable (book_world book)))
  pub one_first : length additions.new_days.items ≤ 1
  pub known_day : IsKnownDay (book_world book) book.stream book.day → additions.new_days.items ≡ []
  pub new_day : (IsKnownDay (book_world book) book.stream book.day → ⊥) → additions.new_days.items ≡ [] → additions.heads.items ≡ []
  pub days : (day : DayVersions) → Member day additions.days.items → AreWellFormed day.rows

-- What is appended to additions: heads of new days, further heads, and days with these versions. Nothing else changes.
pub record Grows (old new : Additions) (first further : List Head) (versions : List (Key × ReadingValue)) : Type 0 where
  pub more_first : new.new_days.items ≡ old.new_days.items ++ first
  pub more_heads : new.heads.items ≡ old.heads.items ++ further
  pub more_versions : versions_of new.days.items ≡ versions_of old.days.items ++ versions
  pub more_days : AreMoreDays old.days.items new.days.items
  pub same_details : new.details ≡ old.details
  pub same_events : new.events ≡ old.events
  pub same_periods : new.periods ≡ old.periods
  pub same_holidays : new.holidays ≡ old.holidays
  pub same_jobs : new.jobs ≡ old.jobs

-- Nothing that was there is lost. Heads and days may follow.
pub record GoesOn (old new : Additions) : Type 0 where
  pub first : List Head
  pub further : List Head
  pub versions : List (Key × ReadingValue)
  pub grows : Grows old new first further versions

-- What a merge appends to additions: heads and versions, each once, namely those that are claimed and aren't in the book. The first
-- head of a day that isn't known goes to those of new days. The counts are the number of these versions, and the number of claimed ones
-- that the book has.
pub record Settles (merge : DayMergeValue) (old new : Additions) (counts : MergeCounts) : Type 0 where
  pub first : List Head
  pub further : List Head
  pub versions : List (Key × ReadingValue)
  pub one_first : length first ≤ 1
  pub known_day : IsKnownDay (book_world merge.book) merge.book.stream merge.book.day → first ≡ []
  pub new_day : (IsKnownDay (book_world merge.book) merge.book.stream merge.book.day → ⊥) → first ≡ [] → further ≡ []
  pub grows : Grows old new first further versions
  pub apart : Apart (map HeadIs (first ++ further) ++ map version_fact versions)
  pub just : set.from_list (map HeadIs (first ++ further) ++ map version_fact versions)
      ≡ set.difference merge.said (book_world merge.book)
  pub added : counts.added ≡ length versions
  pub known : counts.known ≡ set.len (set.intersection (countable merge.said) (countable (book_world merge.book)))
