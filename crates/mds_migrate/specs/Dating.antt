-- What giving days the details of their streams does, in a transaction (profile).
use Rattle.std.specs.Prelude.{◌≡◌, ◌↔◌, ℕ, List, [], ◌∷◌, Option, Some, None, All}
use Rattle.sqlite.specs.State.{State}
use Rattle.sqlite.specs.declared.types.Value.TheVariants.{Null}
use Rattle.sqlite_trees.specs.Tree.{Trees}
use Rattle.sqlite_value.specs.Order.{Row}
use Rattle.mds_names.specs.declared.stream.Stream.{Stream}
use Rattle.mds_world.specs.Lists.{Member}
use Rattle.mds_world.specs.declared.facts.Detail.{Detail}
use Rattle.mds_keeper.specs.Content.{detail_on}
use Rattle.mds_keeper.specs.declared.additions.DetailDays.{DetailDays}
use Rattle.mds_tables.specs.Cells.{stream_cells}
use Rattle.mds_tables.specs.RowFacts.{natural_at, stream_in}
use Rattle.mds_tables.specs.Stores.{Selects}
use Rattle.mds_tables.specs.Tables.{detail_tree, head_tree}
use Rattle.mds_tables.specs.Parts.{detail_part}
use Rattle.mds_tables.specs.Writing.{Puts}
use Rattle.mds_pack_rows.specs.DailyTables.{schema_3}
use Rattle.mds_commit.specs.Shown.{AreLatestFirst, IsDetailRow, shown_details}
use Rattle.mds_migrate.specs.OldDetails.{IsGreatestOf}
use Rattle.mds_migrate.specs.declared.dating.Latest.{Latest}

-- the columns of mds_detail that a query shows: the moment, and the five details
abbrev pub shown_columns : List ℕ
shown_columns = 3 ∷ 4 ∷ 5 ∷ 6 ∷ 7 ∷ 8 ∷ []

-- the details are, on a day that a row of heads shows, the greatest of its stream
pub record IsOfHead (trees : Trees) (shown : Row) (detail : Detail) : Type 0 where
  pub stream : detail.stream ≡ stream_in (Null ∷ shown)
  pub day : detail.day ≡ natural_at (Null ∷ shown) 3
  pub greatest : IsGreatestOf trees detail.stream (record { stream = detail.stream; moment = detail.moment; details = detail.details })

-- these are the details of the days that rows of heads show
abbrev pub AreOfHeads : Trees → List Row → List Detail → Type 0
AreOfHeads trees heads details =
    (detail : Detail) → Member detail details ↔ ((head : Row) × Member head heads × IsOfHead trees head detail)

-- these details are the greatest of a stream, or it has none
abbrev pub AreGreatestOf : Trees → Stream → Option DetailDays → Type 0
AreGreatestOf trees stream None = (row : Row) → Member row (trees detail_tree) → stream_in row ≡ stream → ⊥
AreGreatestOf trees stream (Some d) =
    (d.stream ≡ stream) × IsGreatestOf trees stream (record { stream = stream; moment = d.moment; details = d.details })

-- details, if any, on a day
abbrev pub all_on : Option DetailDays → ℕ → List Detail
all_on None day = []
all_on (Some d) day = detail_on d day ∷ []

-- what is known of a stream is right
abbrev pub IsLatest : Trees → Latest → Type 0
IsLatest trees latest = AreGreatestOf trees latest.stream latest.details

-- what may be known already is right
abbrev pub IsKnown : Trees → Option Latest → Type 0
IsKnown trees None = Unit {0}
IsKnown trees (Some latest) = IsLatest trees latest

-- what is known is of this stream
abbrev pub IsOf : Option Latest → Stream → Type 0
IsOf None stream = ⊥
IsOf (Some latest) stream = latest.stream ≡ stream

-- the greatest details of a stream are known
abbrev pub IsKnownOf : Trees → Option Latest → Stream → Type 0
IsKnownOf trees None stream = ⊥
IsKnownOf trees (Some latest) stream = AreGreatestOf trees stream latest.details

-- The greatest details of a stream were asked for, or known before. The database is as it was, and nothing is committed.
pub record Knows (old new : State) (before after : Option Latest) (stream : Stream) : Type 0 where
  pub now : new.now ≡ old.now
  pub committed : new.committed ≡ old.committed
  pub known : IsKnown old.now.trees before → IsKnown old.now.trees after × IsKnownOf old.now.trees after stream

-- what is known, on a day
abbrev pub known_on : Option Latest → ℕ → List Detail
known_on None day = []
known_on (Some latest) day = all_on latest.details day

-- The details of the days that rows of heads show are put into mds_daydetail, as the transaction sees it.
pub record DatesDays (old new : State) (before after : Option Latest) (heads : List Row) : Type 0 where
  pub details : List Detail
  pub puts : Puts schema_3 detail_part old new details
  pub are : IsKnown old.now.trees before → AreOfHeads old.now.trees heads details × IsKnown old.now.trees after

-- All details of a stream, each as its moment and then the details. They are in order if the store can have written
-- them.
abbrev pub ShowsDetailsOf : Stream → Trees → List Row → Type 0
ShowsDetailsOf s trees rows =
    Selects detail_tree (stream_cells s) shown_columns trees rows × (All (λ row. IsDetailRow row) rows → AreLatestFirst rows)

-- a row says them, without a day
abbrev pub SaysDetails : Row → Stream → DetailDays → Type 0
SaysDetails shown stream d = (d.stream ≡ stream) × (natural_at shown 0 ≡ d.moment) × (shown_details shown ≡ d.details) × (d.days.items ≡ [])

-- the first row says them, if there is one
abbrev pub SaysFirst : List Row → Stream → Option DetailDays → Type 0
SaysFirst [] stream details = details ≡ None
SaysFirst (shown ∷ more) stream details = (d : DetailDays) × (details ≡ Some d) × SaysDetails shown stream d

-- the details are, on a day that mds_head says, the greatest of its stream
pub record IsOfKnownDay (trees : Trees) (detail : Detail) : Type 0 where
  pub head : Row
  pub there : Member head (trees head_tree)
  pub stream : detail.stream ≡ stream_in head
  pub day : detail.day ≡ natural_at head 3
  pub greatest : IsGreatestOf trees detail.stream (record { stream = detail.stream; moment = detail.moment; details = detail.details })

-- The greatest details of its stream are put into mds_daydetail for each known day. Every other table is as it was.
pub record Dates (old new : State) : Type 0 where
  pub details : List Detail
  pub puts : Puts schema_3 detail_part old new details
  pub are : (detail : Detail) → Member detail details ↔ IsOfKnownDay old.now.trees detail
