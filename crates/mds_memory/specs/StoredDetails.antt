-- Details of meters by the days that have them.
use Rattle.std.specs.Prelude.{◌↔◌, ◌⊎◌, ◌≤◌, ℕ, List, map}
use Rattle.std.specs.BTreeMap.{BTreeMap}
use Rattle.std.specs.BTreeSet.{BTreeSet}
use Rattle.std.specs.FinSet as set
use Rattle.std.specs.List.{flat_map}
use Rattle.std.specs.Ordering.{nat_cmp, ordering_then}
use Rattle.std.specs.declared.cmp.Ordering.{Ordering}
use Rattle.mds_names.specs.declared.stream.Stream.{Stream}
use Rattle.mds_terms.specs.Details.{details_cmp}
use Rattle.mds_world.specs.declared.facts.Detail.{Detail}
use Rattle.mds_world.specs.Current.{no_details}
use Rattle.mds_world.specs.Facts.{detail_at}
use Rattle.mds_world.specs.Facts.Fact.{DetailIs}
use Rattle.mds_world.specs.Lists.{Member}
use Rattle.mds_world.specs.Sets.{◌∈◌}
use Rattle.mds_world.specs.World.{World}
use Rattle.mds_keeper.specs.Queries.{stream_cmp}
use Rattle.mds_memory.specs.declared.stored_details.MeterDays.{MeterDays}
use Rattle.mds_memory.specs.declared.stored_details.MeterDetails.{MeterDetails}

-- by the stream, then the moment, and then the details
abbrev pub meter_cmp : MeterDetails → MeterDetails → Ordering
meter_cmp a b =
    ordering_then (stream_cmp a.stream b.stream)
    (ordering_then (nat_cmp a.moment b.moment) (details_cmp a.details b.details))

-- these details, on a day
abbrev pub meter_on : MeterDetails → ℕ → Detail
meter_on meter day = detail_at meter.stream day meter.moment meter.details

-- the details of an entry, on each of its days
abbrev pub entry_details : MeterDetails × BTreeSet ℕ → List Detail
entry_details entry = map (meter_on entry.0) entry.1.keys

-- an entry without a day says nothing
abbrev pub details_world : BTreeMap MeterDetails (BTreeSet ℕ) → World
details_world kept = set.from_list (map DetailIs (flat_map entry_details kept.entries))

-- the details that days get
abbrev pub meter_details : MeterDays → List Detail
meter_details group = map (meter_on group.meter) group.days.items

-- the details of all in a list, one after the other
abbrev pub all_details : List MeterDays → List Detail
all_details groups = flat_map meter_details groups

-- details that sort before all others of a stream
abbrev pub first_meter_of : Stream → MeterDetails
first_meter_of stream = record { stream = stream; moment = 0; details = no_details }

-- just these details are added to those that were kept
abbrev pub Gains : BTreeMap MeterDetails (BTreeSet ℕ) → List Detail → BTreeMap MeterDetails (BTreeSet ℕ) → Type 0
Gains old more new =
    (detail : Detail) → (DetailIs detail ∈ details_world new) ↔ ((DetailIs detail ∈ details_world old) ⊎ Member detail more)

-- just these details are removed from those that were kept
abbrev pub Loses : BTreeMap MeterDetails (BTreeSet ℕ) → List Detail → BTreeMap MeterDetails (BTreeSet ℕ) → Type 0
Loses old some new =
    (detail : Detail) → (DetailIs detail ∈ details_world new) ↔ ((DetailIs detail ∈ details_world old) × (Member detail some → ⊥))

-- none of the days is in the range from first to last
abbrev pub NoneFrom : List ℕ → ℕ → ℕ → Type 0
NoneFrom days first last = (day : ℕ) → Member day days → first ≤ day → day ≤ last → ⊥

-- the last of the days in the range from first to last
pub record IsLastFrom (days : List ℕ) (first last of : ℕ) : Type 0 where
  pub one : Member of days
  pub from : first ≤ of
  pub upto : of ≤ last
  pub last_one : (day : ℕ) → Member day days → day ≤ last → day ≤ of
