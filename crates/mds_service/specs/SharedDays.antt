-- Days that share details.
use Rattle.std.specs.Prelude.{ℕ, Option, Some, None}
use Rattle.std.specs.BTreeMap.{BTreeMap, get}
use Rattle.std.specs.declared.alloc.Global.{Global}
use Rattle.std.specs.declared.cmp.Ordering.{Ordering}
use Rattle.std.specs.declared.vec.Vec.{Vec}
use Rattle.mds_world.specs.declared.facts.Detail.{Detail}
use Rattle.mds_world.specs.Lists.{Member}
use Rattle.mds_service.specs.declared.details.SharedDetails.{SharedDetails}

-- what the details of a day may share with other days
abbrev pub shared_of : Detail → SharedDetails
shared_of detail = record { stream = detail.stream; moment = detail.moment; details = detail.details }

-- it is one of the days, if there are some
abbrev pub IsAmong : ℕ → Option (Vec ℕ Global) → Type 0
IsAmong day None = ⊥
IsAmong day (Some days) = Member day days.items

-- the day of the details is one of those that share them
abbrev pub HasDetail : (SharedDetails → SharedDetails → Ordering) → BTreeMap SharedDetails (Vec ℕ Global) → Detail → Type 0
HasDetail cmp together detail = IsAmong detail.day (get cmp together (shared_of detail))
