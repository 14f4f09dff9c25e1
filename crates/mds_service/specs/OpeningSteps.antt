-- Days that are asked for at once, and days of which nothing is known.
use Rattle.std.specs.Prelude.{ℕ, ◌+◌, ◌<◌, ◌≤◌, List}
use Rattle.mds_names.specs.declared.stream.Stream.{Stream}
use Rattle.mds_world.specs.Facts.{Fact}
use Rattle.mds_world.specs.Lists.{Member}
use Rattle.mds_world.specs.Sets.{◌∈◌}
use Rattle.mds_world.specs.World.{IsOn, World}
use Rattle.mds_service.specs.declared.opening.Stretch.{Stretch}

-- Each of its days is one of these dates, and they aren't too many to be asked for at once.
pub record IsOfDates (dates : List ℕ) (stretch : Stretch) : Type 0 where
  pub each : (day : ℕ) → stretch.first ≤ day → day ≤ stretch.last → Member day dates
  pub few : stretch.last < stretch.first + 64

-- the World has neither a head nor a version of the days from a first one to just before an end
abbrev pub AreUnknown : World → Stream → ℕ → ℕ → Type 0
AreUnknown w stream first end = (day : ℕ) → first ≤ day → day < end → (f : Fact) → IsOn stream day f → f ∈ w → ⊥
