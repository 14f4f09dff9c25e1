-- A World is the facts that are in it (profile). So nothing depends on how facts are coded and
-- ordered.
use Rattle.std.specs.Prelude.{◌≡◌, ◌⊎◌, ◌↔◌, List, length}
use Rattle.std.specs.FinSet as set
use Rattle.mds_world.specs.FactOrder.{fact_cmp}
use Rattle.mds_world.specs.Facts.{Fact}
use Rattle.mds_world.specs.Lists.{Apart, Member}
use Rattle.mds_world.specs.Sets.{◌∈◌}
use Rattle.mds_world.specs.World.{World, union}

-- Two Worlds with the same facts are one.
abbrev pub WorldsAreTheirFacts : Type 0
WorldsAreTheirFacts = (a b : World) → ((fact : Fact) → (fact ∈ a) ↔ (fact ∈ b)) → a ≡ b

-- The union of two Worlds has the facts of both, and no others.
abbrev pub UnionsHaveBoth : Type 0
UnionsHaveBoth = (a b : World) (fact : Fact) → (fact ∈ union a b) ↔ ((fact ∈ a) ⊎ (fact ∈ b))

-- The World of a list has the facts that are on the list, and no others.
abbrev pub ListsAreTheirFacts : Type 0
ListsAreTheirFacts = (facts : List Fact) (fact : Fact) → (fact ∈ set.from_list {R = fact_cmp} facts) ↔ Member fact facts

-- It has as many facts as the list, if none is on it twice.
abbrev pub EachFactCountsOnce : Type 0
EachFactCountsOnce = (facts : List Fact) → Apart facts → set.len (set.from_list {R = fact_cmp} facts) ≡ length facts
