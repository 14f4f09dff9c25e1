-- The members of Worlds.
use Rattle.std.specs.Prelude.{◌≡◌, ◌⊎◌, List, length}
use Rattle.std.specs.FinSet as set
use Rattle.mds_world.specs.FactOrder.{exact, fact_cmp, total}
use Rattle.mds_world.specs.Facts.{Fact}
use Rattle.mds_world.specs.Lists.{Apart, Member}
use Rattle.mds_world.proofs.Sets as sets
use Rattle.mds_world.specs.Sets.{◌∈◌}
use Rattle.mds_world.specs.World.{World, union}

pub same_by : (a b : World) → ((f : Fact) → f ∈ a → f ∈ b) → ((f : Fact) → f ∈ b → f ∈ a) → a ≡ b
same_by = sets.same_by total exact

pub in_union : (a b : World) (f : Fact) → f ∈ union a b → (f ∈ a) ⊎ (f ∈ b)
in_union = sets.in_union total exact

pub union_left : (a b : World) (f : Fact) → f ∈ a → f ∈ union a b
union_left = sets.union_left total exact

pub union_right : (a b : World) (f : Fact) → f ∈ b → f ∈ union a b
union_right = sets.union_right total exact

-- the World of a list has just the list's members
pub in_list : (facts : List Fact) (f : Fact) → f ∈ set.from_list {R = fact_cmp} facts → Member f facts
in_list = sets.in_list total exact

pub list_in : (facts : List Fact) (f : Fact) → Member f facts → f ∈ set.from_list {R = fact_cmp} facts
list_in = sets.list_in total exact

pub len_list : (facts : List Fact) → Apart facts → set.len (set.from_list {R = fact_cmp} facts) ≡ length facts
len_list = sets.len_list total exact
