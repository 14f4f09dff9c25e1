-- A keeper as contracts see it, and what its calls do to it (profile).
use Rattle.std.specs.Prelude.{◌≡◌, ◌⊎◌, IfOk, OnErr, OnOk}
use Rattle.std.specs.Prelude.{Result}
use Rattle.mds_world.specs.World.{World, union}

-- what is kept; whether what lies outside has been honest; whether it is honest and not shut; what an open after a crash may find
pub record Kept : Type 1 where
  pub world : World
  pub honest : Type 0
  pub sound : Type 0
  pub may_leave : World → Type 0

-- It keeps what it kept, and a crash leaves no more than it did. If it is honest, or sound, it was so before.
pub record Stays (old new : Kept) : Type 0 where
  pub outside : new.honest → old.honest
  pub before : new.sound → old.sound
  pub same : new.sound → new.world ≡ old.world
  pub crash : new.honest → (left : World) → new.may_leave left → old.may_leave left

-- A query: it is answered only by a sound keeper, and the result has this relation to the World.
pub record Asks {A E : Type 0} (old new : Kept) (result : Result A E) (Tells : World → A → Type 0) : Type 0 where
  pub stays : Stays old new
  pub opens : new.honest → OnOk result new.sound
  pub tells : new.sound → IfOk result (Tells old.world)

-- A change: all of the additions, or nothing. A crash leaves what it left before, or all of them too.
pub record Adds {A E : Type 0} (old new : Kept) (result : Result A E) (added : World) : Type 0 where
  pub outside : new.honest → old.honest
  pub before : new.sound → old.sound
  pub opens : new.honest → OnOk result new.sound
  pub ok : new.sound → OnOk result (new.world ≡ union old.world added)
  pub err : new.sound → OnErr result (new.world ≡ old.world)
  pub crash : new.honest → (left : World) → new.may_leave left
      → old.may_leave left ⊎ (old.sound × (left ≡ union old.world added))

-- What holds of the kept World. If the keeper isn't sound, it holds of every World.
abbrev pub OfKept : Kept → Kept → (World → Type 0) → Type 0
OfKept old new Holds = new.honest → (w : World) → (old.sound → old.world ≡ w) → Holds w
