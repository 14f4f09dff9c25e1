-- What holds of each World that a sound keeper keeps.
use Rattle.std.specs.Prelude.{Ok}
use Rattle.std.proofs.Common.{◌≡◌, ◌∙◌, subst}
use Rattle.mds_world.specs.World.{World}
use Rattle.mds_keeper.specs.Kept.{Asks, Kept, OfKept, Stays}

module _ {a b : Kept} where
  -- behind a call that keeps what was kept
  pub still : {w : World} → Stays a b → (a.sound → a.world ≡ w) → b.sound → b.world ≡ w
  still stays shows = λ now. stays.same now ∙ shows (stays.before now)

  -- what a query tells
  pub told_of : {A E : Type 0} {x : A} {Tells : World → A → Type 0} → Asks {A = A} {E = E} a b (Ok x) Tells
      → OfKept a b (λ w. Tells w x)
  told_of {x = x} {Tells = Tells} asked = λ honest w shows.
      let sound = asked.opens honest in
      subst (λ v. Tells v x) (shows (asked.stays.before sound)) (asked.tells sound)
