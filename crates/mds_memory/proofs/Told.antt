-- What a keeper in memory answers: it is sound at any time, and a query leaves it as it is.
use Rattle.std.proofs.Common.{◌≡◌, ◌∙◌, inr, subst}
use Rattle.std.specs.Prelude.{Ok}
use Rattle.mds_world.specs.World.{World, union}
use Rattle.mds_keeper.specs.Kept.{Adds, Asks, Kept}
use Rattle.mds_keeper.proofs.Asked.{stays_put}

-- a keeper that keeps this World
abbrev pub keeps : World → Kept
keeps w = record { world = w; honest = Unit {0}; sound = Unit {0}; may_leave = λ left. left ≡ w }

module _ {A E : Type 0} where
  -- what holds of the World that its parts stand for
  pub told : {v w : World} {x : A} {Tells : World → A → Type 0} → v ≡ w → Tells v x → Asks {A = A} {E = E} (keeps w) (keeps w) (Ok x) Tells
  told {w = w} {x = x} {Tells = Tells} is tells = record {
    stays = stays_put (keeps w);
    opens = λ honest. tt;
    tells = λ sound. subst (λ v. Tells v x) is tells;
  }

  -- what it keeps with what is added
  pub added : {v w more : World} {x : A} → v ≡ union w more → Adds {A = A} {E = E} (keeps w) (keeps v) (Ok x) more
  added is = record {
    outside = λ honest. honest;
    before = λ sound. sound;
    opens = λ honest. tt;
    ok = λ sound. is;
    err = λ sound. tt;
    crash = λ honest left it. inr (tt, it ∙ is);
  }
