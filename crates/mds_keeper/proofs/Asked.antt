-- How what calls do to a keeper goes together.
use Rattle.std.specs.Prelude.{Ok}
use Rattle.std.proofs.Common.{◌∙◌, refl, subst}
use Rattle.mds_world.specs.World.{World}
use Rattle.mds_keeper.specs.Kept.{Asks, Kept, Stays}

-- two calls that keep what was kept
pub stays_on : {a b c : Kept} → Stays a b → Stays b c → Stays a c
stays_on {a = a} {b = b} {c = c} one other = record {
  outside = λ honest. one.outside (other.outside honest);
  before = λ sound. one.before (other.before sound);
  same = λ sound. other.same sound ∙ one.same (other.before sound);
  crash = λ honest left may. one.crash (other.outside honest) left (other.crash honest left may);
}

-- where nothing is asked
pub stays_put : (a : Kept) → Stays a a
stays_put a = record {
  outside = λ honest. honest;
  before = λ sound. sound;
  same = λ sound. refl;
  crash = λ honest left may. may;
}

module _ {A B E F : Type 0} where
  -- another result that tells no more
  pub asks_so : {a b : Kept} {x : A} {y : B} {Tells : World → A → Type 0} {Says : World → B → Type 0}
      → Asks {A = A} {E = E} a b (Ok x) Tells → ((w : World) → Tells w x → Says w y) → Asks {A = B} {E = F} a b (Ok y) Says
  asks_so {a = a} asked so = record {
    stays = asked.stays;
    opens = asked.opens;
    tells = λ sound. so a.world (asked.tells sound);
  }

module _ {A B C E F G : Type 0} where
  -- two queries
  pub asks_both : {a b c : Kept} {x : A} {y : B} {z : C} {Tells : World → A → Type 0} {Says : World → B → Type 0}
      {Shows : World → C → Type 0} → Asks {A = A} {E = E} a b (Ok x) Tells → Asks {A = B} {E = F} b c (Ok y) Says
      → ((w : World) → Tells w x → Says w y → Shows w z) → Asks {A = C} {E = G} a c (Ok z) Shows
  asks_both {a = a} {y = y} {Says = Says} one other so = record {
    stays = stays_on one.stays other.stays;
    opens = other.opens;
    tells = λ sound. so a.world (one.tells (other.stays.before sound))
        (subst (λ w. Says w y) (one.stays.same (other.stays.before sound)) (other.tells sound));
  }
