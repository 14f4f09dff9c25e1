-- What a question and a commit do to a connection, as a keeper's calls.
use Rattle.std.specs.Prelude.{◌≡◌, Ok, Err, IsTrue, OnErr, OnOk, Result}
use Rattle.std.specs.Result.{is_ok}
use Rattle.std.proofs.Common.{◌∙◌, ap, arith, inl, inr, sym}
use Rattle.std.proofs.lemmas.Result.{on_err_weaker, on_ok_weaker}
use Rattle.sqlite.specs.Effect.{Database}
use Rattle.sqlite.specs.State.{HasCleanDisk, KeepsCommit, State, Survives}
use Rattle.sqlite_trees.specs.Tree.{Trees}
use Rattle.mds_world.specs.World.{World}
use Rattle.mds_keeper.specs.Content.{content}
use Rattle.mds_keeper.specs.Kept.{Adds, Asks, Stays}
use Rattle.mds_keeper.specs.declared.additions.Additions.{Additions}
use Rattle.mds_tables.specs.Layouts.{Layout, world_with}
use Rattle.mds_tables.specs.Queries.{Answers}
use Rattle.mds_tables.specs.Stores.{CommitsOf, Gained, HoldsOf, LeavesAddedOf}
use Rattle.mds_store.specs.KeptRows.{kept_in}

module _ (layout : Layout) {A E : Type 0} {old new : State} {r : Result A E} {Tells : Trees → A → Type 0} (holds : HoldsOf layout old)
    (answered : Answers (HoldsOf layout) old new r Tells) where
  -- it keeps what it kept
  pub stays : Stays (kept_in layout old) (kept_in layout new)
  stays = record {
    outside = λ clean. omega (arith, (answered.survives holds).clean, clean);
    before = λ sound. (
      omega (arith, (answered.survives holds).clean, sound.0),
      (answered.kept sound.0 holds).was_open sound.1,
    );
    same = λ sound. ap (λ (db : Database). world_with layout db.trees) ((answered.kept sound.0 holds).committed sound.1);
    crash = λ clean left may. elim ((answered.survives holds).crash clean may.0 may.1) [
      | inl was ↦ (may.0, was, may.2)
      | inr none ↦ absurd none
    ];
  }

-- an answer is what is so of the World
pub asked : (layout : Layout) {A E : Type 0} {old new : State} {r : Result A E} (Tells : World → A → Type 0) (holds : HoldsOf layout old)
    → Answers (HoldsOf layout) old new r (λ trees. Tells (world_with layout trees)) → Asks (kept_in layout old) (kept_in layout new) r Tells
asked layout {new = new} {r = r} Tells holds answered = record {
  stays = stays layout holds answered;
  opens = λ clean. on_ok_weaker r (λ are. (clean, are.is_open)) (answered.open clean holds);
  tells = λ sound. answered.found sound.0 holds;
}

-- where one result is of a kind with another, it is known of both
as_ok : {A B E F : Type 0} (P : Type 0) (r : Result A E) (s : Result B F) → is_ok s ≡ is_ok r → OnOk r P → OnOk s P
as_ok P (Ok x) (Ok y) like p = p
as_ok P (Ok x) (Err f) like p = tt
as_ok P (Err e) (Ok y) like p = absurd cc
as_ok P (Err e) (Err f) like p = tt

as_err : {A B E F : Type 0} (P : Type 0) (r : Result A E) (s : Result B F) → is_ok s ≡ is_ok r → OnErr r P → OnErr s P
as_err P r (Ok y) like p = tt
as_err P (Ok x) (Err f) like p = absurd cc
as_err P (Err e) (Err f) like p = p

module _ (layout : Layout) (HasVersions : Gained) {A E : Type 0} {old new : State} {additions : Additions} (r : Result A E)
    (holds : HoldsOf layout old) (ok : HasCleanDisk new → HoldsOf layout old → OnOk r (CommitsOf layout HasVersions old new additions))
    (err : HasCleanDisk new → OnErr r (KeepsCommit old new))
    (survives : HoldsOf layout old → Survives old new (LeavesAddedOf layout HasVersions old additions)) where
  was_clean : HasCleanDisk new → HasCleanDisk old
  was_clean clean = omega (arith, (survives holds).clean, clean)

  was_open : (s : Result A E) → OnOk s (CommitsOf layout HasVersions old new additions) → OnErr s (KeepsCommit old new)
      → IsTrue new.is_open → IsTrue old.is_open
  was_open (Ok x) made kept is_open = made.was_open
  was_open (Err e) made kept is_open = kept.was_open is_open

  -- a commit adds, and so does what answers of the same kind
  pub added : {B F : Type 0} (s : Result B F) → is_ok s ≡ is_ok r → Adds (kept_in layout old) (kept_in layout new) s (content additions)
  added s like = record {
    outside = was_clean;
    before = λ sound. (was_clean sound.0, was_open r (ok sound.0 holds) (err sound.0) sound.1);
    opens = λ clean. as_ok _ r s like (on_ok_weaker r (λ made. (clean, made.is_open)) (ok clean holds));
    ok = λ sound. as_ok _ r s like (on_ok_weaker r (λ made. made.world) (ok sound.0 holds));
    err = λ sound. as_err _ r s like (on_err_weaker r
        (λ kept. ap (λ (db : Database). world_with layout db.trees) (kept.committed sound.1)) (err sound.0));
    crash = λ clean left may. elim ((survives holds).crash clean may.0 may.1) [
      | inl was ↦ inl (may.0, was, may.2)
      | inr left ↦ inr ((was_clean clean, left.was_open), sym may.2 ∙ left.world)
    ];
  }
