-- What a commit does, and what a crash may leave of it.
use Rattle.std.proofs.Common.{◌≡◌, map, refl, sym, ap, subst, ◌∙◌, arith}
use Rattle.sqlite.specs.Effect.{Database}
use Rattle.sqlite.specs.State.{HasCleanDisk, State, Survives}
use Rattle.sqlite.proofs.StateLemmas.{survives_then}
use Rattle.sqlite_catalog.specs.Listing.{IsSound}
use Rattle.sqlite_trees.specs.Tree.{Trees}
use Rattle.mds_keeper.specs.declared.additions.Additions.{Additions}
use Rattle.mds_tables.specs.RowFacts.{int_at}
use Rattle.mds_tables.specs.Stores.{CommitsOf, Gained, HoldsOf, IsReady, IsStoreOf, LeavesAddedOf}
use Rattle.mds_tables.specs.Layouts.{Layout}
use Rattle.mds_tables.specs.Tables.{schema_with}
use Rattle.mds_tables.specs.Writing.{HasAddedOf, LeavesWrittenOf, WritesOf}

module _ (layout : Layout) (HasOwn : Gained) (old mid new : State) (added : Additions) (ready : HasCleanDisk mid → IsReady old mid)
    (one : Survives old mid (λ _. ⊥)) (holds : HoldsOf layout old) where
  module _ (clean : HasCleanDisk mid) where
    now_is : mid.now ≡ old.committed
    now_is = (ready clean).same.0.now_is ∙ (ready clean).settled

    kept : IsStoreOf layout old.committed
    kept = holds (omega (arith, one.clean)) (ready clean).same.0.was_open

    schema_is : mid.now.schema ≡ schema_with layout.more
    schema_is = ap (λ (db : Database). db.schema) now_is ∙ kept.schema

    is_sound : IsSound (schema_with layout.more) mid.now.trees
    is_sound =
        let it = ready clean in
        subst (λ schema. IsSound schema mid.now.trees) schema_is
        (subst (λ (db : Database). IsSound db.schema db.trees) (sym it.same.0.now_is) it.sound)

    -- what is added to what the transaction saw is added to what was kept
    from_kept : (left : Trees) → HasAddedOf layout HasOwn added mid.now.trees left → HasAddedOf layout HasOwn added old.committed.trees left
    from_kept left has = subst (λ (db : Database). HasAddedOf layout HasOwn added db.trees left) now_is has

    still_a_store : (db : Database) → db.schema ≡ schema_with layout.more → HasAddedOf layout HasOwn added old.committed.trees db.trees → IsStoreOf layout db
    still_a_store db schema has = record {
      schema = schema;
      version = ap (map (λ row. int_at row 1)) has.rows.schema ∙ kept.version;
    }

  -- what a crash may leave
  pub leaves : Survives mid new (LeavesWrittenOf layout HasOwn mid added) → Survives old new (LeavesAddedOf layout HasOwn old added)
  leaves two = survives_then old mid new (λ _. ⊥) (LeavesWrittenOf layout HasOwn mid added) (LeavesAddedOf layout HasOwn old added)
      (λ _ db none. absurd none) (λ clean left has.
      let early : HasCleanDisk mid = omega (arith, two.clean) in
      let it = ready early in
      let after = from_kept early left (has it.same.0.is_open (schema_is early) (is_sound early)) in
      record {
        was_open = it.same.0.was_open;
        store = still_a_store early (record { schema = schema_with layout.more; trees = left }) refl after;
        sound = after.sound;
        rows = after.rows;
        world = after.world;
      }) one two

  -- an answer Ok says that all of them are kept
  pub commits : HasCleanDisk mid → WritesOf layout HasOwn mid new added → CommitsOf layout HasOwn old new added
  commits early done =
      let it = ready early in
      let is_open = it.same.0.is_open in
      let after = from_kept early new.committed.trees (done.added is_open (schema_is early) (is_sound early)) in
      record {
        was_open = it.same.0.was_open;
        is_open = done.is_open is_open;
        store = still_a_store early new.committed (done.schema is_open (schema_is early) (is_sound early)) after;
        rows = after.rows;
        world = after.world;
      }
