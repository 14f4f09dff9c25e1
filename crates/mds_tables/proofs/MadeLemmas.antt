-- What a crash may leave of a making.
use Rattle.std.proofs.Common.{◌≡◌, inl, inr, true, IfErr, IsTrue, Ok, Err, Result, refl, sym, ap, subst, ◌∙◌, arith}
use Rattle.sqlite.specs.Effect.{Database}
use Rattle.sqlite.specs.State.{HasCleanDisk, State, Survives}
use Rattle.sqlite.specs.Steps.{FailsToCommit}
use Rattle.sqlite.specs.declared.error.Error.{Error}
use Rattle.std.proofs.lemmas.Bool.{both_ways}
use Rattle.sqlite.proofs.StateLemmas.{survives_then}
use Rattle.sqlite_catalog.specs.Listing.{IsSound}
use Rattle.mds_tables.specs.Causes.{HasFailed}
use Rattle.mds_tables.specs.Making.{HasMadeOf, KeepsNothingOf, LeavesMadeOf, MakesThere, SaysVersionOf}
use Rattle.mds_tables.specs.Layouts.{Layout}
use Rattle.mds_tables.specs.Stores.{IsReady}
use Rattle.mds_tables.specs.Tables.{no_schema, schema_with}
use Rattle.mds_tables.proofs.CallLemmas.{survives_more}
use Rattle.mds_tables.proofs.CauseLemmas.{failed_since, store_fails}

-- the same of its trees, under the schema that it has
keeps_trees : (layout : Layout) (db : Database) → KeepsNothingOf layout db
    → KeepsNothingOf layout (record { schema = schema_with layout.more; trees = db.trees })
keeps_trees layout db keeps =
    record { store = record { schema = refl; version = keeps.store.version }; bare = keeps.bare; world = keeps.world }

-- the beginning of a transaction leaves nothing
begun : (s : State) → Survives s (record s { in_transaction = true }) (λ _. ⊥)
begun s = record {
  clean = omega arith;
  shield = λ h. h;
  counts = omega arith;
  limit = refl;
  closes = λ _ o. inl o;
  crash = λ _ db may. inl may;
}

module _ (layout : Layout) (start begins last said new : State) (is : begins ≡ record start { in_transaction = true })
    (one : Survives begins last (λ _. ⊥)) (two : Survives last said (λ _. ⊥))
    (three : Survives said new (λ db. db ≡ said.now.trees))
    (makes : MakesThere no_schema (schema_with layout.more) begins last) (says : SaysVersionOf layout last said) where
  module _ (clean : HasCleanDisk new) (is_open : IsTrue start.is_open) (none : start.now.schema ≡ no_schema) where
    early : HasCleanDisk said
    early = omega (arith, three.clean)

    earlier : HasCleanDisk last
    earlier = omega (arith, three.clean, two.clean)

    open_then : IsTrue begins.is_open
    open_then = rw is is_open

    none_then : begins.now.schema ≡ no_schema
    none_then = ap (λ (s : State). s.now.schema) is ∙ none

    last_open : IsTrue last.is_open
    last_open = makes.is_open earlier open_then

    all_made : last.now.schema ≡ schema_with layout.more
    all_made = makes.schema earlier open_then none_then

    keeps : KeepsNothingOf layout said.now
    keeps = says.said early last_open all_made (makes.empty earlier open_then none_then tt)

    sound : IsSound (schema_with layout.more) said.now.trees
    sound = says.sound early last_open all_made

    said_open : IsTrue said.is_open
    said_open = says.is_open early last_open

    still_inside : IsTrue said.in_transaction
    still_inside = says.inside early (makes.inside earlier (ap (λ (s : State). s.in_transaction) is))

    -- why the commit fails
    failed : (e : Error) → FailsToCommit said new e → HasFailed start new e
    failed e (inl fails) =
        let first : begins.faults ≡ start.faults = ap (λ (s : State). s.faults) is in
        failed_since start said new (omega (arith, first, one.counts, two.counts)) said_open
        (two.limit ∙ one.limit ∙ ap (λ (s : State). s.step_limit) is) e (inl (store_fails said new ⊥ e fails))
    failed e (inr over) = absurd (both_ways _ over.1 still_inside)

  pub commit_fails : {X : Type 0} (r : Result X Error) → (HasCleanDisk new → IfErr r (FailsToCommit said new)) → HasCleanDisk new
      → IsTrue start.is_open → start.now.schema ≡ no_schema → IfErr r (HasFailed start new)
  commit_fails (Ok x) h clean is_open none = tt
  commit_fails (Err e) h clean is_open none = failed clean is_open none e (h clean)

  -- what a crash may leave of the transaction
  pub has_made : Survives start new (HasMadeOf layout start)
  has_made =
      survives_then start said new (λ _. ⊥) (λ db. db ≡ said.now.trees) (HasMadeOf layout start) (λ _ db none. absurd none)
      (λ clean db same. record {
        made = λ is_open none.
            subst (λ trees. KeepsNothingOf layout (record { schema = schema_with layout.more; trees = trees })) (sym same)
            (keeps_trees layout said.now (keeps clean is_open none));
        sound = λ is_open none. subst (IsSound (schema_with layout.more)) (sym same) (sound clean is_open none);
      })
      (survives_more start last said (survives_more start begins last (subst (λ s. Survives start s (λ _. ⊥)) (sym is) (begun start)) one) two)
      three

-- the transaction sees what was committed
seen : (old mid : State) → IsReady old mid → old.committed.schema ≡ no_schema → mid.now.schema ≡ no_schema
seen old mid ready none = ap (λ (db : Database). db.schema) (ready.same.0.now_is ∙ ready.settled) ∙ none

-- the same, told of what was committed, once the connection is known to be open
pub leaves_made : (layout : Layout) (old mid new : State) → (HasCleanDisk mid → IsReady old mid) → Survives old mid (λ _. ⊥)
    → Survives mid new (HasMadeOf layout mid) → Survives old new (LeavesMadeOf layout old)
leaves_made layout old mid new ready one two =
    survives_then old mid new (λ _. ⊥) (HasMadeOf layout mid) (LeavesMadeOf layout old) (λ _ db none. absurd none) (λ clean db has.
    let it = ready (omega (arith, two.clean)) in
    record {
      was_open = it.same.0.was_open;
      made = λ none. has.made it.same.0.is_open (seen old mid it none);
      sound = λ none. has.sound it.same.0.is_open (seen old mid it none);
    }) one two
