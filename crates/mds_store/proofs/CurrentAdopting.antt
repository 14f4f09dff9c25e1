-- Whether a database that has the tables of a schema is a store of it, from what was asked of it.
use Rattle.std.specs.Prelude.{◌≡◌, ◌≢◌, ℕ, pos, List, [], ◌∷◌, map, Bool, true, false, IfErr, IfOk, IsTrue, OnOk, Ok, Err, Result}
use Rattle.std.specs.Bool.{MatchBool}
use Rattle.std.specs.List.Sorted.{IsPermutation}
use Rattle.std.proofs.Common.{refl, ap, subst, sym, ◌∙◌, arith}
use Rattle.std.proofs.lemmas.List.Sorted.{length_permutation}
use Rattle.sqlite.specs.Effect.{Database}
use Rattle.sqlite.specs.State.{HasCleanDisk, KeepsCommit, State, Survives}
use Rattle.sqlite.specs.declared.error.Error.{Error}
use Rattle.sqlite.proofs.InsideLemmas.{keeps_then}
use Rattle.sqlite_trees.specs.Tree.{Trees}
use Rattle.sqlite_value.specs.Order.{Row}
use Rattle.mds_tables.specs.Causes.{HasFailed}
use Rattle.mds_tables.specs.Queries.{Answers}
use Rattle.mds_tables.specs.Stores.{AreOpen, HoldsTablesOf, SelectsAll, versions_said}
use Rattle.mds_tables.specs.Layouts.{Layout}
use Rattle.mds_tables.specs.Tables.{version_tree}
use Rattle.mds_tables.proofs.CallLemmas.{survives_more}
use Rattle.mds_tables.proofs.CauseLemmas.{failed_since}
use Rattle.mds_pack_rows.specs.Current.{current_layout}
use Rattle.mds_store.proofs.Adopting.{is_adopted, still_holds}
use Rattle.mds_store.specs.Daily.{AreBare, AreDaily, IsDailyStore}
use Rattle.mds_store.specs.CurrentStore.{AreCurrent, IsCurrentAdopted, IsCurrentStore}
use Rattle.mds_store.specs.Packed.{ArePacked, IsPackedStore}

-- ---- that a table has no row

none_shown : (rows shown : List Row) → IsPermutation rows shown → shown ≡ [] → rows ≡ []
none_shown [] shown same none = refl
none_shown (row ∷ rows) [] same none = let n = length_permutation (row ∷ rows) [] same in absurd (omega (arith, n))
none_shown (row ∷ rows) (x ∷ xs) same none = absurd cc

none_to_show : (rows shown : List Row) → IsPermutation rows shown → rows ≡ [] → shown ≡ []
none_to_show rows [] same none = refl
none_to_show [] (x ∷ xs) same none = let n = length_permutation [] (x ∷ xs) same in absurd (omega (arith, n))
none_to_show (row ∷ rows) (x ∷ xs) same none = absurd cc

unmapped : (f : Row → Row) (rows : List Row) → map f rows ≡ [] → rows ≡ []
unmapped f [] none = refl
unmapped f (row ∷ rows) none = absurd cc

pub shows_none : (tree column : ℕ) (trees : Trees) (shown : List Row) → SelectsAll tree (column ∷ []) trees shown → (none : Bool)
    → MatchBool none (shown ≡ []) (shown ≢ []) → MatchBool none (trees tree ≡ []) (trees tree ≢ [])
shows_none tree column trees shown sel true is = unmapped _ (trees tree) (none_shown _ shown sel is)
shows_none tree column trees shown sel false some = λ empty. some (none_to_show _ shown sel (ap (map _) empty))

-- ---- one question after another

-- the tables are still those of the layout
pub tables_on : (layout : Layout) {A E : Type 0} {old mid : State} {r : Result A E} {Tells : Trees → A → Type 0} → Answers (HoldsTablesOf layout) old mid r Tells
    → HoldsTablesOf layout old → HoldsTablesOf layout mid
tables_on layout {old = old} {mid = mid} first held clean is_open =
    let kept = first.kept clean held in
    let before : HasCleanDisk old = let less = (first.survives held).clean in let is = clean in omega arith in
    ap (λ (db : Database). db.schema) (kept.committed is_open) ∙ held before (kept.was_open is_open)

opened : {B F : Type 0} (old mid new : State) (r : Result B F) → OnOk r (AreOpen mid new) → IsTrue old.is_open → OnOk r (AreOpen old new)
opened old mid new (Ok y) are was = record { was_open = was; is_open = are.is_open }
opened old mid new (Err e) are was = tt

pub answers_then : (layout : Layout) {A B E F : Type 0} {old mid new : State} {x : A} {r : Result B F} {Tells : Trees → A → Type 0} {Says Shows : Trees → B → Type 0}
    → Answers {E = E} (HoldsTablesOf layout) old mid (Ok x) Tells → Answers (HoldsTablesOf layout) mid new r Says
    → ((trees : Trees) → Tells trees x → IfOk r (Says trees) → IfOk r (Shows trees)) → Answers (HoldsTablesOf layout) old new r Shows
answers_then layout {old = old} {mid = mid} {new = new} {r = r} {Says = Says} first second both =
    let early : HoldsTablesOf layout old → HasCleanDisk new → HasCleanDisk mid =
    λ held clean. let less = (second.survives (tables_on layout first held)).clean in let is = clean in omega arith in
    record {
      found = λ clean held.
          let before = early held clean in
          let same = (first.kept before held).committed (first.open before held).is_open in
          both old.committed.trees (first.found before held)
          (subst (λ (db : Database). IfOk r (Says db.trees)) same (second.found clean (tables_on layout first held)));
      «open» = λ clean held. opened old mid new r (second.open clean (tables_on layout first held)) (first.open (early held clean) held).was_open;
      kept = λ clean held. keeps_then old mid new (first.kept (early held clean) held) (second.kept clean (tables_on layout first held));
      mode = second.mode;
      survives = λ held. survives_more old mid new (first.survives held) (second.survives (tables_on layout first held));
    }

-- why the second fails is why both do
pub fails_then : (layout : Layout) {A E : Type 0} {old mid : State} {x : A} {Tells : Trees → A → Type 0} (new : State)
    → Answers {E = E} (HoldsTablesOf layout) old mid (Ok x) Tells → HoldsTablesOf layout old → HasCleanDisk mid
    → {B : Type 0} (r : Result B Error) → IfErr r (HasFailed mid new) → IfErr r (HasFailed old new)
fails_then layout new first held clean (Ok y) failed = tt
fails_then layout {old = old} {mid = mid} new first held clean (Err e) failed =
    let begun = first.survives held in
    failed_since old mid new begun.counts (first.open clean held).is_open begun.limit e failed

-- what an answer tells, in other words
pub answers_as : {A B E : Type 0} {IsHeld : State → Type 0} {old new : State} {x : A} {y : B} {Tells : Trees → A → Type 0} {Says : Trees → B → Type 0}
    → Answers {E = E} IsHeld old new (Ok x) Tells → ((trees : Trees) → Tells trees x → Says trees y) → Answers {E = E} IsHeld old new (Ok y) Says
answers_as {old = old} it says = record {
  found = λ clean held. says old.committed.trees (it.found clean held);
  «open» = it.open;
  kept = it.kept;
  mode = it.mode;
  survives = it.survives;
}

-- and where it isn't given
pub told_none : {A B E F : Type 0} {IsHeld : State → Type 0} {old new : State} {e : E} {Tells : Trees → A → Type 0} {Says : Trees → B → Type 0}
    → Answers {A = A} IsHeld old new (Err e) Tells → (f : F) → Answers {A = B} IsHeld old new (Err f) Says
told_none it f = record {
  found = λ clean held. tt;
  «open» = λ clean held. tt;
  kept = it.kept;
  mode = it.mode;
  survives = it.survives;
}

-- the two together are what is asked for, or it isn't so
pub both_are : {P Q R : Type 0} → (P → Q → R) → (R → Q) → P → (b : Bool) → MatchBool b Q (Q → ⊥) → MatchBool b R (R → ⊥)
both_are join part first true second = join first second
both_are join part first false none = λ all. none (part all)

pub none_are : {P R : Type 0} → (R → P) → (b : Bool) → b ≡ false → MatchBool b P (P → ⊥) → R → ⊥
none_are part true is told all = absurd cc
none_are part false is none all = none (part all)

pub is_so : {P : Type 0} (Q : Type 0) → (b : Bool) → b ≡ true → MatchBool b P Q → P
is_so Q true is told = told
is_so Q false is told = absurd cc

pub packed : (trees : Trees) → versions_said trees ≡ pos 2 ∷ [] → trees version_tree ≡ [] → ArePacked trees
packed trees says empty = record { version = says; unversioned = empty }

pub daily : (trees : Trees) → versions_said trees ≡ pos 3 ∷ [] → AreBare trees → AreDaily trees
daily trees says bare = record { version = says; bare = bare }

pub current : (trees : Trees) → versions_said trees ≡ pos current_layout.number ∷ [] → AreBare trees → AreCurrent trees
current trees says bare = record { version = says; bare = bare }

-- ---- that it is one, or none

module _ (layout : Layout) (old new : State) (held : HoldsTablesOf layout old) (kept : HasCleanDisk new → KeepsCommit old new) where
  -- what isn't so of what is committed isn't so of what is seen
  pub isnt_seen : (AreThese : Trees → Type 0) → HasCleanDisk new → (IsTrue old.is_open → old.now ≡ old.committed)
      → (AreThese old.committed.trees → ⊥) → IsTrue new.is_open → AreThese old.now.trees → ⊥
  isnt_seen AreThese clean settled other is_open these =
      let same = settled ((kept clean).was_open is_open) in
      other (subst (λ (db : Database). AreThese db.trees) same these)

-- a store of schema 2 has these tables, and so has one of a later schema
pub of_pack : (db : Database) → IsPackedStore db → ArePacked db.trees
of_pack db is = record { version = is.store.version; unversioned = is.unversioned }

pub of_daily : (db : Database) → IsDailyStore db → AreDaily db.trees
of_daily db is = record { version = is.store.version; bare = is.bare }

pub of_current : (db : Database) → IsCurrentStore db → AreCurrent db.trees
of_current db is = record { version = is.store.version; bare = is.bare }

pub is_current_adopted : (old new : State) → HoldsTablesOf current_layout old → Survives old new (λ _. ⊥) → (HasCleanDisk new → KeepsCommit old new)
    → HasCleanDisk new → AreOpen old new → AreCurrent old.committed.trees → IsCurrentAdopted old new
is_current_adopted old new held survives kept clean are_open are = record {
  adopted = is_adopted current_layout old new held survives kept clean are_open are.version;
  bare = are.bare;
}

-- and so it stays
pub still_current : (old new : State) → HoldsTablesOf current_layout old → Survives old new (λ _. ⊥) → (HasCleanDisk new → KeepsCommit old new)
    → (HasCleanDisk new → AreCurrent old.committed.trees) → HasCleanDisk new → IsTrue new.is_open → IsCurrentStore new.committed
still_current old new held survives kept are clean is_open = record {
  store = still_holds current_layout old new held survives kept (λ clean. (are clean).version) clean is_open;
  bare = subst (λ (db : Database). AreBare db.trees) (sym ((kept clean).committed is_open)) (are clean).bare;
}
