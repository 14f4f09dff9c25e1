-- What is answered after a question to the tables, and a step behind it.
use Rattle.std.proofs.Common.{◌≡◌, [], ◌∷◌, pos, inl, inr, IfErr, IfOk, IsTrue, Ok, Err, Result, sym, subst, arith}
use Rattle.sqlite.specs.Effect.{Database}
use Rattle.sqlite.specs.State.{HasCleanDisk, KeepsCommit, State, Survives}
use Rattle.sqlite.proofs.InsideLemmas.{keeps_then}
use Rattle.sqlite.proofs.StateLemmas.{survives_then}
use Rattle.sqlite_trees.specs.Tree.{Trees}
use Rattle.mds_tables.specs.Layouts.{rows_layout}
use Rattle.mds_tables.specs.Stores.{HoldsTablesOf, IsStore, versions_said}
use Rattle.mds_tables.specs.Tables.{schema_1}
use Rattle.mds_pack_rows.specs.Current.{current_layout, current_schema}
use Rattle.mds_pack_rows.specs.DailyLayout.{daily_layout}
use Rattle.mds_pack_rows.specs.DailyTables.{schema_3}
use Rattle.mds_pack_rows.specs.PackTables.{schema_2}
use Rattle.mds_pack_rows.specs.PacksLayout.{packs_layout}
use Rattle.mds_pack_rows.proofs.TwoSchemas.{not_of}
use Rattle.mds_store.specs.Daily.{AreDaily, IsDailyStore}
use Rattle.mds_store.specs.CurrentStore.{AreCurrent, IsCurrentStore}
use Rattle.mds_store.specs.Packed.{ArePacked, IsPackedStore}
use Rattle.mds_migrate.specs.declared.outcome.Migrated.{Migrated}
use Rattle.mds_migrate.specs.declared.outcome.Migrated.TheVariants.{Done}
use Rattle.mds_migrate.specs.declared.outcome.MigrateFault.{MigrateFault}
use Rattle.mds_migrate.specs.declared.outcome.MigrateFault.TheVariants.{OtherSchema, Unavailable}
use Rattle.mds_migrate.specs.Migrated.{Answered, HoldsFrom, IsMigrated, IsRefused, IsTaken, LeavesMigrated, LeavesTaken, Step, dating, forming, packing}

-- ---- a step behind a question

module _ (step : Step) (old mid : State) (kept : HasCleanDisk mid → KeepsCommit old mid) (one : Survives old mid (λ _. ⊥))
    (is : HasCleanDisk mid → IsTrue mid.is_open → step.From old.committed) where
  -- the store that was asked is one still
  pub holds_still : HoldsFrom step mid
  holds_still clean is_open = subst step.From (sym ((kept clean).committed is_open)) (is clean is_open)

  taken_since : (new : State) → HasCleanDisk mid → IsTaken step mid new → IsTaken step old new
  taken_since new clean it =
      let same = (kept clean).committed it.was_open in
      record {
        was_open = (kept clean).was_open it.was_open;
        was = subst step.From same it.was;
        is_open = it.is_open;
        schema = it.schema;
        taken = subst (λ (db : Database). step.Has db.trees new.committed.trees) same it.taken;
      }

  pub leaves_since : (May : Trees → Type 0) → ((left : Trees) → LeavesTaken step old left → May left) → (new : State)
      → Survives mid new (LeavesTaken step mid) → Survives old new May
  leaves_since May joins new two = survives_then old mid new (λ _. ⊥) (LeavesTaken step mid) May (λ _ db none. absurd none) (λ clean left it.
      let early : HasCleanDisk mid = omega (arith, two.clean) in
      let same = (kept early).committed it.was_open in
      joins left (record {
        was_open = (kept early).was_open it.was_open;
        was = subst step.From same it.was;
        taken = subst (λ (db : Database). step.Has db.trees left) same it.taken;
      })) one two

  pub answered_since : (new : State) → (IsTaken step old new → IsMigrated old new) → Survives mid new (LeavesTaken step mid) → (r : Result Migrated MigrateFault)
      → IfOk r (λ it. HasCleanDisk new → HoldsFrom step mid → (it ≡ Done) × IsTaken step mid new) → IfOk r (λ it. HasCleanDisk new → Answered old new it)
  answered_since new joins two (Ok it) h = λ clean.
      let early : HasCleanDisk mid = omega (arith, clean, two.clean) in
      let p = h clean holds_still in
      subst (Answered old new) (sym p.0) (joins (taken_since new early p.1))
  answered_since new joins two (Err e) h = tt

  pub refused_since : (new : State) → Survives mid new (LeavesTaken step mid) → (r : Result Migrated MigrateFault)
      → IfErr r (λ e. HasCleanDisk new → HoldsFrom step mid → (e ≡ Unavailable) × KeepsCommit mid new) → IfErr r (λ e. HasCleanDisk new → IsRefused old new e)
  refused_since new two (Ok it) h = tt
  refused_since new two (Err e) h = λ clean.
      let early : HasCleanDisk mid = omega (arith, clean, two.clean) in
      let p = h clean holds_still in
      subst (IsRefused old new) (sym p.0) (keeps_then old mid new (kept early) p.1)

-- ---- which of the steps it is

module _ {old new : State} where
  pub was_packing : IsTaken packing old new → IsMigrated old new
  was_packing it = inl it

  pub was_dating : IsTaken dating old new → IsMigrated old new
  was_dating it = inr (inl it)

  pub was_forming : IsTaken forming old new → IsMigrated old new
  was_forming it = inr (inr it)

module _ {old : State} where
  pub left_packing : (left : Trees) → LeavesTaken packing old left → LeavesMigrated old left
  left_packing left it = inl it

  pub left_dating : (left : Trees) → LeavesTaken dating old left → LeavesMigrated old left
  left_dating left it = inr (inl it)

  pub left_forming : (left : Trees) → LeavesTaken forming old left → LeavesMigrated old left
  left_forming left it = inr (inr it)

-- ---- that it is a store, as what was asked tells

module _ (old mid : State) (kept : HasCleanDisk mid → KeepsCommit old mid) (one : Survives old mid (λ _. ⊥)) where
  pub is_first : HoldsTablesOf rows_layout old → (HasCleanDisk mid → versions_said old.committed.trees ≡ pos 1 ∷ [])
      → HasCleanDisk mid → IsTrue mid.is_open → IsStore old.committed
  is_first held says clean is_open = record {
    schema = held (omega (arith, one.clean)) ((kept clean).was_open is_open);
    version = says clean;
  }

  pub is_packed : HoldsTablesOf packs_layout old → (HasCleanDisk mid → ArePacked old.committed.trees)
      → HasCleanDisk mid → IsTrue mid.is_open → IsPackedStore old.committed
  is_packed held are clean is_open =
      let it = are clean in
      record {
        store = record { schema = held (omega (arith, one.clean)) ((kept clean).was_open is_open); version = it.version };
        unversioned = it.unversioned;
      }

  pub is_daily : HoldsTablesOf daily_layout old → (HasCleanDisk mid → AreDaily old.committed.trees)
      → HasCleanDisk mid → IsTrue mid.is_open → IsDailyStore old.committed
  is_daily held are clean is_open =
      let it = are clean in
      record {
        store = record { schema = held (omega (arith, one.clean)) ((kept clean).was_open is_open); version = it.version };
        bare = it.bare;
      }

  pub is_current : HoldsTablesOf current_layout old → (HasCleanDisk mid → AreCurrent old.committed.trees)
      → HasCleanDisk mid → IsTrue mid.is_open → IsCurrentStore old.committed
  is_current held are clean is_open =
      let it = are clean in
      record {
        store = record { schema = held (omega (arith, one.clean)) ((kept clean).was_open is_open); version = it.version };
        bare = it.bare;
      }

  -- what isn't so of what is committed isn't so of what is seen
  pub isnt_seen : (These : Trees → Type 0) → HasCleanDisk mid → (IsTrue old.is_open → old.now ≡ old.committed)
      → (These old.committed.trees → ⊥) → IsTrue mid.is_open → These old.now.trees → ⊥
  isnt_seen These clean settled other is_open these =
      other (subst (λ (db : Database). These db.trees) (settled ((kept clean).was_open is_open)) these)

-- ---- that it is none

-- a database of one schema, which isn't a store of it, is none of any
abbrev pub IsNone : Database → Type 0
IsNone db = (IsStore db → ⊥) × (IsPackedStore db → ⊥) × (IsDailyStore db → ⊥) × (IsCurrentStore db → ⊥)

-- so it is refused
pub refused_as_none : (old new : State) → KeepsCommit old new → IsNone old.now → IsRefused old new OtherSchema
refused_as_none old new kept none = (kept, none.0, none.1, none.2, none.3)

pub none_of_1 : (db : Database) → db.schema ≡ schema_1 → (versions_said db.trees ≡ pos 1 ∷ [] → ⊥) → IsNone db
none_of_1 db has other = (
  (λ store. other store.version),
  (λ is. not_of packs_layout schema_1 db has (λ same. omega (arith, same)) is.store),
  (λ is. not_of daily_layout schema_1 db has (λ same. omega (arith, same)) is.store),
  (λ is. not_of current_layout schema_1 db has (λ same. omega (arith, same)) is.store),
)

pub none_of_2 : (db : Database) → db.schema ≡ schema_2 → (ArePacked db.trees → ⊥) → IsNone db
none_of_2 db has other = (
  (λ store. not_of rows_layout schema_2 db has (λ same. omega (arith, same)) store),
  (λ is. other (record { version = is.store.version; unversioned = is.unversioned })),
  (λ is. not_of daily_layout schema_2 db has (λ same. omega (arith, same)) is.store),
  (λ is. not_of current_layout schema_2 db has (λ same. omega (arith, same)) is.store),
)

pub none_of_3 : (db : Database) → db.schema ≡ schema_3 → (AreDaily db.trees → ⊥) → IsNone db
none_of_3 db has other = (
  (λ store. not_of rows_layout schema_3 db has (λ same. omega (arith, same)) store),
  (λ is. not_of packs_layout schema_3 db has (λ same. omega (arith, same)) is.store),
  (λ is. other (record { version = is.store.version; bare = is.bare })),
  (λ is. not_of current_layout schema_3 db has (λ same. omega (arith, same)) is.store),
)

pub none_of_current : (db : Database) → db.schema ≡ current_schema → (AreCurrent db.trees → ⊥) → IsNone db
none_of_current db has other = (
  (λ store. not_of rows_layout current_schema db has (λ same. omega (arith, same)) store),
  (λ is. not_of packs_layout current_schema db has (λ same. omega (arith, same)) is.store),
  (λ is. not_of daily_layout current_schema db has (λ same. omega (arith, same)) is.store),
  (λ is. other (record { version = is.store.version; bare = is.bare })),
)
