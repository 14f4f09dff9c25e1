-- What a making or an adoption of a store answers (profile).
use Rattle.std.specs.Prelude.{◌≡◌, IsTrue, true}
use Rattle.sqlite.specs.State.{KeepsCommit, State}
use Rattle.mds_tables.specs.Causes.{HasFailed}
use Rattle.mds_tables.specs.Layouts.{Layout}
use Rattle.mds_tables.specs.Making.{KeepsNothingOf}
use Rattle.mds_tables.specs.Stores.{IsStoreOf}
use Rattle.mds_tables.specs.Tables.{no_schema}
use Rattle.mds_store.specs.declared.fault.StoreFault.{StoreFault}
use Rattle.mds_store.specs.declared.fault.StoreFault.TheVariants.{EarlierSchema, InTransaction, OtherSchema, Unavailable}

-- The database was empty, and is a store that keeps nothing.
pub record IsCreated (layout : Layout) (old new : State) : Type 0 where
  pub was_open : IsTrue old.is_open
  pub was_empty : old.now.schema ≡ no_schema
  pub is_open : IsTrue new.is_open
  pub made : KeepsNothingOf layout new.committed

-- The database was a store, and keeps what it kept.
pub record IsAdopted (layout : Layout) (old new : State) : Type 0 where
  pub was_open : IsTrue old.is_open
  pub is_open : IsTrue new.is_open
  pub store : IsStoreOf layout old.committed
  pub same : new.committed ≡ old.committed

-- Nothing was changed. U3 only if the database is neither the wanted one nor an earlier one, and U2 only if it is an earlier
-- one. U1 only in a transaction or if the store failed with this error.
abbrev pub IsRefused : (Wanted IsEarlier : Type 0) → State → State → StoreFault → Type 0
IsRefused Wanted IsEarlier old new OtherSchema = KeepsCommit old new × (Wanted → ⊥) × (IsEarlier → ⊥)
IsRefused Wanted IsEarlier old new EarlierSchema = KeepsCommit old new × IsEarlier
IsRefused Wanted IsEarlier old new InTransaction = KeepsCommit old new × (old.in_transaction ≡ true)
IsRefused Wanted IsEarlier old new (Unavailable error) = KeepsCommit old new × HasFailed old new error
