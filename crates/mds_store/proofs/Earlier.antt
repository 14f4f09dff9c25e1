-- Which of the earlier stores a database is, by its tables.
use Rattle.std.proofs.Common.{◌≡◌, inl, inr, arith}
use Rattle.sqlite.specs.Effect.{Database}
use Rattle.mds_tables.specs.Layouts.{rows_layout}
use Rattle.mds_tables.specs.Stores.{IsStore}
use Rattle.mds_tables.specs.Tables.{schema_1}
use Rattle.mds_pack_rows.specs.Current.{current_schema}
use Rattle.mds_pack_rows.specs.DailyLayout.{daily_layout}
use Rattle.mds_pack_rows.specs.DailyTables.{schema_3}
use Rattle.mds_pack_rows.specs.PackTables.{schema_2}
use Rattle.mds_pack_rows.specs.PacksLayout.{packs_layout}
use Rattle.mds_pack_rows.proofs.TwoSchemas.{not_of}
use Rattle.mds_store.specs.CurrentStore.{IsEarlierStore}
use Rattle.mds_store.specs.Daily.{IsDailyStore}
use Rattle.mds_store.specs.Packed.{IsPackedStore}

pub of_first : (db : Database) → IsStore db → IsEarlierStore db
of_first db store = inl store

pub of_second : (db : Database) → IsPackedStore db → IsEarlierStore db
of_second db store = inr (inl store)

pub of_third : (db : Database) → IsDailyStore db → IsEarlierStore db
of_third db store = inr (inr store)

pub is_first : (db : Database) → db.schema ≡ schema_1 → IsEarlierStore db → IsStore db
is_first db has (inl store) = store
is_first db has (inr (inl store)) = absurd (not_of packs_layout schema_1 db has (λ same. omega (arith, same)) store.store)
is_first db has (inr (inr store)) = absurd (not_of daily_layout schema_1 db has (λ same. omega (arith, same)) store.store)

pub is_second : (db : Database) → db.schema ≡ schema_2 → IsEarlierStore db → IsPackedStore db
is_second db has (inl store) = absurd (not_of rows_layout schema_2 db has (λ same. omega (arith, same)) store)
is_second db has (inr (inl store)) = store
is_second db has (inr (inr store)) = absurd (not_of daily_layout schema_2 db has (λ same. omega (arith, same)) store.store)

pub is_third : (db : Database) → db.schema ≡ schema_3 → IsEarlierStore db → IsDailyStore db
is_third db has (inl store) = absurd (not_of rows_layout schema_3 db has (λ same. omega (arith, same)) store)
is_third db has (inr (inl store)) = absurd (not_of packs_layout schema_3 db has (λ same. omega (arith, same)) store.store)
is_third db has (inr (inr store)) = store

pub not_earlier : (db : Database) → db.schema ≡ current_schema → IsEarlierStore db → ⊥
not_earlier db has (inl store) = not_of rows_layout current_schema db has (λ same. omega (arith, same)) store
not_earlier db has (inr (inl store)) = not_of packs_layout current_schema db has (λ same. omega (arith, same)) store.store
not_earlier db has (inr (inr store)) = not_of daily_layout current_schema db has (λ same. omega (arith, same)) store.store
