-- How many tables and indexes a schema has.
use Rattle.std.proofs.Common.{◌≡◌, ℕ, zero, suc, ◌+◌, length, refl, ap}
use Rattle.mds_pack_rows.specs.Schemas.{indexes_from, tables_from}

pub so_many_tables : (n count : ℕ) → length (tables_from n count) ≡ count
so_many_tables n zero = refl
so_many_tables n (suc count) = ap suc (so_many_tables (n + 1) count)

pub so_many_indexes : (n count : ℕ) → length (indexes_from n count) ≡ count
so_many_indexes n zero = refl
so_many_indexes n (suc count) = ap suc (so_many_indexes (n + 1) count)
