use Rattle.std.proofs.Common.{◌+◌, length, ap, arith}
use Rattle.sqlite.specs.Schema.{Schema}
use Rattle.mds_pack_rows.proofs.SchemaLengths.{so_many_indexes, so_many_tables}
use Rattle.mds_pack_rows.proofs.known.has_schema.Goals as goal

pub returns-then-tables-count : goal.returns-then-tables-count
returns-then-tables-count c is =
    let size = ap (λ (s : Schema). length s.tables) is in
    omega (arith, c.if-tables-count.true, c.as_slice-tables.ensures, ap length c.as_slice-tables.ensures, size, so_many_tables 0 (c.args.number + 7))

pub returns-then-indexes-count : goal.returns-then-indexes-count
returns-then-indexes-count c is =
    let size = ap (λ (s : Schema). length s.indexes) is in
    omega (arith, c.if-indexes-count.true, c.as_slice-indexes.ensures, ap length c.as_slice-indexes.ensures, size, so_many_indexes 0 (c.args.number + 7))
