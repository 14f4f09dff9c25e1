use Rattle.std.proofs.Common.{rules}
use Rattle.mds_records.proofs.Terms.{reason_there}
use Rattle.mds_records.proofs.register_read.read_register.Goals as goal

pub unwrap-requires-3 : goal.unwrap-requires-3
unwrap-requires-3 c =
    let there = reason_there _ _ c.read-reason.result c.read-reason.ensures.value in
    search rules
