use Rattle.std.proofs.Common.{ap, sym, ◌∙◌}
use Rattle.mds_keeper.specs.Content.{rows_of}
use Rattle.mds_pack_rows.proofs.BatchLemmas.{row_of_day}
use Rattle.mds_pack_rows.proofs.batches.pack_new_day.Goals as goal

pub returns-in-Each-clause-says : goal.returns-in-Each-clause-says
returns-in-Each-clause-says c =
    row_of_day c.pack_listed.result c.args.added.now c.as_slice.result.now (ap rows_of c.in-Each.is ∙ sym c.as_slice.ensures.value) c.pack_listed.ensures.says

pub returns-else-not-is_new-clause-says : goal.returns-else-not-is_new-clause-says
returns-else-not-is_new-clause-says c = row_of_day c.pack_whole.result c.args.added.now _ (ap rows_of c.in-Whole.is) c.pack_whole.ensures.says
