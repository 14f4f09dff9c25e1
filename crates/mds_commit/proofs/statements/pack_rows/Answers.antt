use Rattle.std.proofs.Common.{refl}
use Rattle.mds_tables.specs.Cells as row
use Rattle.mds_tables.proofs.QueryLemmas.{finds_rows, queried}
use Rattle.mds_pack_rows.specs.Current.{current_layout, current_packs}
use Rattle.mds_pack_rows.specs.PackTables.{pack_table, pack_tree, update_columns}
use Rattle.mds_pack_rows.proofs.AskLemmas.{day_for, pack_typed}
use Rattle.mds_commit.proofs.FormTexts.{select_packs, select_packs_is, select_packs_plain}
use Rattle.mds_commit.proofs.statements.pack_rows.Goals as goal

pub returns : goal.returns
returns g c =
    queried current_layout select_packs select_packs_plain _
    (λ clean. finds_rows current_layout select_packs select_packs_plain pack_tree update_columns _ (λ db. refl)
    (row.day_cells c.args.stream.now c.args.day) select_packs_is
    pack_table.columns (day_for c.args.stream.now c.args.day) (pack_typed current_packs.rest.more) _ _ (λ v. v.items) c.query_all.result
    (rw c.day_cells.ensures at (c.query_all.ensures.ok clean)))
    c.query_all.ensures.err c.query_all.ensures.mode c.query_all.ensures.survives
