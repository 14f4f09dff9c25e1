use Rattle.std.proofs.Common.{ap, sym, ◌∙◌}
use Rattle.sqlite.specs.Held.{state}
use Rattle.mds_keeper.specs.Content.{rows_of}
use Rattle.mds_pack_rows.proofs.PutLemmas.{puts_rows}
use Rattle.mds_pack_rows.proofs.grouping.put_day.Goals as goal

pub returns-in-Each-clause-ok : goal.returns-in-Each-clause-ok
returns-in-Each-clause-ok g c =
    puts_rows c.put_listed.result (state g.S.Store c.args.tx.now.conn.now) (state g.S.Store c.put_listed.new.tx.conn.now) c.args.added.now
    c.as_slice.result.now (ap rows_of c.in-Each.is ∙ sym c.as_slice.ensures.value) c.put_listed.ensures.ok

pub returns-in-Whole-clause-ok : goal.returns-in-Whole-clause-ok
returns-in-Whole-clause-ok g c =
    puts_rows c.put_whole.result (state g.S.Store c.args.tx.now.conn.now) (state g.S.Store c.put_whole.new.tx.conn.now) c.args.added.now
    _ (ap rows_of c.in-Whole.is) c.put_whole.ensures.ok
