use Rattle.std.proofs.Common.{arith}
use Rattle.sqlite.specs.Held.{state}
use Rattle.mds_pack_rows.proofs.PassLemmas.{passed}
use Rattle.mds_commit.specs.Units.{AsksThere, ShowUnits}
use Rattle.mds_commit.proofs.UnitAsking.{answered, unanswered}
use Rattle.mds_commit.proofs.units.units_in_range.Goals as goal

pub returns-clause-asks : goal.returns-clause-asks
returns-clause-asks g c =
    let s = c.args.stream.now in
    let survives = c.query_all.ensures.survives in
    passed (λ r. AsksThere (state g.S.Store c.args.tx.now.conn.now) (state g.S.Store c.query_all.new.self.conn.now) r (λ rows. ShowUnits s c.args.first c.args.last rows.items))
    c.or_unavailable.result c.query_all.result c.or_unavailable.ensures
    (λ rows is.
    answered s c.args.first c.args.last survives (omega (arith, c.number.ensures.last)) _ rows.items
    (λ clean. rw (is, c.range_cells.ensures) at (c.query_all.ensures.ok clean)) (λ trees shows. shows))
    (λ _ e is.
    unanswered s c.args.first c.args.last survives _ e
    (λ clean. rw (is, c.range_cells.ensures) at (c.query_all.ensures.err clean)))
