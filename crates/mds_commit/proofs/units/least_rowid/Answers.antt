use Rattle.sqlite.specs.Held.{state}
use Rattle.mds_pack_rows.proofs.PassLemmas.{passed}
use Rattle.mds_commit.specs.Units.{AsksThere, TellRowids}
use Rattle.mds_commit.proofs.RowidAsking.{rowids_told, rowids_untold}
use Rattle.mds_commit.proofs.units.least_rowid.Goals as goal

pub returns-clause-asks : goal.returns-clause-asks
returns-clause-asks g c =
    let survives = c.query_all.ensures.survives in
    passed (λ r. AsksThere (state g.S.Store c.args.tx.now.conn.now) (state g.S.Store c.query_all.new.self.conn.now) r (λ rows. TellRowids rows.items))
    c.or_unavailable.result c.query_all.result c.or_unavailable.ensures
    (λ rows is. rowids_told survives _ rows.items (λ clean. rw is at (c.query_all.ensures.ok clean)) (λ trees tells. tells))
    (λ _ e is. rowids_untold survives _ e (λ clean. rw is at (c.query_all.ensures.err clean)))
