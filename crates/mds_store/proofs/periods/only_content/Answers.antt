use Rattle.mds_store.proofs.periods.only_content.Goals as goal

pub returns : goal.returns
returns c = (c.in-Some.row.now, rw c.in-Some.is at c.in_ok-row.ensures.ok, c.in_ok-content.ensures.ok)
