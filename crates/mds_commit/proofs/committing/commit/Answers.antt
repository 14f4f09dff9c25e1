use Rattle.std.proofs.Common.{OnErr, arith, rules}
use Rattle.sqlite.specs.Held.{state}
use Rattle.sqlite.specs.State.{HasCleanDisk, KeepsCommit}
use Rattle.mds_tables.proofs.CommitLemmas.{commits, leaves}
use Rattle.mds_tables.proofs.PutLemmas.{if_ok}
use Rattle.mds_pack_rows.specs.Current.{current_layout}
use Rattle.mds_commit.specs.FormPutting.{GainsForms}
use Rattle.mds_commit.proofs.CommitLemmas.{at_ready}
use Rattle.mds_commit.proofs.committing.commit.Goals as goal

pub returns-clause-ok : goal.returns-clause-ok
returns-clause-ok g c clean holds =
    let early : HasCleanDisk (state g.S.Store c.ready.new.conn) = omega (arith, c.write.ensures.survives.clean) in
    if_ok c.write.result _ _
    (commits current_layout GainsForms (state g.S.Store c.args.conn.now) (state g.S.Store c.ready.new.conn) (state g.S.Store c.write.new.conn)
    c.args.additions.now (rw c.in_ok-or_unavailable.ensures at c.ready.ensures.ok) c.ready.ensures.survives holds early) (c.write.ensures.ok clean)

pub returns-clause-survives : goal.returns-clause-survives
returns-clause-survives g c holds =
    leaves current_layout GainsForms (state g.S.Store c.args.conn.now) (state g.S.Store c.ready.new.conn) (state g.S.Store c.write.new.conn)
    c.args.additions.now (rw c.in_ok-or_unavailable.ensures at c.ready.ensures.ok) c.ready.ensures.survives holds c.write.ensures.survives

pub returns-clause-err : goal.returns-clause-err
returns-clause-err g c clean holds =
    let begun = state g.S.Store c.ready.new.conn in
    let new = state g.S.Store c.write.new.conn in
    let kept : OnErr c.write.result (KeepsCommit begun new) =
    c.write.ensures.err clean (at_ready (state g.S.Store c.args.conn.now) begun new (rw c.in_ok-or_unavailable.ensures at c.ready.ensures.ok)
    c.ready.ensures.survives c.write.ensures.survives.clean holds clean) in
    search rules
