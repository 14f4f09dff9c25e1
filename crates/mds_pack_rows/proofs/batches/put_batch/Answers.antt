use Rattle.std.proofs.Common.{[], ◌∙◌, map}
use Rattle.std.proofs.lemmas.Result.{IfOk-from_err}
use Rattle.sqlite.specs.Held.{state}
use Rattle.mds_keeper.specs.Content.{version_fact, versions_of}
use Rattle.mds_tables.proofs.CallLemmas.{survives_more}
use Rattle.mds_pack_rows.proofs.PutLemmas.{if_ok, kept_then, puts_then}
use Rattle.mds_pack_rows.proofs.batches.put_batch.Goals as goal

pub returns-clause-ok : goal.returns-clause-ok
returns-clause-ok g c =
    if_ok c.put_each_day.result _ _
    (puts_then (state g.S.Store c.args.tx.now.conn.now) (state g.S.Store c.put_at_once.new.tx.conn.now) (state g.S.Store c.put_each_day.new.tx.conn.now)
    c.put_each_day.ensures.survives.clean [] (map version_fact (versions_of c.args.days.now)) (c.in_ok-put_at_once.ensures.none c.if-branch.false))
    c.put_each_day.ensures.ok

pub returns-clause-kept : goal.returns-clause-kept
returns-clause-kept g c =
    kept_then (state g.S.Store c.args.tx.now.conn.now) (state g.S.Store c.put_at_once.new.tx.conn.now) (state g.S.Store c.put_each_day.new.tx.conn.now)
    c.put_each_day.ensures.survives.clean [] (c.in_ok-put_at_once.ensures.none c.if-branch.false)
    (λ there. c.put_at_once.ensures.kept there.clean) c.put_each_day.ensures.kept

pub returns-in_err-put_at_once-clause-same_reference : goal.returns-in_err-put_at_once-clause-same_reference
returns-in_err-put_at_once-clause-same_reference g c = c.put_at_once.ensures.same_reference

pub returns-in_err-put_at_once-clause-ok : goal.returns-in_err-put_at_once-clause-ok
returns-in_err-put_at_once-clause-ok g c = IfOk-from_err c.from_residual.result _ c.from_residual.ensures.0

pub returns-in_err-put_at_once-clause-kept : goal.returns-in_err-put_at_once-clause-kept
returns-in_err-put_at_once-clause-kept g c there = c.put_at_once.ensures.kept there.clean

pub returns-in_err-put_at_once-clause-survives : goal.returns-in_err-put_at_once-clause-survives
returns-in_err-put_at_once-clause-survives g c = c.put_at_once.ensures.survives

pub returns-then-branch-clause-same_reference : goal.returns-then-branch-clause-same_reference
returns-then-branch-clause-same_reference g c = c.put_at_once.ensures.same_reference

pub returns-then-branch-clause-ok : goal.returns-then-branch-clause-ok
returns-then-branch-clause-ok g c = c.in_ok-put_at_once.ensures.put c.if-branch.true

pub returns-then-branch-clause-kept : goal.returns-then-branch-clause-kept
returns-then-branch-clause-kept g c there = c.put_at_once.ensures.kept there.clean

pub returns-then-branch-clause-survives : goal.returns-then-branch-clause-survives
returns-then-branch-clause-survives g c = c.put_at_once.ensures.survives

pub returns-clause-same_reference : goal.returns-clause-same_reference
returns-clause-same_reference g c = c.put_each_day.ensures.same_reference ∙ c.put_at_once.ensures.same_reference

pub returns-clause-survives : goal.returns-clause-survives
returns-clause-survives g c =
    survives_more (state g.S.Store c.args.tx.now.conn.now) (state g.S.Store c.put_at_once.new.tx.conn.now) (state g.S.Store c.put_each_day.new.tx.conn.now)
    c.put_at_once.ensures.survives c.put_each_day.ensures.survives
