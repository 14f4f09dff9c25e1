use Rattle.std.proofs.Common.{◌≡◌, ◌++◌, map, refl, ap, subst, ◌∙◌, arith, take, take_all}
use Rattle.sqlite.specs.Held.{state}
use Rattle.mds_keeper.specs.Content.{version_fact, versions_of}
use Rattle.mds_tables.proofs.CallLemmas.{keeps_same, survives_more, survives_same}
use Rattle.mds_pack_rows.specs.Putting.{PutsFacts}
use Rattle.mds_tables.proofs.Batches.{chunks_are, flat, flat_more}
use Rattle.mds_pack_rows.proofs.BatchLemmas.{puts_both}
use Rattle.mds_pack_rows.proofs.PutLemmas.{if_ok, kept_then, puts_none}
use Rattle.mds_pack_rows.proofs.batches.put_days.Goals as goal

pub loop-batch-init : goal.loop-batch-init
loop-batch-init g c =
    let s = state g.S.Store c.args.tx.now.conn.now in
    record { same = refl; survives = survives_same s; kept = λ _. keeps_same s; puts = puts_none s }

pub loop-batch-preserved : goal.loop-batch-preserved
loop-batch-preserved g c =
    let old = state g.S.Store c.args.tx.now.conn.now in
    let mid = state g.S.Store c.loop-batch.tx.conn.now in
    let new = state g.S.Store c.put_batch.new.tx.conn.now in
    let before = c.loop-batch.invariant in
    let later = c.put_batch.ensures.survives.clean in
    let batches = c.as_chunks.result.0.now in
    let at = c.loop-batch.batch-index in
    record {
      same = c.put_batch.ensures.same_reference ∙ before.same;
      survives = survives_more old mid new before.survives c.put_batch.ensures.survives;
      kept = kept_then old mid new later _ before.puts before.kept c.put_batch.ensures.kept;
      puts = subst (λ days. PutsFacts old new (map version_fact (versions_of days)))
          (flat_more batches at c.batch-item.result (omega arith) c.batch-item.is)
          (puts_both old mid new later (flat (take at batches)) c.batch-item.result before.puts c.in_ok-put_batch.ensures.ok);
    }

pub returns-in_err-put_batch-clause-kept : goal.returns-in_err-put_batch-clause-kept
returns-in_err-put_batch-clause-kept g c =
    let before = c.loop-batch.invariant in
    kept_then (state g.S.Store c.args.tx.now.conn.now) (state g.S.Store c.loop-batch.tx.conn.now) (state g.S.Store c.put_batch.new.tx.conn.now)
    c.put_batch.ensures.survives.clean _ before.puts before.kept c.put_batch.ensures.kept

pub returns-in_err-put_batch-clause-survives : goal.returns-in_err-put_batch-clause-survives
returns-in_err-put_batch-clause-survives g c =
    survives_more (state g.S.Store c.args.tx.now.conn.now) (state g.S.Store c.loop-batch.tx.conn.now) (state g.S.Store c.put_batch.new.tx.conn.now)
    c.loop-batch.invariant.survives c.put_batch.ensures.survives

pub returns-clause-ok : goal.returns-clause-ok
returns-clause-ok g c =
    let old = state g.S.Store c.args.tx.now.conn.now in
    let new = state g.S.Store c.put_each_day.new.tx.conn.now in
    let batches = c.as_chunks.result.0.now in
    let at = c.loop-batch.batch-index in
    let rest = c.as_chunks.result.1.now in
    let whole : flat (take at batches) ++ rest ≡ c.args.days.now =
    ap (λ xss. flat xss ++ rest) (take_all at batches (omega arith))
    ∙ chunks_are _ c.args.days.now _ batches rest c.as_chunks.ensures.front c.as_chunks.ensures.back in
    if_ok c.put_each_day.result _ _ (λ puts.
    subst (λ days. PutsFacts old new (map version_fact (versions_of days))) whole
    (puts_both old (state g.S.Store c.loop-batch.tx.conn.now) new c.put_each_day.ensures.survives.clean (flat (take at batches)) rest
    c.loop-batch.invariant.puts puts))
    c.put_each_day.ensures.ok

pub returns-clause-kept : goal.returns-clause-kept
returns-clause-kept g c =
    let before = c.loop-batch.invariant in
    kept_then (state g.S.Store c.args.tx.now.conn.now) (state g.S.Store c.loop-batch.tx.conn.now) (state g.S.Store c.put_each_day.new.tx.conn.now)
    c.put_each_day.ensures.survives.clean _ before.puts before.kept c.put_each_day.ensures.kept

pub returns-clause-survives : goal.returns-clause-survives
returns-clause-survives g c =
    survives_more (state g.S.Store c.args.tx.now.conn.now) (state g.S.Store c.loop-batch.tx.conn.now) (state g.S.Store c.put_each_day.new.tx.conn.now)
    c.loop-batch.invariant.survives c.put_each_day.ensures.survives
