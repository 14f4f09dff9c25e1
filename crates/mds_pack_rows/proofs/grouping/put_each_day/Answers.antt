use Rattle.std.proofs.Common.{map, refl, ap, subst, ◌∙◌, arith, take_all}
use Rattle.sqlite.specs.Held.{state}
use Rattle.mds_keeper.specs.Content.{version_fact, versions_of}
use Rattle.mds_tables.proofs.CallLemmas.{keeps_same, survives_more, survives_same}
use Rattle.mds_pack_rows.specs.Putting.{PutsFacts}
use Rattle.mds_pack_rows.proofs.PutLemmas.{kept_then, puts_day, puts_none}
use Rattle.mds_pack_rows.proofs.grouping.put_each_day.Goals as goal

pub loop-added-init : goal.loop-added-init
loop-added-init g c =
    let s = state g.S.Store c.args.tx.now.conn.now in
    record { same = refl; survives = survives_same s; kept = λ _. keeps_same s; puts = puts_none s }

pub loop-added-preserved : goal.loop-added-preserved
loop-added-preserved g c =
    let old = state g.S.Store c.args.tx.now.conn.now in
    let mid = state g.S.Store c.loop-added.tx.conn.now in
    let new = state g.S.Store c.put_day.new.tx.conn.now in
    let before = c.loop-added.invariant in
    let later = c.put_day.ensures.survives.clean in
    record {
      same = c.put_day.ensures.same_reference ∙ before.same;
      survives = survives_more old mid new before.survives c.put_day.ensures.survives;
      kept = kept_then old mid new later _ before.puts before.kept c.put_day.ensures.kept;
      puts = puts_day old mid new later c.args.days.now c.loop-added.added-index c.added-item.result (omega arith) c.added-item.is before.puts
          c.in_ok-put_day.ensures.ok;
    }

pub returns-clause-ok : goal.returns-clause-ok
returns-clause-ok g c =
    subst (PutsFacts (state g.S.Store c.args.tx.now.conn.now) (state g.S.Store c.loop-added.tx.conn.now))
    (ap (λ days. map version_fact (versions_of days)) (take_all c.loop-added.added-index c.args.days.now (omega arith))) c.loop-added.invariant.puts

pub returns-in_err-put_day-clause-kept : goal.returns-in_err-put_day-clause-kept
returns-in_err-put_day-clause-kept g c =
    let before = c.loop-added.invariant in
    kept_then (state g.S.Store c.args.tx.now.conn.now) (state g.S.Store c.loop-added.tx.conn.now)
    (state g.S.Store c.put_day.new.tx.conn.now) c.put_day.ensures.survives.clean _ before.puts before.kept c.put_day.ensures.kept

pub returns-in_err-put_day-clause-survives : goal.returns-in_err-put_day-clause-survives
returns-in_err-put_day-clause-survives g c =
    survives_more (state g.S.Store c.args.tx.now.conn.now) (state g.S.Store c.loop-added.tx.conn.now)
    (state g.S.Store c.put_day.new.tx.conn.now) c.loop-added.invariant.survives c.put_day.ensures.survives
