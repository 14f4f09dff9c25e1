use Rattle.std.proofs.Common.{◌+◌, ap, refl, subst, take, take_all, rules, arith, ◌∙◌}
use Rattle.std.proofs.lemmas.Result.{IfOk-from_err}
use Rattle.sqlite.specs.Held.{state}
use Rattle.mds_keeper.specs.Content.{details_of, details_on}
use Rattle.mds_tables.specs.Tables.{no_more, schema_with}
use Rattle.mds_tables.proofs.CallLemmas.{survives_more}
use Rattle.mds_pack_rows.specs.DailyPutting.{PutsDetails}
use Rattle.mds_pack_rows.specs.DailyTables.{daily_then}
use Rattle.mds_pack_rows.proofs.DetailLemmas.{kept_since, more_since, none_since, of_more, on_days}
use Rattle.mds_pack_rows.proofs.details.put_details.Goals as goal

pub loop-group-init : goal.loop-group-init
loop-group-init g c = record { same = refl; since = none_since (state g.S.Store c.args.tx.now.conn.now) }

pub loop-group-preserved : goal.loop-group-preserved
loop-group-preserved g c =
    let groups = c.args.details.now in
    let at = c.loop-group.group-index in
    let group = c.group-item.result in
    let mid = state g.S.Store c.loop-group.tx.conn.now in
    let new = state g.S.Store c.put_all.new.tx.conn.now in
    let put = c.put_all.ensures.puts no_more in
    record {
      same = search rules;
      since = more_since (state g.S.Store c.args.tx.now.conn.now) mid new
          put.survives put.kept (details_of (take at groups)) c.loop-group.invariant.since
          (details_on group) (details_of (take (at + 1) groups)) (of_more groups at group (omega arith) c.group-item.is)
          (λ rest. on_days (schema_with (daily_then rest)) mid new group group.days.items
          (rw (c.in_ok-or_unavailable.ensures, c.deref.ensures.value) at (c.put_all.ensures.puts rest)).ok);
    }

pub returns-clause-ok : goal.returns-clause-ok
returns-clause-ok g c =
    subst (PutsDetails (state g.S.Store c.args.tx.now.conn.now) (state g.S.Store c.loop-group.tx.conn.now))
    (ap details_of (take_all c.loop-group.group-index c.args.details.now (omega arith))) c.loop-group.invariant.since.puts

pub returns-in_err-or_unavailable-clause-same_reference : goal.returns-in_err-or_unavailable-clause-same_reference
returns-in_err-or_unavailable-clause-same_reference g c = c.put_all.ensures.same_reference ∙ c.loop-group.invariant.same

pub returns-in_err-or_unavailable-clause-ok : goal.returns-in_err-or_unavailable-clause-ok
returns-in_err-or_unavailable-clause-ok g c = IfOk-from_err c.from_residual.result _ c.from_residual.ensures.0

pub returns-in_err-or_unavailable-clause-kept : goal.returns-in_err-or_unavailable-clause-kept
returns-in_err-or_unavailable-clause-kept g c =
    let put = c.put_all.ensures.puts no_more in
    kept_since (state g.S.Store c.args.tx.now.conn.now) (state g.S.Store c.loop-group.tx.conn.now) (state g.S.Store c.put_all.new.tx.conn.now)
    put.survives put.kept _ c.loop-group.invariant.since

pub returns-in_err-or_unavailable-clause-survives : goal.returns-in_err-or_unavailable-clause-survives
returns-in_err-or_unavailable-clause-survives g c =
    survives_more (state g.S.Store c.args.tx.now.conn.now) (state g.S.Store c.loop-group.tx.conn.now) (state g.S.Store c.put_all.new.tx.conn.now)
    c.loop-group.invariant.since.survives (c.put_all.ensures.puts no_more).survives
