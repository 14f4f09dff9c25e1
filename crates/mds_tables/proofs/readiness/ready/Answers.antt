use Rattle.std.proofs.Common.{ap, not, rules, []}
use Rattle.std.proofs.lemmas.Result.{err_from_is_err_and}
use Rattle.sqlite.specs.Held.{state}
use Rattle.sqlite.specs.State.{KeepsCommit}
use Rattle.sqlite.proofs.InsideLemmas.{unchanged_keeps}
use Rattle.mds_tables.proofs.CallLemmas.{not_run, select_1_runs}
use Rattle.mds_tables.proofs.readiness.ready.Goals as goal

pub returns-in_err-prepare-clause-err : goal.returns-in_err-prepare-clause-err
returns-in_err-prepare-clause-err g c clean =
    let old = state g.S.Store c.args.conn.now in
    let new = state g.S.Store c.prepare.new.self in
    let it : KeepsCommit old new = unchanged_keeps old new (not_run old new _ [] _ (c.in_err-prepare.ensures.err clean [])) in
    search rules

pub returns-in_err-prepare-clause-cause : goal.returns-in_err-prepare-clause-cause
returns-in_err-prepare-clause-cause g c clean =
    let p = err_from_is_err_and c.from_residual.result c.from_residual.ensures.1 in
    rw (p.1, p.2)
    (select_1_runs (state g.S.Store c.args.conn.now) (state g.S.Store c.prepare.new.self) _
    (c.in_err-prepare.ensures.err clean []))

pub returns-in_err-prepare-clause-ok : goal.returns-in_err-prepare-clause-ok
returns-in_err-prepare-clause-ok g c clean =
    let p = err_from_is_err_and c.from_residual.result c.from_residual.ensures.1 in rw p.1 tt

pub returns-in_err-prepare-clause-mode : goal.returns-in_err-prepare-clause-mode
returns-in_err-prepare-clause-mode g c = c.prepare.ensures.mode c.requires

pub returns-in_err-prepare-clause-survives : goal.returns-in_err-prepare-clause-survives
returns-in_err-prepare-clause-survives g c = c.prepare.ensures.survives

pub returns-clause-ok : goal.returns-clause-ok
returns-clause-ok g c clean =
    let same = (c.in_ok-prepare.ensures.ok clean).1 in
    let settled = ap not c.requires in
    record {
      same = same;
      settled = c.is_autocommit-is_settled.ensures.settled (rw (c.is_autocommit-is_settled.ensures.value) settled) same.0.was_open;
      sound = (c.schema-schema.ensures.live same.0.was_open).0;
    }

pub returns-clause-err : goal.returns-clause-err
returns-clause-err g c clean = tt

pub returns-clause-cause : goal.returns-clause-cause
returns-clause-cause g c clean = tt

pub returns-clause-mode : goal.returns-clause-mode
returns-clause-mode g c = c.prepare.ensures.mode c.requires

pub returns-clause-survives : goal.returns-clause-survives
returns-clause-survives g c = c.prepare.ensures.survives
