use Rattle.std.proofs.Common.{inl}
use Rattle.std.proofs.lemmas.Result.{err_from_is_err_and}
use Rattle.sqlite.specs.Held.{state}
use Rattle.mds_tables.proofs.CauseLemmas.{store_fails}
use Rattle.mds_tables.proofs.MadeLemmas.{leaves_made}
use Rattle.mds_pack_rows.specs.Current.{current_layout}
use Rattle.mds_commit.proofs.making.make_tables.Goals as goal

pub returns-clause-survives : goal.returns-clause-survives
returns-clause-survives g c =
    leaves_made current_layout (state g.S.Store c.args.conn.now) (state g.S.Store c.ready.new.conn) (state g.S.Store c.make_all.new.conn)
    c.in_ok-ready.ensures.ok c.ready.ensures.survives c.make_all.ensures.survives

pub returns-in_err-ready-clause-cause : goal.returns-in_err-ready-clause-cause
returns-in_err-ready-clause-cause g c clean none =
    let p = err_from_is_err_and c.from_residual.result c.from_residual.ensures.1 in
    rw (p.1, p.2)
    (inl (store_fails (state g.S.Store c.args.conn.now) (state g.S.Store c.ready.new.conn) ⊥ _ (c.in_err-ready.ensures.cause clean)))
