use Rattle.sqlite.specs.Held.{state}
use Rattle.mds_tables.proofs.FrameLemmas.{frames_refused, frames_stop, frames_then}
use Rattle.mds_migrate.proofs.DatingLemmas.{dates_day}
use Rattle.mds_migrate.proofs.dating.date_day.Goals as goal

pub returns-in_err-head-clause-frames : goal.returns-in_err-head-clause-frames
returns-in_err-head-clause-frames g c =
    frames_refused (state g.S.Store c.args.tx.now.conn.now) c.from_residual.result c.from_residual.ensures.0

pub returns-in_err-know-clause-frames : goal.returns-in_err-know-clause-frames
returns-in_err-know-clause-frames g c =
    frames_stop c.from_residual-in_err-know.result c.from_residual-in_err-know.ensures.0 c.know.ensures.frames

pub returns-clause-frames : goal.returns-clause-frames
returns-clause-frames g c =
    frames_then (λ _ _ _ _ knows puts. dates_day (state g.S.Store c.args.tx.now.conn.now) (state g.S.Store c.know.new.tx.conn.now)
    (state g.S.Store c.put_known.new.tx.conn.now) c.args.row.now c.in_ok-head.head (rw c.in_ok-head.ensures at c.head_in.ensures.some) c.args.known.now
    c.know.new.known knows puts)
    c.in_ok-know.ensures.frames c.put_known.ensures.frames
