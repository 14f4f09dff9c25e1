use Rattle.sqlite.specs.Held.{state}
use Rattle.mds_tables.proofs.FrameLemmas.{frames_none, frames_so, frames_stop}
use Rattle.mds_migrate.proofs.DatingLemmas.{knows_found, knows_still}
use Rattle.mds_migrate.proofs.dating.know.Goals as goal

pub returns-then-is_of-clause-frames : goal.returns-then-is_of-clause-frames
returns-then-is_of-clause-frames g c =
    let s = state g.S.Store c.args.tx.now.conn.now in
    frames_none s (λ _ _. knows_still s c.args.known.now c.args.stream (c.is_of.ensures c.if-is_of.true))

pub returns-in_err-latest-clause-frames : goal.returns-in_err-latest-clause-frames
returns-in_err-latest-clause-frames g c = frames_stop c.from_residual.result c.from_residual.ensures.0 c.greatest_of.ensures.frames

pub returns-clause-frames : goal.returns-clause-frames
returns-clause-frames g c =
    frames_so (λ _ _ _ found. knows_found (state g.S.Store c.args.tx.now.conn.now) (state g.S.Store c.greatest_of.new.tx.conn.now) c.args.known.now
    c.in_ok-latest.latest c.args.stream c.in_ok-latest.ensures.of found) c.in_ok-latest.ensures.frames
