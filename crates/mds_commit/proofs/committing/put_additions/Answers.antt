use Rattle.sqlite.specs.Held.{state}
use Rattle.mds_tables.proofs.FrameLemmas.{frames_passed, frames_rest, frames_stop, frames_then}
use Rattle.mds_pack_rows.specs.Current.{current_more}
use Rattle.mds_commit.proofs.OwnLemmas.{all_then}
use Rattle.mds_commit.proofs.committing.put_additions.Goals as goal

pub returns-in_err-put_own-clause-frames : goal.returns-in_err-put_own-clause-frames
returns-in_err-put_own-clause-frames g c = frames_stop c.from_residual.result c.from_residual.ensures.0 c.put_own.ensures.frames

pub returns-clause-frames : goal.returns-clause-frames
returns-clause-frames g c =
    let rest = frames_rest c.put_rest.result (c.put_rest.ensures.puts current_more) in
    let last = frames_passed c.or_unavailable.result c.put_rest.result c.or_unavailable.ensures rest in
    frames_then (λ clean _ there _ own puts. all_then (state g.S.Store c.args.tx.now.conn.now) (state g.S.Store c.put_own.new.tx.conn.now)
    (state g.S.Store c.put_rest.new.tx.conn.now) c.args.additions.now c.args.periods.now c.args.jobs.now c.requires.periods c.requires.jobs
    clean there own puts)
    c.in_ok-put_own.ensures.frames last
