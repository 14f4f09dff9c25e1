use Rattle.std.proofs.Common.{refl, arith}
use Rattle.std.proofs.lemmas.Result.{err_from_is_err_and}
use Rattle.sqlite.specs.Held.{state}
use Rattle.sqlite.specs.State.{HasCleanDisk}
use Rattle.mds_migrate.proofs.Taking.{keeps_one, leaves, leaves_none, takes}
use Rattle.mds_migrate.proofs.step.take_step.Goals as goal

pub returns-clause-done : goal.returns-clause-done
returns-clause-done g c clean holds =
    let early : HasCleanDisk (state g.S.Store c.ready.new.conn) = omega (arith, c.write.ensures.survives.clean) in (
      refl,
      takes _ (state g.S.Store c.args.conn.now) (state g.S.Store c.ready.new.conn) c.in_ok-ready.ensures.ok c.ready.ensures.survives holds
          (state g.S.Store c.write.new.conn) early (c.in_ok-write.ensures.ok clean),
    )

pub returns-in_err-write-clause-err : goal.returns-in_err-write-clause-err
returns-in_err-write-clause-err g c =
    let p = err_from_is_err_and c.from_residual-in_err-write.result c.from_residual-in_err-write.ensures.1 in
    rw (p.1, p.2)
    (λ clean holds.
    let early : HasCleanDisk (state g.S.Store c.ready.new.conn) = omega (arith, c.write.ensures.survives.clean, clean) in (
      refl,
      keeps_one _ (state g.S.Store c.args.conn.now) (state g.S.Store c.ready.new.conn) c.in_ok-ready.ensures.ok c.ready.ensures.survives holds
          (state g.S.Store c.write.new.conn) early (c.in_err-write.ensures.err clean),
    ))

pub returns-in_err-ready-clause-err : goal.returns-in_err-ready-clause-err
returns-in_err-ready-clause-err g c =
    let p = err_from_is_err_and c.from_residual.result c.from_residual.ensures.1 in
    rw (p.1, p.2) (λ clean holds. (refl, c.in_err-ready.ensures.err clean))

pub returns-clause-survives : goal.returns-clause-survives
returns-clause-survives g c holds =
    leaves _ (state g.S.Store c.args.conn.now) (state g.S.Store c.ready.new.conn) c.in_ok-ready.ensures.ok c.ready.ensures.survives holds
    (state g.S.Store c.write.new.conn) c.write.ensures.survives

pub returns-in_err-write-clause-survives : goal.returns-in_err-write-clause-survives
returns-in_err-write-clause-survives g c holds =
    leaves _ (state g.S.Store c.args.conn.now) (state g.S.Store c.ready.new.conn) c.in_ok-ready.ensures.ok c.ready.ensures.survives holds
    (state g.S.Store c.write.new.conn) c.write.ensures.survives

pub returns-in_err-ready-clause-survives : goal.returns-in_err-ready-clause-survives
returns-in_err-ready-clause-survives g c holds =
    leaves_none (state g.S.Store c.args.conn.now) (state g.S.Store c.ready.new.conn) _ c.ready.ensures.survives
