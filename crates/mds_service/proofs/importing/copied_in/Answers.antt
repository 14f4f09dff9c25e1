use Rattle.std.proofs.Common.{refl, subst}
use Rattle.std.proofs.lemmas.Result.{err_from_is_err_and}
use Rattle.mds_service.specs.Crashes.{GoesBy}
use Rattle.mds_service.specs.Halts.{answer_of}
use Rattle.mds_service.specs.Machine.{TakesIn}
use Rattle.mds_service.proofs.Steps.{unasked}
use Rattle.mds_service.proofs.importing.copied_in.Goals as goal

pub returns-in_err-copy : goal.returns-in_err-copy
returns-in_err-copy g c =
    let p = err_from_is_err_and c.from_residual.result c.from_residual.ensures.1 in
    rw (p.1, p.2) (unasked (λ w. refl))

pub returns : goal.returns
returns g c =
    subst (λ statements. GoesBy (g.K.Keeper.kept c.args.keeper.now) (g.K.Keeper.kept c.taken_in.new.keeper)
    (λ w. TakesIn w statements) (answer_of c.taken_in.result)) c.in_ok-copy.ensures.value c.taken_in.ensures.step
