use Rattle.std.proofs.lemmas.Result.{IfOk-weaker}
use Rattle.mds_service.specs.Asking.AsksOnly.{Nothing}
use Rattle.mds_service.proofs.SharedDays.{new_as}
use Rattle.mds_service.proofs.details.new_details.Goals as goal

pub returns-clause-just : goal.returns-clause-just
returns-clause-just g c = λ honest w shows.
    IfOk-weaker c.ask_all.result _ _
    (λ new each detail. new_as w c.in_ok-together.together c.args.details.items new.items detail (c.in_ok-together.ensures detail) (each detail))
    (c.ask_all.ensures.just honest w shows)

pub returns-in_err-together-clause-asked : goal.returns-in_err-together-clause-asked
returns-in_err-together-clause-asked g c = Nothing
