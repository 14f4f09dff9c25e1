use Rattle.std.proofs.Common.{Err, ap}
use Rattle.std.proofs.lemmas.Result.{err_from_is_err_and}
use Rattle.mds_records.specs.declared.file.FileKind.TheVariants.{Nem12}
use Rattle.mds_service.proofs.Halted.{unread}
use Rattle.mds_service.proofs.Deliveries.{as_import}
use Rattle.mds_service.proofs.importing.import_nem12.Goals as goal

pub returns-in_err-delivery : goal.returns-in_err-delivery
returns-in_err-delivery g c =
    let p = err_from_is_err_and c.from_residual.result c.from_residual.ensures.1 in
    rw (p.1, p.2) (unread Nem12 c.args.text.now c.in_err-delivery.field-0.0 (λ found e. c.in_err-delivery.ensures.fault found (ap Err e)))

pub returns : goal.returns
returns g c = as_import Nem12 c.args.text.now c.in_ok-delivery.ensures.done.0 _ c.in_ok-delivery.ensures.done.1 c.taken_in.ensures.step
