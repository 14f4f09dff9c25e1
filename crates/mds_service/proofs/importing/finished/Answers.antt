use Rattle.std.proofs.lemmas.Result.{err_from_is_err_and}
use Rattle.mds_records.specs.declared.file.FileKind.TheVariants.{Nem12}
use Rattle.mds_service.proofs.Deliveries.{as_import}
use Rattle.mds_service.proofs.Halted.{unfinished}
use Rattle.mds_service.proofs.importing.finished.Goals as goal

pub returns-in_err-delivery : goal.returns-in_err-delivery
returns-in_err-delivery g c text read =
    let p = err_from_is_err_and c.from_residual.result c.from_residual.ensures.1 in
    rw (p.1, p.2) (unfinished Nem12 text c.in_err-delivery.field-0.0 (c.in_err-delivery.ensures.ended text read))

pub returns : goal.returns
returns g c text read =
    let told = c.in_ok-delivery.ensures.ended text read in as_import Nem12 text told.0 _ told.1 c.taken_in.ensures.step
