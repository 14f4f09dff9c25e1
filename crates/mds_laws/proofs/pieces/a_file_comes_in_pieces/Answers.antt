use Rattle.std.specs.Prelude.{map}
use Rattle.std.proofs.Common.{Some, refl, sym, ap, ◌∙◌}
use Rattle.std.specs.List.{concat}
use Rattle.mds_records.specs.declared.file.FileKind.TheVariants.{Nem12}
use Rattle.mds_service.proofs.Deliveries.{as_import}
use Rattle.mds_service.proofs.Steps.{unasked}
use Rattle.mds_laws.proofs.pieces.a_file_comes_in_pieces.Goals as goal

pub returns-in-Ok : goal.returns-in-Ok
returns-in-Ok g c =
    as_import Nem12 (concat (map (λ piece. piece.now) c.args.pieces.now)) c.in-Ok.ensures.answer.0 _ c.in-Ok.ensures.answer.1 c.apply_delivery.ensures

pub returns-in-Err-File : goal.returns-in-Err-File
returns-in-Err-File g c =
    unasked (λ w. ((rw c.in-Err-File.field-0-is at c.in-Err-File.ensures.answer) ∙ ap Some (sym c.in-Err-File.fault-is), refl))

pub returns-in-Err-Memory : goal.returns-in-Err-Memory
returns-in-Err-Memory g c = unasked (λ w. refl)
