use Rattle.std.proofs.Common.{◌++◌, ◌∷◌, [], ◌∙◌, ap, append_assoc, arith, length}
use Rattle.std.specs.Int.{w64}
use Rattle.std.proofs.lemmas.Int.{to_z-of_z, fits_signed_from_abs}
use Rattle.std.proofs.lemmas.List.{length-append}
use Rattle.mds_quantity.specs.Quantity.{written}
use Rattle.mds_quantity.proofs.Front.{on_err_from}
use Rattle.mds_export.proofs.Begun.{begun_after, begun_kept}
use Rattle.mds_export.proofs.value.write_number.Goals as goal
