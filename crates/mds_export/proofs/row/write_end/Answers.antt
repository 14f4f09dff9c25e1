use Rattle.std.proofs.Common.{◌∷◌, [], codes, refl}
use Rattle.std.proofs.lemmas.Result.{on_err_weaker}
use Rattle.mds_export.specs.Rows.{line_of}
use Rattle.mds_export.proofs.row.write_end.Goals as goal

pub returns-clause-full : goal.returns-clause-full
returns-clause-full c =
    on_err_weaker c.write_line.result (λ full. (line_of (codes "900" ∷ []), (codes "900" ∷ [], refl, refl), full)) c.write_line.ensures.full
