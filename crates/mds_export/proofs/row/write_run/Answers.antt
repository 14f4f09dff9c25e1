use Rattle.std.proofs.Common.{◌≡◌, ◌∷◌, [], ℕ, List, codes, decimal, take, refl, rules}
use Rattle.std.proofs.lemmas.Result.{on_err_weaker}
use Rattle.mds_export.specs.Rows.{line_of, mark_fields}
use Rattle.mds_export.proofs.row.write_run.Goals as goal

pub returns-clause-full : goal.returns-clause-full
returns-clause-full c =
    let row = c.args.row.now in
    let fields : List (List ℕ) =
    codes "400" ∷ c.as_bytes.result.now ∷ c.as_bytes-2.result.now ∷ take c.letters-count.result.1 c.letters-count.result.0
    ∷ c.code_digits.result.now ∷ c.as_bytes-3.result.now ∷ [] in
    let same : fields ≡ codes "400" ∷ decimal row.first ∷ decimal row.last ∷ mark_fields row.mark.now = search rules in
    on_err_weaker c.write_line.result (λ full. (line_of fields, (fields, same, refl), full)) c.write_line.ensures.full

pub returns-clause-part : goal.returns-clause-part
returns-clause-part c =
    let row = c.args.row.now in
    let fields : List (List ℕ) =
    codes "400" ∷ c.as_bytes.result.now ∷ c.as_bytes-2.result.now ∷ take c.letters-count.result.1 c.letters-count.result.0
    ∷ c.code_digits.result.now ∷ c.as_bytes-3.result.now ∷ [] in
    let same : fields ≡ codes "400" ∷ decimal row.first ∷ decimal row.last ∷ mark_fields row.mark.now = search rules in
    on_err_weaker c.write_line.result (λ part. (line_of fields, (fields, same, refl), part)) c.write_line.ensures.part
