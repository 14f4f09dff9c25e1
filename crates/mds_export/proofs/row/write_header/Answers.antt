use Rattle.std.proofs.Common.{◌∙◌, ◌<◌, ◌+◌, length, vec_capacity, vec_len}
use Rattle.std.proofs.lemmas.Result.{on_err_weaker, on_ok_weaker}
use Rattle.mds_quantity.specs.Append.{Appends}
use Rattle.mds_export.proofs.Fields.{header_row}
use Rattle.mds_export.proofs.row.write_header.Goals as goal

pub returns-clause-done : goal.returns-clause-done
returns-clause-done c =
    on_ok_weaker c.write_line.result
    (header_row (Appends c.args.out.now.items c.write_line.new.out.items) c.args.row.now.moment _ _ _ _ _ c.moment_digits-count.ensures.text
    (c.as_bytes.ensures.value ∙ c.text.ensures.value) (c.as_bytes-2.ensures.value ∙ c.text-2.ensures.value))
    c.write_line.ensures.done

pub returns-clause-full : goal.returns-clause-full
returns-clause-full c =
    on_err_weaker c.write_line.result
    (header_row (λ text. vec_capacity c.args.out.now < vec_len c.args.out.now + length text) c.args.row.now.moment _ _ _ _ _ c.moment_digits-count.ensures.text
    (c.as_bytes.ensures.value ∙ c.text.ensures.value) (c.as_bytes-2.ensures.value ∙ c.text-2.ensures.value))
    c.write_line.ensures.full
