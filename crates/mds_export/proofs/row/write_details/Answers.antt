use Rattle.std.proofs.Common.{◌∙◌, ◌<◌, ◌+◌, ap, Some, length, vec_capacity, vec_len}
use Rattle.std.proofs.lemmas.Result.{on_err_weaker, on_ok_weaker}
use Rattle.mds_quantity.specs.Append.{Appends}
use Rattle.mds_export.proofs.Fields.{details_row}
use Rattle.mds_export.proofs.row.write_details.Goals as goal

pub returns-clause-done : goal.returns-clause-done
returns-clause-done c =
    let row = c.args.row.now in
    on_ok_weaker c.write_details_of.result
    (details_row (Appends c.args.out.now.items c.write_details_of.new.out.items) row.stream row.details.now row.unit row.length _ _ _ _ _ (c.day_digits-count.ensures.text ∙ ap (λ day. Some day) c.next.ensures)
    (c.as_bytes.ensures.value ∙ c.text.ensures.value) (c.as_bytes-2.ensures.value ∙ c.text-2.ensures.value)
    (c.as_bytes-3.ensures.value ∙ c.text-3.ensures.value) (c.as_bytes-4.ensures.value ∙ c.length_text.ensures))
    c.write_details_of.ensures.done

pub returns-clause-full : goal.returns-clause-full
returns-clause-full c =
    let row = c.args.row.now in
    on_err_weaker c.write_details_of.result
    (details_row (λ text. vec_capacity c.args.out.now < vec_len c.args.out.now + length text) row.stream row.details.now row.unit row.length _ _ _ _ _ (c.day_digits-count.ensures.text ∙ ap (λ day. Some day) c.next.ensures)
    (c.as_bytes.ensures.value ∙ c.text.ensures.value) (c.as_bytes-2.ensures.value ∙ c.text-2.ensures.value)
    (c.as_bytes-3.ensures.value ∙ c.text-3.ensures.value) (c.as_bytes-4.ensures.value ∙ c.length_text.ensures))
    c.write_details_of.ensures.full
