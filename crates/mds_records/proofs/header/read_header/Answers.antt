use Rattle.std.proofs.Common.{ℕ, ◌∙◌, ap, sym, Option, is_some}
use Rattle.std.proofs.lemmas.Result.{err_from_is_err_and}
use Rattle.mds_calendar.specs.Calendar.{date_time_of}
use Rattle.mds_records.proofs.Outcomes.{header_is}
use Rattle.mds_records.proofs.Terms.{text_read}
use Rattle.mds_records.proofs.header.read_header.Goals as goal

pub returns-in_err-first_fault : goal.returns-in_err-first_fault
returns-in_err-first_fault c = λ n.
    let is = header_is c.args.file n c.args.text.now c.split_header-fields.result _ _ _ _ _ c.split_header-fields.ensures
    c.is_other_name.ensures c.is_name.ensures
    (c.is_some.ensures ∙ ap (λ (o : Option ℕ). is_some o) c.read_date_time-moment.ensures)
    (c.is_some-2.ensures ∙ c.read-sender.ensures.accepted) (c.is_some-3.ensures ∙ c.read-receiver.ensures.accepted) in
    let p = err_from_is_err_and c.from_residual.result c.from_residual.ensures.1 in
    rw (p.1, p.2) (is ∙ c.in_err-first_fault.ensures)

pub returns : goal.returns
returns c = λ n.
    let f = c.split_header-fields.ensures in
    let is = header_is c.args.file n c.args.text.now c.split_header-fields.result _ _ _ _ _ f
    c.is_other_name.ensures c.is_name.ensures
    (c.is_some.ensures ∙ ap (λ (o : Option ℕ). is_some o) c.read_date_time-moment.ensures)
    (c.is_some-2.ensures ∙ c.read-sender.ensures.accepted) (c.is_some-3.ensures ∙ c.read-receiver.ensures.accepted) in (
      is ∙ c.in_ok-first_fault.ensures,
      record {
        moment = sym (c.read_date_time-moment.ensures ∙ ap date_time_of f.date_time) ∙ c.unwrap.ensures;
        sender = text_read _ _ _ c.unwrap-2.ensures c.read-sender.ensures.value ∙ f.sender;
        receiver = text_read _ _ _ c.unwrap-3.ensures c.read-receiver.ensures.value ∙ f.receiver;
      },
    )
