use Rattle.std.proofs.Common.{ℕ, ◌∙◌, ap, sym, Option, is_some}
use Rattle.std.proofs.lemmas.Result.{err_from_is_err_and}
use Rattle.mds_terms.specs.Event.{letter_of}
use Rattle.mds_terms.specs.Parts.{optional}
use Rattle.mds_records.proofs.Outcomes.{accumulation_b2b_is}
use Rattle.mds_records.proofs.Terms.{text_read}
use Rattle.mds_records.proofs.accumulation_b2b_details.read_accumulation_b2b_details.Goals as goal

pub returns-in_err-first_fault : goal.returns-in_err-first_fault
returns-in_err-first_fault c = λ file n.
    let is = accumulation_b2b_is file n c.args.text.now c.split_accumulation_b2b_details-fields.result _ _ _ _ c.split_accumulation_b2b_details-fields.ensures
    (c.is_some.ensures ∙ ap (λ (o : Option (Option ℕ)). is_some o) c.optional_trans-previous_trans.ensures)
    (c.is_some-2.ensures ∙ c.read-previous_ticket.ensures.accepted)
    (c.is_some-3.ensures ∙ ap (λ (o : Option (Option ℕ)). is_some o) c.optional_trans-current_trans.ensures)
    (c.is_some-4.ensures ∙ c.read-current_ticket.ensures.accepted) in
    let p = err_from_is_err_and c.from_residual.result c.from_residual.ensures.1 in
    rw (p.1, p.2) (is ∙ c.in_err-first_fault.ensures)

pub returns : goal.returns
returns c = λ file n.
    let f = c.split_accumulation_b2b_details-fields.ensures in
    let is = accumulation_b2b_is file n c.args.text.now c.split_accumulation_b2b_details-fields.result _ _ _ _ f
    (c.is_some.ensures ∙ ap (λ (o : Option (Option ℕ)). is_some o) c.optional_trans-previous_trans.ensures)
    (c.is_some-2.ensures ∙ c.read-previous_ticket.ensures.accepted)
    (c.is_some-3.ensures ∙ ap (λ (o : Option (Option ℕ)). is_some o) c.optional_trans-current_trans.ensures)
    (c.is_some-4.ensures ∙ c.read-current_ticket.ensures.accepted) in (
      is ∙ c.in_ok-first_fault.ensures,
      record {
        previous_trans = sym (c.optional_trans-previous_trans.ensures ∙ ap (optional letter_of) f.previous_trans) ∙ c.unwrap.ensures;
        previous_ticket = text_read _ _ _ c.unwrap-2.ensures c.read-previous_ticket.ensures.value ∙ f.previous_ticket;
        current_trans = sym (c.optional_trans-current_trans.ensures ∙ ap (optional letter_of) f.current_trans) ∙ c.unwrap-3.ensures;
        current_ticket = text_read _ _ _ c.unwrap-4.ensures c.read-current_ticket.ensures.value ∙ f.current_ticket;
      },
    )
