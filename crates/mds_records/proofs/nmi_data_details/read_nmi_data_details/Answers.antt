use Rattle.std.proofs.Common.{ℕ, List, [], ◌∷◌, ◌∙◌, ap, sym, lit<, false, Option, is_some}
use Rattle.std.proofs.lemmas.Result.{err_from_is_err_and}
use Rattle.mds_quantity.specs.Unit.{unit_of}
use Rattle.mds_quantity.specs.declared.unit.Unit.{Unit as MeasureUnit}
use Rattle.mds_calendar.specs.Calendar.{day_of}
use Rattle.mds_calendar.specs.Length.{length_of}
use Rattle.mds_names.specs.Names.{nmi_of, suffix_of}
use Rattle.mds_terms.specs.Parts.{optional}
use Rattle.mds_records.proofs.Outcomes.{details_is}
use Rattle.mds_records.proofs.Rules.{each_passed}
use Rattle.mds_records.proofs.Terms.{text_read}
use Rattle.mds_records.proofs.nmi_data_details.read_nmi_data_details.Goals as goal

pub returns-in_err-first_fault : goal.returns-in_err-first_fault
returns-in_err-first_fault c = λ file n.
    let is = details_is file n c.args.text.now c.split_details-fields.result _ _ _ _ _ _ _ _ _ c.split_details-fields.ensures
    (c.is_some.ensures ∙ ap (λ (o : Option (List ℕ)). is_some o) c.read-nmi.ensures)
    (c.is_some-2.ensures ∙ c.read-configuration.ensures.accepted) (c.is_some-3.ensures ∙ c.read-register.ensures.accepted)
    (c.is_some-4.ensures ∙ ap (λ (o : Option (List ℕ)). is_some o) c.read-suffix.ensures)
    (c.is_some-5.ensures ∙ c.read-datastream.ensures.accepted) (c.is_some-6.ensures ∙ c.read-meter.ensures.accepted)
    (c.is_some-7.ensures ∙ ap (λ (o : Option MeasureUnit). is_some o) c.read-unit.ensures.value)
    (c.is_some-8.ensures ∙ ap (λ (o : Option ℕ). is_some o) c.read-length.ensures)
    (c.is_some-9.ensures ∙ ap (λ (o : Option (Option ℕ)). is_some o) c.optional_day-next.ensures) in
    let p = err_from_is_err_and c.from_residual.result c.from_residual.ensures.1 in
    rw (p.1, p.2) (is ∙ c.in_err-first_fault.ensures)

pub returns : goal.returns
returns c = λ file n.
    let f = c.split_details-fields.ensures in
    let is = details_is file n c.args.text.now c.split_details-fields.result _ _ _ _ _ _ _ _ _ f
    (c.is_some.ensures ∙ ap (λ (o : Option (List ℕ)). is_some o) c.read-nmi.ensures)
    (c.is_some-2.ensures ∙ c.read-configuration.ensures.accepted) (c.is_some-3.ensures ∙ c.read-register.ensures.accepted)
    (c.is_some-4.ensures ∙ ap (λ (o : Option (List ℕ)). is_some o) c.read-suffix.ensures)
    (c.is_some-5.ensures ∙ c.read-datastream.ensures.accepted) (c.is_some-6.ensures ∙ c.read-meter.ensures.accepted)
    (c.is_some-7.ensures ∙ ap (λ (o : Option MeasureUnit). is_some o) c.read-unit.ensures.value)
    (c.is_some-8.ensures ∙ ap (λ (o : Option ℕ). is_some o) c.read-length.ensures)
    (c.is_some-9.ensures ∙ ap (λ (o : Option (Option ℕ)). is_some o) c.optional_day-next.ensures) in (
      is ∙ c.in_ok-first_fault.ensures,
      record {
        nmi = sym (c.read-nmi.ensures ∙ ap nmi_of f.nmi) ∙ c.unwrap-nmi.ensures;
        configuration = text_read _ _ _ c.unwrap-3.ensures c.read-configuration.ensures.value ∙ f.configuration;
        register = text_read _ _ _ c.unwrap-4.ensures c.read-register.ensures.value ∙ f.register;
        suffix = sym (c.read-suffix.ensures ∙ ap suffix_of f.suffix) ∙ c.unwrap-suffix.ensures;
        datastream = text_read _ _ _ c.unwrap-5.ensures c.read-datastream.ensures.value ∙ f.datastream;
        meter = text_read _ _ _ c.unwrap-6.ensures c.read-meter.ensures.value ∙ f.meter;
        unit = sym (c.read-unit.ensures.value ∙ ap unit_of f.unit) ∙ c.unwrap.ensures;
        length = sym (c.read-length.ensures ∙ ap length_of f.length) ∙ c.unwrap-2.ensures;
        next = sym (c.optional_day-next.ensures ∙ ap (optional day_of) f.next) ∙ c.unwrap-7.ensures;
      },
    )

pub unwrap-nmi-requires : goal.unwrap-nmi-requires
unwrap-nmi-requires c = sym c.is_some.ensures ∙ each_passed false c.split_details-fields.result.is_whole
    (c.is_some.result ∷ c.is_some-2.result ∷ c.is_some-3.result ∷ c.is_some-4.result ∷ c.is_some-5.result ∷ c.is_some-6.result ∷ c.is_some-7.result ∷ c.is_some-8.result ∷ c.is_some-9.result ∷ [])
    c.in_ok-first_fault.ensures 0 (lit< tt)

pub unwrap-suffix-requires : goal.unwrap-suffix-requires
unwrap-suffix-requires c = sym c.is_some-4.ensures ∙ each_passed false c.split_details-fields.result.is_whole
    (c.is_some.result ∷ c.is_some-2.result ∷ c.is_some-3.result ∷ c.is_some-4.result ∷ c.is_some-5.result ∷ c.is_some-6.result ∷ c.is_some-7.result ∷ c.is_some-8.result ∷ c.is_some-9.result ∷ [])
    c.in_ok-first_fault.ensures 3 (lit< tt)

pub unwrap-requires : goal.unwrap-requires
unwrap-requires c = sym c.is_some-7.ensures ∙ each_passed false c.split_details-fields.result.is_whole
    (c.is_some.result ∷ c.is_some-2.result ∷ c.is_some-3.result ∷ c.is_some-4.result ∷ c.is_some-5.result ∷ c.is_some-6.result ∷ c.is_some-7.result ∷ c.is_some-8.result ∷ c.is_some-9.result ∷ [])
    c.in_ok-first_fault.ensures 6 (lit< tt)

pub unwrap-requires-2 : goal.unwrap-requires-2
unwrap-requires-2 c = sym c.is_some-8.ensures ∙ each_passed false c.split_details-fields.result.is_whole
    (c.is_some.result ∷ c.is_some-2.result ∷ c.is_some-3.result ∷ c.is_some-4.result ∷ c.is_some-5.result ∷ c.is_some-6.result ∷ c.is_some-7.result ∷ c.is_some-8.result ∷ c.is_some-9.result ∷ [])
    c.in_ok-first_fault.ensures 7 (lit< tt)

pub unwrap-requires-3 : goal.unwrap-requires-3
unwrap-requires-3 c = sym c.is_some-2.ensures ∙ each_passed false c.split_details-fields.result.is_whole
    (c.is_some.result ∷ c.is_some-2.result ∷ c.is_some-3.result ∷ c.is_some-4.result ∷ c.is_some-5.result ∷ c.is_some-6.result ∷ c.is_some-7.result ∷ c.is_some-8.result ∷ c.is_some-9.result ∷ [])
    c.in_ok-first_fault.ensures 1 (lit< tt)

pub unwrap-requires-4 : goal.unwrap-requires-4
unwrap-requires-4 c = sym c.is_some-3.ensures ∙ each_passed false c.split_details-fields.result.is_whole
    (c.is_some.result ∷ c.is_some-2.result ∷ c.is_some-3.result ∷ c.is_some-4.result ∷ c.is_some-5.result ∷ c.is_some-6.result ∷ c.is_some-7.result ∷ c.is_some-8.result ∷ c.is_some-9.result ∷ [])
    c.in_ok-first_fault.ensures 2 (lit< tt)

pub unwrap-requires-5 : goal.unwrap-requires-5
unwrap-requires-5 c = sym c.is_some-5.ensures ∙ each_passed false c.split_details-fields.result.is_whole
    (c.is_some.result ∷ c.is_some-2.result ∷ c.is_some-3.result ∷ c.is_some-4.result ∷ c.is_some-5.result ∷ c.is_some-6.result ∷ c.is_some-7.result ∷ c.is_some-8.result ∷ c.is_some-9.result ∷ [])
    c.in_ok-first_fault.ensures 4 (lit< tt)

pub unwrap-requires-6 : goal.unwrap-requires-6
unwrap-requires-6 c = sym c.is_some-6.ensures ∙ each_passed false c.split_details-fields.result.is_whole
    (c.is_some.result ∷ c.is_some-2.result ∷ c.is_some-3.result ∷ c.is_some-4.result ∷ c.is_some-5.result ∷ c.is_some-6.result ∷ c.is_some-7.result ∷ c.is_some-8.result ∷ c.is_some-9.result ∷ [])
    c.in_ok-first_fault.ensures 5 (lit< tt)

pub unwrap-requires-7 : goal.unwrap-requires-7
unwrap-requires-7 c = sym c.is_some-9.ensures ∙ each_passed false c.split_details-fields.result.is_whole
    (c.is_some.result ∷ c.is_some-2.result ∷ c.is_some-3.result ∷ c.is_some-4.result ∷ c.is_some-5.result ∷ c.is_some-6.result ∷ c.is_some-7.result ∷ c.is_some-8.result ∷ c.is_some-9.result ∷ [])
    c.in_ok-first_fault.ensures 8 (lit< tt)
