use Rattle.std.proofs.Common.{ℕ, Bool, List, [], ◌∷◌, Option, option_map, is_some, ap, refl, sym, lit<, ◌∙◌}
use Rattle.std.proofs.lemmas.Result.{err_from_is_err_and}
use Rattle.mds_records.specs.RecordSteps.{first_false}
use Rattle.mds_records.specs.declared.direction.Direction.{Direction}
use Rattle.mds_records.specs.declared.fault.FieldFault.TheVariants.{Bad}
use Rattle.mds_records.proofs.Rules.{none_fails, same_parts}
use Rattle.mds_records.proofs.Terms.{text_read}
use Rattle.mds_records.proofs.accumulation_data.read_meter.Goals as goal

pub unwrap-nmi-requires : goal.unwrap-nmi-requires
unwrap-nmi-requires c = sym c.is_some.ensures ∙ none_fails 2
    (c.is_some.result ∷ c.is_some-2.result ∷ c.is_some-3.result ∷ c.is_some-4.result ∷ c.is_some-5.result ∷ c.is_some-6.result ∷ c.is_some-7.result ∷ [])
    c.in_ok-first_bad.ensures 0 (lit< tt)

pub unwrap-suffix-requires : goal.unwrap-suffix-requires
unwrap-suffix-requires c = sym c.is_some-4.ensures ∙ none_fails 2
    (c.is_some.result ∷ c.is_some-2.result ∷ c.is_some-3.result ∷ c.is_some-4.result ∷ c.is_some-5.result ∷ c.is_some-6.result ∷ c.is_some-7.result ∷ [])
    c.in_ok-first_bad.ensures 3 (lit< tt)

pub unwrap-requires : goal.unwrap-requires
unwrap-requires c = sym c.is_some-2.ensures ∙ none_fails 2
    (c.is_some.result ∷ c.is_some-2.result ∷ c.is_some-3.result ∷ c.is_some-4.result ∷ c.is_some-5.result ∷ c.is_some-6.result ∷ c.is_some-7.result ∷ [])
    c.in_ok-first_bad.ensures 1 (lit< tt)

pub unwrap-requires-2 : goal.unwrap-requires-2
unwrap-requires-2 c = sym c.is_some-3.ensures ∙ none_fails 2
    (c.is_some.result ∷ c.is_some-2.result ∷ c.is_some-3.result ∷ c.is_some-4.result ∷ c.is_some-5.result ∷ c.is_some-6.result ∷ c.is_some-7.result ∷ [])
    c.in_ok-first_bad.ensures 2 (lit< tt)

pub unwrap-requires-3 : goal.unwrap-requires-3
unwrap-requires-3 c = sym c.is_some-5.ensures ∙ none_fails 2
    (c.is_some.result ∷ c.is_some-2.result ∷ c.is_some-3.result ∷ c.is_some-4.result ∷ c.is_some-5.result ∷ c.is_some-6.result ∷ c.is_some-7.result ∷ [])
    c.in_ok-first_bad.ensures 4 (lit< tt)

pub unwrap-requires-4 : goal.unwrap-requires-4
unwrap-requires-4 c = sym c.is_some-6.ensures ∙ none_fails 2
    (c.is_some.result ∷ c.is_some-2.result ∷ c.is_some-3.result ∷ c.is_some-4.result ∷ c.is_some-5.result ∷ c.is_some-6.result ∷ c.is_some-7.result ∷ [])
    c.in_ok-first_bad.ensures 5 (lit< tt)

pub unwrap-requires-5 : goal.unwrap-requires-5
unwrap-requires-5 c = sym c.is_some-7.ensures ∙ none_fails 2
    (c.is_some.result ∷ c.is_some-2.result ∷ c.is_some-3.result ∷ c.is_some-4.result ∷ c.is_some-5.result ∷ c.is_some-6.result ∷ c.is_some-7.result ∷ [])
    c.in_ok-first_bad.ensures 6 (lit< tt)

pub returns-in_err-first_bad : goal.returns-in_err-first_bad
returns-in_err-first_bad c =
    let same = same_parts (c.is_some.ensures ∙ ap (λ (o : Option (List ℕ)). is_some o) c.read-nmi.ensures)
    (same_parts (c.is_some-2.ensures ∙ c.read-configuration.ensures.accepted)
    (same_parts (c.is_some-3.ensures ∙ c.read-register.ensures.accepted)
    (same_parts (c.is_some-4.ensures ∙ ap (λ (o : Option (List ℕ)). is_some o) c.read-suffix.ensures)
    (same_parts (c.is_some-5.ensures ∙ c.read-datastream.ensures.accepted)
    (same_parts (c.is_some-6.ensures ∙ c.read-meter.ensures.accepted)
    (same_parts {xs = []} {ys = []} (c.is_some-7.ensures ∙ ap (λ (o : Option Direction). is_some o) c.read-direction.ensures) refl)))))) in
    let p = err_from_is_err_and c.from_residual.result c.from_residual.ensures.1 in
    rw (p.1, p.2) (ap (λ (tests : List Bool). option_map Bad (first_false 2 tests)) (sym same) ∙ c.in_err-first_bad.ensures)

pub returns : goal.returns
returns c =
    let same = same_parts (c.is_some.ensures ∙ ap (λ (o : Option (List ℕ)). is_some o) c.read-nmi.ensures)
    (same_parts (c.is_some-2.ensures ∙ c.read-configuration.ensures.accepted)
    (same_parts (c.is_some-3.ensures ∙ c.read-register.ensures.accepted)
    (same_parts (c.is_some-4.ensures ∙ ap (λ (o : Option (List ℕ)). is_some o) c.read-suffix.ensures)
    (same_parts (c.is_some-5.ensures ∙ c.read-datastream.ensures.accepted)
    (same_parts (c.is_some-6.ensures ∙ c.read-meter.ensures.accepted)
    (same_parts {xs = []} {ys = []} (c.is_some-7.ensures ∙ ap (λ (o : Option Direction). is_some o) c.read-direction.ensures) refl)))))) in (
      ap (first_false 2) (sym same) ∙ c.in_ok-first_bad.ensures,
      record {
        nmi = sym c.read-nmi.ensures ∙ c.unwrap-nmi.ensures;
        configuration = text_read _ _ _ c.unwrap.ensures c.read-configuration.ensures.value;
        register = text_read _ _ _ c.unwrap-2.ensures c.read-register.ensures.value;
        suffix = sym c.read-suffix.ensures ∙ c.unwrap-suffix.ensures;
        datastream = text_read _ _ _ c.unwrap-3.ensures c.read-datastream.ensures.value;
        meter = text_read _ _ _ c.unwrap-4.ensures c.read-meter.ensures.value;
        direction = sym c.read-direction.ensures ∙ c.unwrap-5.ensures;
      },
    )
