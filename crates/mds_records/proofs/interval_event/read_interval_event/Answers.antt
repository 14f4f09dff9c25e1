use Rattle.std.proofs.Common.{ℕ, codes, [], ◌∷◌, false, ◌∙◌, ap, sym, lit<, Option, option_map, is_some}
use Rattle.std.proofs.lemmas.Result.{err_from_is_err_and}
use Rattle.mds_marks.specs.BorrowedMarks.{mark_value}
use Rattle.mds_marks.specs.Quality.{QualityValue}
use Rattle.mds_marks.specs.declared.mark.MarkRef.{MarkRef}
use Rattle.mds_records.specs.Layouts.{has_flag, interval_number_of}
use Rattle.mds_records.proofs.Outcomes.{run_is}
use Rattle.mds_records.proofs.Rules.{each_passed}
use Rattle.mds_records.proofs.Terms.{flag_quality, flag_there, mark_there, mark_fields}
use Rattle.mds_records.proofs.Together.{not_variable, quality_read}
use Rattle.mds_records.proofs.interval_event.read_interval_event.Goals as goal

pub returns-in_err-first_fault-clause-read : goal.returns-in_err-first_fault-clause-read
returns-in_err-first_fault-clause-read c = λ file n.
    let is = run_is file n c.args.text.now c.split_run-fields.result _ _ _ _ _ c.split_run-fields.ensures
    (c.is_some.ensures ∙ ap (λ (o : Option ℕ). is_some o) c.interval_number-first.ensures)
    (c.is_some-2.ensures ∙ ap (λ (o : Option ℕ). is_some o) c.interval_number-last.ensures)
    (c.is_single_quality.ensures ∙ flag_quality (codes "AEFNS") _ c.mark_parts-parts.ensures.quality) c.mark_parts-parts.ensures.code c.mark_parts-parts.ensures.text in
    let p = err_from_is_err_and c.from_residual.result c.from_residual.ensures.1 in
    rw (p.1, p.2) (is ∙ c.in_err-first_fault.ensures)

pub unreachable-requires : goal.unreachable-requires
unreachable-requires c =
    let passed = each_passed false c.split_run-fields.result.is_whole
    (c.is_some.result ∷ c.is_some-2.result ∷ c.is_single_quality.result ∷ c.mark_parts-parts.result.has_code ∷ c.mark_parts-parts.result.has_text ∷ [])
    c.in_ok-first_fault.ensures in
    let quality = flag_there (codes "AEFNS") _ (sym c.is_single_quality.ensures ∙ passed 2 (lit< tt)) in
    mark_there _ _ _ c.read-mark.result c.read-mark.ensures.value
    (sym (ap (λ (o : Option QualityValue). is_some o) c.mark_parts-parts.ensures.quality) ∙ quality)
    (sym c.mark_parts-parts.ensures.code ∙ passed 3 (lit< tt)) (sym c.mark_parts-parts.ensures.text ∙ passed 4 (lit< tt)) c.in_default.is

pub returns-clause-read : goal.returns-clause-read
returns-clause-read c = λ file n.
    let f = c.split_run-fields.ensures in
    let is = run_is file n c.args.text.now c.split_run-fields.result _ _ _ _ _ f
    (c.is_some.ensures ∙ ap (λ (o : Option ℕ). is_some o) c.interval_number-first.ensures)
    (c.is_some-2.ensures ∙ ap (λ (o : Option ℕ). is_some o) c.interval_number-last.ensures)
    (c.is_single_quality.ensures ∙ flag_quality (codes "AEFNS") _ c.mark_parts-parts.ensures.quality) c.mark_parts-parts.ensures.code c.mark_parts-parts.ensures.text in (
      is ∙ c.in_ok-first_fault.ensures,
      record {
        first = sym (c.interval_number-first.ensures ∙ ap interval_number_of f.first) ∙ c.unwrap.ensures;
        last = sym (c.interval_number-last.ensures ∙ ap interval_number_of f.last) ∙ c.unwrap-2.ensures;
        mark = sym (mark_fields _ _ _ _ f.quality f.reason_code f.reason_text c.read-mark.ensures.value)
            ∙ ap (λ (o : Option MarkRef). option_map mark_value o) c.in-Some.is;
      },
    )

pub returns-clause-marked : goal.returns-clause-marked
returns-clause-marked c =
    let passed = each_passed false c.split_run-fields.result.is_whole
    (c.is_some.result ∷ c.is_some-2.result ∷ c.is_single_quality.result ∷ c.mark_parts-parts.result.has_code ∷ c.mark_parts-parts.result.has_text ∷ [])
    c.in_ok-first_fault.ensures in
    let quality = quality_read _ _ _ c.read-mark.result c.in-Some.mark c.read-mark.ensures.value c.in-Some.is in
    not_variable c.in-Some.mark.quality
    (ap (has_flag (codes "AEFNS")) (quality ∙ sym c.mark_parts-parts.ensures.quality) ∙ sym c.is_single_quality.ensures ∙ passed 2 (lit< tt))
