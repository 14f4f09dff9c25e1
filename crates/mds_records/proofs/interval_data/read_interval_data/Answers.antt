use Rattle.std.proofs.Common.{ℕ, codes, Option, option_map, is_some, refl, sym, ◌∙◌, ap}
use Rattle.mds_calendar.specs.Calendar.{day_of, moment_of}
use Rattle.mds_marks.specs.BorrowedMarks.{mark_value}
use Rattle.mds_marks.specs.Quality.{QualityValue}
use Rattle.mds_marks.specs.declared.mark.MarkRef.{MarkRef}
use Rattle.mds_terms.specs.Parts.{optional}
use Rattle.mds_records.specs.declared.fault.FieldFault.TheVariants.{Bad}
use Rattle.mds_records.specs.Layouts.{has_flag}
use Rattle.mds_records.specs.Records.{values_of}
use Rattle.mds_records.proofs.Days.{wrong_count, interval_is, all_passed}
use Rattle.mds_records.proofs.Tallies.{sum_fits}
use Rattle.mds_records.proofs.Terms.{flag_quality, mark_there, mark_fields}
use Rattle.mds_records.proofs.Together.{quality_read, sum_held, values_there}
use Rattle.mds_records.proofs.interval_data.read_interval_data.Goals as goal

pub returns-in_default-clause-read : goal.returns-in_default-clause-read
returns-in_default-clause-read c = λ file. wrong_count file c.args.count c.args.text.now c.in_default.ensures.none

pub returns-in-Some-least_of-clause-read : goal.returns-in-Some-least_of-clause-read
returns-in-Some-least_of-clause-read c = λ file.
    let least = c.least_of.ensures ∙ rw (c.first_bad-in_values.ensures, c.least_bad.ensures) refl in
    interval_is file c.args.count c.args.text.now _ _ _ _ _ _ _ _ _ _ c.in-Some.ensures.some
    (c.is_some-4.ensures ∙ ap (λ (o : Option ℕ). is_some o) c.read-date.ensures)
    (c.means_values.ensures ∙ flag_quality (codes "AEFS") _ c.mark_parts-parts.ensures.quality)
    (c.is_some.ensures ∙ ap (λ (o : Option QualityValue). is_some o) c.mark_parts-parts.ensures.quality)
    c.mark_parts-parts.ensures.code c.mark_parts-parts.ensures.text
    (c.is_some-2.ensures ∙ ap (λ (o : Option (Option ℕ)). is_some o) c.optional_moment-update.ensures)
    (c.is_some-3.ensures ∙ ap (λ (o : Option (Option ℕ)). is_some o) c.optional_moment.ensures) least
    ∙ ap (option_map Bad) c.in-Some-least_of.is

pub unreachable-requires : goal.unreachable-requires
unreachable-requires c =
    let passed = all_passed c.is_some-4.result c.is_some.result c.mark_parts-parts.result.has_code c.mark_parts-parts.result.has_text
    c.is_some-2.result c.is_some-3.result _ _ _ _ c.least_bad.ensures c.least_of.ensures c.in_default-least_of.is in
    mark_there _ _ _ c.read-mark.result c.read-mark.ensures.value
    (sym (c.is_some.ensures ∙ ap (λ (o : Option QualityValue). is_some o) c.mark_parts-parts.ensures.quality) ∙ passed.quality)
    (sym c.mark_parts-parts.ensures.code ∙ passed.code) (sym c.mark_parts-parts.ensures.text ∙ passed.text) c.in_default-mark.is

pub returns-clause-read : goal.returns-clause-read
returns-clause-read c = λ file.
    let least = c.least_of.ensures ∙ rw (c.first_bad-in_values.ensures, c.least_bad.ensures) refl in
    let f = c.in-Some.ensures.some in (
      interval_is file c.args.count c.args.text.now _ _ _ _ _ _ _ _ _ _ f
          (c.is_some-4.ensures ∙ ap (λ (o : Option ℕ). is_some o) c.read-date.ensures)
          (c.means_values.ensures ∙ flag_quality (codes "AEFS") _ c.mark_parts-parts.ensures.quality)
          (c.is_some.ensures ∙ ap (λ (o : Option QualityValue). is_some o) c.mark_parts-parts.ensures.quality)
          c.mark_parts-parts.ensures.code c.mark_parts-parts.ensures.text
          (c.is_some-2.ensures ∙ ap (λ (o : Option (Option ℕ)). is_some o) c.optional_moment-update.ensures)
          (c.is_some-3.ensures ∙ ap (λ (o : Option (Option ℕ)). is_some o) c.optional_moment.ensures) least
          ∙ ap (option_map Bad) c.in_default-least_of.is,
      record {
        date = sym (c.read-date.ensures ∙ ap day_of f.date) ∙ c.unwrap.ensures;
        sum = sum_fits c.in-Some.fields.sum c.args.count c.requires.1 f.small ∙ f.sum;
        mark = sym (mark_fields _ _ _ _ f.quality f.reason_code f.reason_text c.read-mark.ensures.value)
            ∙ ap (λ (o : Option MarkRef). option_map mark_value o) c.in-Some-mark.is;
        update = sym (c.optional_moment-update.ensures ∙ ap (optional moment_of) f.update) ∙ c.unwrap-2.ensures;
      },
    )

pub returns-clause-valued : goal.returns-clause-valued
returns-clause-valued c =
    let n = c.args.count in
    let f = c.in-Some.ensures.some in
    let texts = values_of n c.args.text.now in
    let parts = c.mark_parts-parts.ensures.quality in
    let quality = quality_read _ _ _ c.read-mark.result c.in-Some-mark.mark c.read-mark.ensures.value c.in-Some-mark.is in (
      sum_fits c.in-Some.fields.sum n c.requires.1 f.small ∙ f.sum ∙ sum_held texts _ c.in-Some.ensures.held,
      values_there _ c.in-Some-mark.mark.quality texts _ c.is_some-4.result c.means_values.result _ _ _ _ _ quality c.in-Some.ensures.held
          (c.means_values.ensures ∙ ap (has_flag (codes "AEFS")) (parts ∙ sym quality))
          f.bad f.empty c.first_bad-in_values.ensures c.least_of.ensures c.in_default-least_of.is,
    )

pub unwrap-requires : goal.unwrap-requires
unwrap-requires c =
    let passed = all_passed c.is_some-4.result c.is_some.result c.mark_parts-parts.result.has_code c.mark_parts-parts.result.has_text
    c.is_some-2.result c.is_some-3.result _ _ _ _ c.least_bad.ensures c.least_of.ensures c.in_default-least_of.is in
    sym c.is_some-4.ensures ∙ passed.date

pub unwrap-requires-2 : goal.unwrap-requires-2
unwrap-requires-2 c =
    let passed = all_passed c.is_some-4.result c.is_some.result c.mark_parts-parts.result.has_code c.mark_parts-parts.result.has_text
    c.is_some-2.result c.is_some-3.result _ _ _ _ c.least_bad.ensures c.least_of.ensures c.in_default-least_of.is in
    sym c.is_some-2.ensures ∙ passed.update

pub returns-clause-held : goal.returns-clause-held
returns-clause-held c = c.in-Some.ensures.held
