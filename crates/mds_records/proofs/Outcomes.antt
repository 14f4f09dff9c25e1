-- The first fault of each kind of record, from the fields that were taken and the tests of them.
use Rattle.std.proofs.Common.{◌≡◌, ℕ, Bool, true, false, not, ◌||◌, eqb, ltb, List, [], ◌∷◌, ◌++◌, length, drop, None, is_some, is_ok, bytes_eq, refl, sym, ◌∙◌, ap, rules}
use Rattle.std.specs.List.{list_any}
use Rattle.std.proofs.lemmas.Bool.Decides.{nat_tests}
use Rattle.std.proofs.lemmas.List.Splits.{length-slice_split}
use Rattle.mds_quantity.specs.Quantity.{denoted}
use Rattle.mds_quantity.specs.Unit.{unit_of}
use Rattle.mds_calendar.specs.Calendar.{day_of, moment_of, date_time_of}
use Rattle.mds_calendar.specs.Length.{length_of}
use Rattle.mds_marks.specs.Reason.{code_of, is_reason_text}
use Rattle.mds_names.specs.Names.{nmi_of, suffix_of}
use Rattle.mds_terms.specs.Event.{letter_of}
use Rattle.mds_terms.specs.Parts.{optional}
use Rattle.mds_terms.specs.Printable.{is_printable}
use Rattle.mds_lines.specs.declared.line.Kind.TheVariants.{Header, NmiDataDetails, AccumulationData, IntervalEvent, B2bDetails, AccumulationB2bDetails, EndOfData}
use Rattle.mds_lines.specs.Lines.{field, fields_of, is_comma}
use Rattle.mds_lines.specs.Rest.{are_blank}
use Rattle.mds_records.specs.declared.header_name.HeaderName.{HeaderName}
use Rattle.mds_records.specs.declared.b2b_details.B2bFields.{B2bFields}
use Rattle.mds_records.specs.declared.accumulation_data.AccumulationFields.{AccumulationFields}
use Rattle.mds_records.specs.declared.accumulation_b2b_details.AccumulationB2bFields.{AccumulationB2bFields}
use Rattle.mds_records.specs.declared.header.HeaderFields.{HeaderFields}
use Rattle.mds_records.specs.declared.interval_event.RunFields.{RunFields}
use Rattle.mds_records.specs.declared.nmi_data_details.DetailsFields.{DetailsFields}
use Rattle.mds_records.specs.FieldFaults.{field_fault}
use Rattle.mds_records.specs.Layouts.{FileName, DateTime, Printable, NmiName, SuffixName, UnitName, LengthInMinutes, DayDate, DirectionLetter, Value, IntervalNumber, SingleQuality, ReasonNumber, ReasonWords, TransLetter, MomentTime, direction_of, file_name, other_file_name, interval_number_of, is_single_quality}
use Rattle.mds_records.specs.RecordSteps.{HasHeaderFields, HasDetailsFields, HasRunFields, HasB2bFields, HasAccumulationB2bFields, HasAccumulationFields, accumulation_tests, amount_tests, meter_tests, read_tests, first_false, outcome}
use Rattle.mds_records.proofs.Rests.{right_count}
use Rattle.mds_records.proofs.Rules.{field_fault-is, good_must, good_may, good_even_empty, named, passed_in, same_parts}
use Rattle.mds_records.proofs.Terms.{no_date_time, no_moment, no_quantity, no_unit, no_number, no_single_quality, empty_printable, empty_code, empty_text, optional_good}

pub header_is : (file : HeaderName) (n : ℕ) (line : List ℕ) (f : HeaderFields) (is_other a b c d : Bool) → HasHeaderFields line f
    → is_other ≡ bytes_eq f.name.now (other_file_name file) → a ≡ bytes_eq f.name.now (file_name file)
    → b ≡ is_some (date_time_of f.date_time.now) → c ≡ is_printable f.sender.now → d ≡ is_printable f.receiver.now
    → field_fault file Header n line ≡ outcome is_other f.is_whole (first_false 2 (a ∷ b ∷ c ∷ d ∷ []))
header_is file n line f is_other a b c d h o ea eb ec ed =
    field_fault-is file Header n line is_other f.is_whole (a ∷ b ∷ c ∷ d ∷ [])
    (o ∙ ap (λ t. bytes_eq t (other_file_name file)) h.name)
    h.whole
    (same_parts (ea ∙ ap (λ t. bytes_eq t (file_name file)) h.name ∙ good_must file FileName (field line 2) (named file))
    (same_parts (eb ∙ ap (λ t. is_some (date_time_of t)) h.date_time ∙ good_must file DateTime (field line 3) no_date_time)
    (same_parts (ec ∙ ap is_printable h.sender ∙ good_even_empty file Printable (field line 4) empty_printable)
    (same_parts (ed ∙ ap is_printable h.receiver ∙ good_even_empty file Printable (field line 5) empty_printable) refl))))

pub details_is : (file : HeaderName) (n : ℕ) (line : List ℕ) (f : DetailsFields) (a b c d e g h i j : Bool) → HasDetailsFields line f
    → a ≡ is_some (nmi_of f.nmi.now) → b ≡ is_printable f.configuration.now → c ≡ is_printable f.register.now
    → d ≡ is_some (suffix_of f.suffix.now) → e ≡ is_printable f.datastream.now → g ≡ is_printable f.meter.now
    → h ≡ is_some (unit_of f.unit.now) → i ≡ is_some (length_of f.length.now) → j ≡ is_some (optional day_of f.next.now)
    → field_fault file NmiDataDetails n line ≡ outcome false f.is_whole (first_false 2 (a ∷ b ∷ c ∷ d ∷ e ∷ g ∷ h ∷ i ∷ j ∷ []))
details_is file n line f a b c d e g h i j has ea eb ec ed ee eg eh ei ej =
    field_fault-is file NmiDataDetails n line false f.is_whole (a ∷ b ∷ c ∷ d ∷ e ∷ g ∷ h ∷ i ∷ j ∷ [])
    refl
    has.whole
    (same_parts (ea ∙ ap (λ t. is_some (nmi_of t)) has.nmi ∙ good_must file NmiName (field line 2) refl)
    (same_parts (eb ∙ ap is_printable has.configuration ∙ good_even_empty file Printable (field line 3) empty_printable)
    (same_parts (ec ∙ ap is_printable has.register ∙ good_even_empty file Printable (field line 4) empty_printable)
    (same_parts (ed ∙ ap (λ t. is_some (suffix_of t)) has.suffix ∙ good_must file SuffixName (field line 5) refl)
    (same_parts (ee ∙ ap is_printable has.datastream ∙ good_even_empty file Printable (field line 6) empty_printable)
    (same_parts (eg ∙ ap is_printable has.meter ∙ good_even_empty file Printable (field line 7) empty_printable)
    (same_parts (eh ∙ ap (λ t. is_some (unit_of t)) has.unit ∙ good_must file UnitName (field line 8) no_unit)
    (same_parts (ei ∙ ap (λ t. is_some (length_of t)) has.length ∙ good_must file LengthInMinutes (field line 9) refl)
    (same_parts (ej ∙ ap (λ t. is_some (optional day_of t)) has.next ∙ optional_good day_of (field line 10) ∙ good_may file DayDate (field line 10)) refl)))))))))

pub run_is : (file : HeaderName) (n : ℕ) (line : List ℕ) (f : RunFields) (a b c d e : Bool) → HasRunFields line f
    → a ≡ is_some (interval_number_of f.first.now) → b ≡ is_some (interval_number_of f.last.now)
    → c ≡ is_single_quality f.quality.now → d ≡ is_some (code_of f.reason_code.now) → e ≡ is_reason_text f.reason_text.now
    → field_fault file IntervalEvent n line ≡ outcome false f.is_whole (first_false 2 (a ∷ b ∷ c ∷ d ∷ e ∷ []))
run_is file n line f a b c d e h ea eb ec ed ee =
    field_fault-is file IntervalEvent n line false f.is_whole (a ∷ b ∷ c ∷ d ∷ e ∷ [])
    refl
    h.whole
    (same_parts (ea ∙ ap (λ t. is_some (interval_number_of t)) h.first ∙ good_must file IntervalNumber (field line 2) no_number)
    (same_parts (eb ∙ ap (λ t. is_some (interval_number_of t)) h.last ∙ good_must file IntervalNumber (field line 3) no_number)
    (same_parts (ec ∙ ap is_single_quality h.quality ∙ good_must file SingleQuality (field line 4) no_single_quality)
    (same_parts (ed ∙ ap (λ t. is_some (code_of t)) h.reason_code ∙ good_even_empty file ReasonNumber (field line 5) empty_code)
    (same_parts (ee ∙ ap is_reason_text h.reason_text ∙ good_even_empty file ReasonWords (field line 6) empty_text) refl)))))

some_field : (line : List ℕ) → not (ltb (length (fields_of line)) 1) ≡ true
some_field line = let h = length-slice_split is_comma line in search (rules, nat_tests)

-- the number of fields of a record that may have any up to a last
pub whole_to : (last : ℕ) (line : List ℕ) (left : List (List ℕ)) (is_whole : Bool) → left ≡ drop last (fields_of line) → is_whole ≡ are_blank left
    → is_whole ≡ not (ltb (length (fields_of line)) 1 || list_any (λ text. ltb 0 (length text)) (drop last (fields_of line)))
whole_to last line left is_whole l w = w ∙ right_count true left (fields_of line) 1 last (sym (some_field line)) l

pub b2b_is : (file : HeaderName) (n : ℕ) (line : List ℕ) (f : B2bFields) (a b c d : Bool) → HasB2bFields line f
    → a ≡ is_some (optional letter_of f.trans.now) → b ≡ is_printable f.ticket.now
    → c ≡ is_some (optional moment_of f.moment.now) → d ≡ is_printable f.reading.now
    → field_fault file B2bDetails n line ≡ outcome false f.is_whole (first_false 2 (a ∷ b ∷ c ∷ d ∷ []))
b2b_is file n line f a b c d h ea eb ec ed =
    field_fault-is file B2bDetails n line false f.is_whole (a ∷ b ∷ c ∷ d ∷ [])
    refl
    h.whole
    (same_parts (ea ∙ ap (λ t. is_some (optional letter_of t)) h.trans ∙ optional_good letter_of (field line 2) ∙ good_may file TransLetter (field line 2))
    (same_parts (eb ∙ ap is_printable h.ticket ∙ good_even_empty file Printable (field line 3) empty_printable)
    (same_parts (ec ∙ ap (λ t. is_some (optional moment_of t)) h.moment ∙ optional_good moment_of (field line 4) ∙ good_may file MomentTime (field line 4))
    (same_parts (ed ∙ ap is_printable h.reading ∙ good_even_empty file Printable (field line 5) empty_printable) refl))))

pub accumulation_b2b_is : (file : HeaderName) (n : ℕ) (line : List ℕ) (f : AccumulationB2bFields) (a b c d : Bool) → HasAccumulationB2bFields line f
    → a ≡ is_some (optional letter_of f.previous_trans.now) → b ≡ is_printable f.previous_ticket.now
    → c ≡ is_some (optional letter_of f.current_trans.now) → d ≡ is_printable f.current_ticket.now
    → field_fault file AccumulationB2bDetails n line ≡ outcome false f.is_whole (first_false 2 (a ∷ b ∷ c ∷ d ∷ []))
accumulation_b2b_is file n line f a b c d h ea eb ec ed =
    field_fault-is file AccumulationB2bDetails n line false f.is_whole (a ∷ b ∷ c ∷ d ∷ [])
    refl
    h.whole
    (same_parts (ea ∙ ap (λ t. is_some (optional letter_of t)) h.previous_trans ∙ optional_good letter_of (field line 2) ∙ good_may file TransLetter (field line 2))
    (same_parts (eb ∙ ap is_printable h.previous_ticket ∙ good_even_empty file Printable (field line 3) empty_printable)
    (same_parts (ec ∙ ap (λ t. is_some (optional letter_of t)) h.current_trans ∙ optional_good letter_of (field line 4) ∙ good_may file TransLetter (field line 4))
    (same_parts (ed ∙ ap is_printable h.current_ticket ∙ good_even_empty file Printable (field line 5) empty_printable) refl))))

pub accumulation_is : (file : HeaderName) (n : ℕ) (line : List ℕ) (f : AccumulationFields) → HasAccumulationFields line f
    → field_fault file AccumulationData n line ≡ outcome false f.is_whole (first_false 2 (accumulation_tests f))
accumulation_is file n line f h =
    field_fault-is file AccumulationData n line false f.is_whole (accumulation_tests f)
    refl
    h.whole
    (same_parts (ap (λ t. is_some (nmi_of t)) h.head.nmi ∙ good_must file NmiName (field line 2) refl)
    (same_parts (ap is_printable h.head.configuration ∙ good_even_empty file Printable (field line 3) empty_printable)
    (same_parts (ap is_printable h.head.register ∙ good_even_empty file Printable (field line 4) empty_printable)
    (same_parts (ap (λ t. is_some (suffix_of t)) h.head.suffix ∙ good_must file SuffixName (field line 5) refl)
    (same_parts (ap is_printable h.head.datastream ∙ good_even_empty file Printable (field line 6) empty_printable)
    (same_parts (ap is_printable h.head.meter ∙ good_even_empty file Printable (field line 7) empty_printable)
    (same_parts (ap (λ t. is_some (direction_of t)) h.head.direction ∙ good_must file DirectionLetter (field line 8) refl)
    (same_parts (ap is_printable h.previous.reading ∙ good_even_empty file Printable (field line 9) empty_printable)
    (same_parts (ap (λ t. is_some (moment_of t)) h.previous.moment ∙ good_must file MomentTime (field line 10) no_moment)
    (same_parts (ap (λ t. eqb (length t) 0 || is_single_quality t) h.previous.quality ∙ good_may file SingleQuality (field line 11))
    (same_parts (ap (λ t. is_some (code_of t)) h.previous.reason_code ∙ good_even_empty file ReasonNumber (field line 12) empty_code)
    (same_parts (ap is_reason_text h.previous.reason_text ∙ good_even_empty file ReasonWords (field line 13) empty_text)
    (same_parts (ap is_printable h.current.reading ∙ good_even_empty file Printable (field line 14) empty_printable)
    (same_parts (ap (λ t. is_some (moment_of t)) h.current.moment ∙ good_must file MomentTime (field line 15) no_moment)
    (same_parts (ap is_single_quality h.current.quality ∙ good_must file SingleQuality (field line 16) no_single_quality)
    (same_parts (ap (λ t. is_some (code_of t)) h.current.reason_code ∙ good_even_empty file ReasonNumber (field line 17) empty_code)
    (same_parts (ap is_reason_text h.current.reason_text ∙ good_even_empty file ReasonWords (field line 18) empty_text)
    (same_parts (ap (λ t. is_ok (denoted t)) h.quantity ∙ good_must file Value (field line 19) no_quantity)
    (same_parts (ap (λ t. is_some (unit_of t)) h.unit ∙ good_must file UnitName (field line 20) no_unit)
    (same_parts (ap (λ t. is_some (optional day_of t)) h.next ∙ optional_good day_of (field line 21) ∙ good_may file DayDate (field line 21))
    (same_parts (ap (λ t. is_some (optional moment_of t)) h.update ∙ optional_good moment_of (field line 22) ∙ good_may file MomentTime (field line 22))
    (same_parts (ap (λ t. is_some (optional moment_of t)) h.load ∙ optional_good moment_of (field line 23) ∙ good_may file MomentTime (field line 23))
    refl))))))))))))))))))))))

-- where the first fields of a 250 are good, its first bad field is that of those after them
pub after_meter : (f : AccumulationFields) → first_false 2 (meter_tests f.meter) ≡ None
    → first_false 2 (accumulation_tests f) ≡ first_false 9 (read_tests true f.previous ++ (read_tests false f.current ++ amount_tests f))
after_meter f h = passed_in 2 9 (meter_tests f.meter) (read_tests true f.previous ++ (read_tests false f.current ++ amount_tests f)) refl h

pub after_previous : (f : AccumulationFields) → first_false 2 (meter_tests f.meter) ≡ None → first_false 9 (read_tests true f.previous) ≡ None
    → first_false 2 (accumulation_tests f) ≡ first_false 14 (read_tests false f.current ++ amount_tests f)
after_previous f h p = after_meter f h ∙ passed_in 9 14 (read_tests true f.previous) (read_tests false f.current ++ amount_tests f) refl p

pub after_current : (f : AccumulationFields) → first_false 2 (meter_tests f.meter) ≡ None → first_false 9 (read_tests true f.previous) ≡ None
    → first_false 14 (read_tests false f.current) ≡ None → first_false 2 (accumulation_tests f) ≡ first_false 19 (amount_tests f)
after_current f h p q = after_previous f h p ∙ passed_in 14 19 (read_tests false f.current) (amount_tests f) refl q

pub end_is : (file : HeaderName) (n : ℕ) (line : List ℕ) (left : List (List ℕ)) (is_whole : Bool) → left ≡ drop 1 (fields_of line) → is_whole ≡ are_blank left
    → field_fault file EndOfData n line ≡ outcome false is_whole (first_false 2 [])
end_is file n line left is_whole l w =
    field_fault-is file EndOfData n line false is_whole [] refl (whole_to 1 line left is_whole l w) refl
