-- The line of each row reads back.
use Rattle.std.proofs.Common.{◌≡◌, ◌≢◌, ℕ, suc, ◌+◌, ◌-◌, ◌*◌, ◌≤◌, Bool, true, not, ◌&&◌, nat_le, List, [], ◌∷◌, ◌++◌, length, length-append, take, drop, map, replicate, get_or, codes, decimal, pos, bytes_eq, Option, Some, None, IfSome, is_some, is_ok, unwrap_or, Ok, refl, sym, ap, subst, ◌∙◌, arith, ok_or}
use Rattle.std.specs.List.{All, list_all}
use Rattle.std.specs.Result.{result_ok}
use Rattle.std.proofs.lemmas.List.{length-map, length-replicate, take_at}
use Rattle.std.proofs.lemmas.List.Elements.{All-head, All-tail}
use Rattle.mds_quantity.specs.Unit.{unit_of, unit_text}
use Rattle.mds_quantity.specs.declared.unit.Unit.{Unit as MeasureUnit}
use Rattle.mds_calendar.specs.Calendar.{date_time_of, day_of, moment_of}
use Rattle.mds_calendar.specs.Length.{length_of}
use Rattle.mds_calendar.proofs.Lengths.{length_reads_back}
use Rattle.std.proofs.lemmas.Fmt.{length-decimal-le}
use Rattle.mds_names.specs.declared.stream.Stream.{Stream}
use Rattle.mds_names.specs.Names.{nmi_of, suffix_of}
use Rattle.mds_marks.specs.Mark.{is_mark, mark_of}
use Rattle.mds_marks.specs.Quality.{QualityValue, quality_text}
use Rattle.mds_marks.specs.Reading.{ReadingValue, is_lawful}
use Rattle.mds_marks.specs.Reason.{code_text}
use Rattle.mds_marks.specs.declared.mark.Mark.{Mark}
use Rattle.mds_terms.specs.Details.{DetailsValue}
use Rattle.mds_terms.specs.Parts.{joined, optional}
use Rattle.mds_terms.specs.Printable.{is_printable, is_printable_char}
use Rattle.std.proofs.lemmas.Bool.Decides.{nat_tests}
use Rattle.mds_terms.proofs.Texts.{both, day_is_digits, moment_is_digits}
use Rattle.mds_lines.specs.Kinds.{kind_named, kind_of}
use Rattle.mds_lines.specs.Lines.{field, fields_of}
use Rattle.mds_lines.specs.declared.line.KindFault.TheVariants.{Unknown}
use Rattle.mds_lines.specs.declared.line.Kind.{Kind}
use Rattle.mds_lines.specs.declared.line.Kind.TheVariants as a
use Rattle.mds_lines.proofs.KindFacts.{kind_text}
use Rattle.mds_records.specs.declared.header_name.HeaderName.TheVariants.{Nem12}
use Rattle.mds_records.specs.FieldFaults.{field_fault}
use Rattle.mds_records.specs.Layouts.{Rule, FileName, DateTime, Printable, NmiName, SuffixName, UnitName, LengthInMinutes, DayDate, Value, IntervalNumber, QualityMethod, SingleQuality, ReasonNumber, ReasonWords, MomentTime, has_flag, may, means_values, must, interval_number_of}
use Rattle.mds_records.specs.Records.{quantity_in}
use Rattle.mds_records.proofs.Terms.{no_date_time, no_day, no_quality, no_unit, no_number, no_single_quality, empty_printable, empty_code, empty_text}
use Rattle.mds_records.proofs.Rules.{named}
use Rattle.mds_export.specs.ReadBack.{IsInBounds, IsLawful, ReadsAs, ReadsBack, own_mark}
use Rattle.mds_export.specs.Rows.{IsHeaderMoment, IsRowText, RowValue, HeaderRow, DetailsRow, DayRow, RunRow, EndRow, line_of, mark_fields, own_fields, value_field}
use Rattle.mds_export.proofs.PlainFields.{AreFields, field_decimal, field_digits, field_name, field_nil, field_printable, fields_append, fields_joined, line_joined}
use Rattle.mds_export.proofs.RowFaults.{Fit, fit_append, fit_empty, fit_even, fit_may, fit_must, fit_or, fit_there, no_fault}
use Rattle.mds_export.proofs.RowTexts.{room, joined_room, room_append, header_digits, day_length, moment_length, optional_there, optional_day, nmi_reads, suffix_reads, name_length, unit_field, unit_reads, length_small, number_reads, mark_facts, mark_good, own_is, single, reading_small, value_facts}

-- what a line of plain fields is
pub record IsOf (kind : Kind) (fields : List (List ℕ)) (line : List ℕ) : Type 0 where
  pub are : fields_of line ≡ fields
  pub kind_is : kind_of line ≡ Ok kind
  pub apart : All (λ c. c ≢ 10) line
  pub short : length line ≤ room fields

line_is : (kind : Kind) (first : List ℕ) (fs : List (List ℕ)) → kind_named first ≡ Some kind → AreFields (first ∷ fs) → IsOf kind (first ∷ fs) (joined (first ∷ fs))
line_is kind first fs e h =
    let are = fields_joined (first ∷ fs) (omega arith) h in
    let line = line_joined (first ∷ fs) h in
    record {
      are = are;
      kind_is = kind_text (joined (first ∷ fs)) line.utf8 ∙ ap (λ t. ok_or (kind_named (get_or t 0 [])) Unknown) are ∙ ap (λ k. ok_or k Unknown) e;
      apart = line.apart;
      short = joined_room (first ∷ fs);
    }

-- a field by its number
at : {kind : Kind} {fields : List (List ℕ)} {line : List ℕ} → IsOf kind fields line → (number : ℕ) → field line number ≡ get_or fields (number - 1) []
at is number = ap (λ t. get_or t (number - 1) []) is.are

printable_length : (text : List ℕ) → is_printable text ≡ true → length text ≤ 240
printable_length text h =
    let e = (both (nat_le (length text) 240) (list_all is_printable_char text) h).0 in
    grind (arith, nat_tests)

-- 100
header_back : (moment : ℕ) (sender receiver made : List ℕ) → IsHeaderMoment moment made → is_printable sender ≡ true → is_printable receiver ≡ true
    → ReadsAs (HeaderRow moment sender receiver) (joined (codes "100" ∷ codes "NEM12" ∷ made ∷ sender ∷ receiver ∷ []))
header_back moment sender receiver made m s r =
    let digits = header_digits moment made m in
    let fs = codes "NEM12" ∷ made ∷ sender ∷ receiver ∷ [] in
    let line = joined (codes "100" ∷ fs) in
    let is = line_is a.Header (codes "100") fs refl (field_digits (codes "100") refl, (field_name 5 (codes "NEM12") refl, (field_digits made digits.0, (field_printable sender s, (field_printable receiver r, tt))))) in
    record {
      kind_is = is.kind_is;
      faultless = λ n c. no_fault Nem12 a.Header n line (codes "100") fs is.are (ap (λ t. bytes_eq t (codes "NEM13")) (at is 2)) (omega arith) (omega arith)
          (fit_must Nem12 FileName (codes "NEM12") (named Nem12) refl, (fit_must Nem12 DateTime made no_date_time (ap (λ (o : Option ℕ). is_some o) m.0), (fit_even Nem12 Printable sender empty_printable s, (fit_even Nem12 Printable receiver empty_printable r, tt))));
      says = (ap date_time_of (at is 3) ∙ m.0, at is 4, at is 5);
      apart = is.apart;
      short = omega (arith, is.short, digits.1, printable_length sender s, printable_length receiver r);
    }

-- 200
four : (b c d e : Bool) → (b && (c && (d && (e && true)))) ≡ true → (b ≡ true) × (c ≡ true) × (d ≡ true) × (e ≡ true)
four b c d e h =
    let p = both b (c && (d && (e && true))) h in
    let q = both c (d && (e && true)) p.1 in
    let r = both d (e && true) q.1 in
    (p.0, q.0, r.0, (both e true r.1).0)

details_back : (stream : Stream) (details : DetailsValue) (unit : MeasureUnit) (minutes : ℕ) (next : List ℕ) → optional day_of next ≡ Some details.next
    → IsLawful (DetailsRow stream details unit minutes)
    → ReadsAs (DetailsRow stream details unit minutes) (joined (codes "200" ∷ stream.nmi ∷ details.configuration ∷ details.register ∷ stream.suffix
    ∷ details.datastream ∷ details.meter ∷ unit_text unit ∷ decimal minutes ∷ next ∷ []))
details_back stream details unit minutes next e lawful =
    let p = four (is_printable details.configuration) (is_printable details.register) (is_printable details.datastream) (is_printable details.meter) lawful.2 in
    let day = optional_day next details.next e in
    let u = unit_field unit in
    let small = length_small minutes lawful.3 in
    let reads = length_reads_back minutes lawful.3 in
    let fs = stream.nmi ∷ details.configuration ∷ details.register ∷ stream.suffix ∷ details.datastream ∷ details.meter ∷ unit_text unit ∷ decimal minutes ∷ next ∷ [] in
    let line = joined (codes "200" ∷ fs) in
    let is = line_is a.NmiDataDetails (codes "200") fs refl (
      field_digits (codes "200") refl,
      (
        field_name 10 stream.nmi lawful.0,
        (
          field_printable details.configuration p.0,
          (
            field_printable details.register p.1,
            (field_name 2 stream.suffix lawful.1, (field_printable details.datastream p.2, (field_printable details.meter p.3, (u.0, (field_decimal minutes (omega (arith, small)), (field_digits next day.0, tt)))))),
          ),
        ),
      ),
    ) in
    record {
      kind_is = is.kind_is;
      faultless = λ n c. no_fault Nem12 a.NmiDataDetails n line (codes "200") fs is.are refl (omega arith) (omega arith) (
        fit_must Nem12 NmiName stream.nmi refl (ap (λ (o : Option (List ℕ)). is_some o) (nmi_reads stream.nmi lawful.0)),
        (
          fit_even Nem12 Printable details.configuration empty_printable p.0,
          (
            fit_even Nem12 Printable details.register empty_printable p.1,
            (
              fit_must Nem12 SuffixName stream.suffix refl (ap (λ (o : Option (List ℕ)). is_some o) (suffix_reads stream.suffix lawful.1)),
              (
                fit_even Nem12 Printable details.datastream empty_printable p.2,
                (
                  fit_even Nem12 Printable details.meter empty_printable p.3,
                  (
                    fit_must Nem12 UnitName (unit_text unit) no_unit (ap (λ (o : Option MeasureUnit). is_some o) (unit_reads unit)),
                    (
                      fit_must Nem12 LengthInMinutes (decimal minutes) refl (ap (λ (o : Option ℕ). is_some o) reads),
                      (fit_or Nem12 DayDate next day.2, tt),
                    ),
                  ),
                ),
              ),
            ),
          ),
        ),
      );
      says = (
        ap nmi_of (at is 2) ∙ nmi_reads stream.nmi lawful.0,
        at is 3,
        at is 4,
        ap suffix_of (at is 5) ∙ suffix_reads stream.suffix lawful.1,
        at is 6,
        at is 7,
        ap unit_of (at is 8) ∙ unit_reads unit,
        ap length_of (at is 9) ∙ reads,
        ap (optional day_of) (at is 10) ∙ e,
      );
      apart = is.apart;
      short = omega (
        arith,
        is.short,
        name_length 10 stream.nmi lawful.0,
        name_length 2 stream.suffix lawful.1,
        printable_length details.configuration p.0,
        printable_length details.register p.1,
        printable_length details.datastream p.2,
        printable_length details.meter p.3,
        u.1,
        length-decimal-le 2 minutes (omega arith) (omega (arith, small)) (omega (arith, small)),
        day.1,
      );
    }

-- 400
run_back : (first last : ℕ) (mark : Mark) → IsLawful (RunRow first last mark) → IsInBounds (RunRow first last mark)
    → ReadsAs (RunRow first last mark) (joined (codes "400" ∷ decimal first ∷ decimal last ∷ mark_fields mark))
run_back first last mark lawful bounds =
    let m = mark_facts mark lawful in
    let from = number_reads first bounds.0 in
    let to = number_reads last bounds.1 in
    let fs = decimal first ∷ decimal last ∷ mark_fields mark in
    let line = joined (codes "400" ∷ fs) in
    let is = line_is a.IntervalEvent (codes "400") fs refl
    (field_digits (codes "400") refl, (field_decimal first (omega (arith, bounds.0)), (field_decimal last (omega (arith, bounds.1)), m.fields))) in
    record {
      kind_is = is.kind_is;
      faultless = λ n c. no_fault Nem12 a.IntervalEvent n line (codes "400") fs is.are refl (omega arith) (omega arith) (
        fit_must Nem12 IntervalNumber (decimal first) no_number (ap (λ (o : Option ℕ). is_some o) from.0),
        (
          fit_must Nem12 IntervalNumber (decimal last) no_number (ap (λ (o : Option ℕ). is_some o) to.0),
          (
            fit_must Nem12 SingleQuality (quality_text mark.quality) no_single_quality
                (ap (has_flag (codes "AEFNS")) m.quality ∙ single mark.quality (mark_good mark lawful).0 bounds.2),
            (fit_even Nem12 ReasonNumber (code_text mark.reason.code) empty_code m.code, (fit_even Nem12 ReasonWords mark.reason.text empty_text m.text, tt)),
          ),
        ),
      );
      says = (
        ap interval_number_of (at is 2) ∙ from.0,
        ap interval_number_of (at is 3) ∙ to.0,
        (λ i. mark_of (at is 4 i) (at is 5 i) (at is 6 i)) ∙ m.reads,
      );
      apart = is.apart;
      short = omega (arith, is.short, from.1, to.1, m.short);
    }

-- 900
end_back : ReadsAs EndRow (joined (codes "900" ∷ []))
end_back =
    let is = line_is a.EndOfData (codes "900") [] refl (field_digits (codes "900") refl, tt) in
    record {
      kind_is = is.kind_is;
      faultless = λ n c. no_fault Nem12 a.EndOfData n (joined (codes "900" ∷ [])) (codes "900") [] is.are refl (omega arith) (omega arith) tt;
      says = tt;
      apart = is.apart;
      short = omega (arith, is.short);
    }

-- 300: the values
values_fields : (readings : List ReadingValue) → All (λ r. is_lawful r ≡ true) readings → AreFields (map value_field readings)
values_fields [] h = tt
values_fields (r ∷ readings) h =
    ((value_facts (unwrap_or r.value (pos 0)) (reading_small r (All-head (λ r. is_lawful r ≡ true) r readings h))).field, values_fields readings (All-tail (λ r. is_lawful r ≡ true) r readings h))

values_room : (readings : List ReadingValue) → All (λ r. is_lawful r ≡ true) readings → room (map value_field readings) ≤ 21 * length readings
values_room [] h = omega arith
values_room (r ∷ readings) h =
    let v = value_facts (unwrap_or r.value (pos 0)) (reading_small r (All-head (λ r. is_lawful r ≡ true) r readings h)) in
    omega (arith, v.short, values_room readings (All-tail (λ r. is_lawful r ≡ true) r readings h))

values_fit : (b : Bool) (readings : List ReadingValue) → All (λ r. is_lawful r ≡ true) readings
    → Fit Nem12 (replicate (length readings) (record { may_be_empty = b; form = Value })) (map value_field readings)
values_fit b [] h = tt
values_fit b (r ∷ readings) h =
    let v = value_facts (unwrap_or r.value (pos 0)) (reading_small r (All-head (λ r. is_lawful r ≡ true) r readings h)) in
    (fit_there Nem12 b Value (value_field r) v.some (ap is_ok v.reads), values_fit b readings (All-tail (λ r. is_lawful r ≡ true) r readings h))

values_said : (readings : List ReadingValue) → All (λ r. is_lawful r ≡ true) readings
    → map quantity_in (map value_field readings) ≡ map (λ r. Some (unwrap_or r.value (pos 0))) readings
values_said [] h = refl
values_said (r ∷ readings) h =
    let v = value_facts (unwrap_or r.value (pos 0)) (reading_small r (All-head (λ r. is_lawful r ≡ true) r readings h)) in
    let rest = values_said readings (All-tail (λ r. is_lawful r ≡ true) r readings h) in
    λ i. ap result_ok v.reads i ∷ rest i

-- a field after the values
past : (values tail : List (List ℕ)) (j : ℕ) → get_or (values ++ tail) (length values + j) [] ≡ get_or tail j []
past [] tail j = ap (λ i. get_or tail i []) (omega arith)
past (v ∷ values) tail j =
    let e : length (v ∷ values) + j ≡ suc (length values + j) = omega arith in
    ap (λ i. get_or (v ∷ (values ++ tail)) i []) e ∙ past values tail j

past_two : (x y : List ℕ) (values tail : List (List ℕ)) (n j k : ℕ) → length values ≡ n → k ≡ n + j + 2 → get_or (x ∷ y ∷ (values ++ tail)) k [] ≡ get_or tail j []
past_two x y values tail n j k e h =
    let i : k ≡ suc (suc (length values + j)) = omega (arith, e, h) in
    ap (λ i. get_or (x ∷ y ∷ (values ++ tail)) i []) i ∙ past values tail j

-- the rules after the values
abbrev last_rules : List Rule
last_rules = must QualityMethod ∷ may ReasonNumber ∷ may ReasonWords ∷ may MomentTime ∷ may MomentTime ∷ []

day_back : (date : ℕ) (readings : List ReadingValue) (mark : Option Mark) (update : ℕ) (day updated : List ℕ) → day_of day ≡ Some date → moment_of updated ≡ Some update
    → All (λ r. is_lawful r ≡ true) readings → is_mark (own_mark mark) ≡ true → length readings ≤ 288
    → ReadsAs (DayRow date readings mark update) (joined (codes "300" ∷ day ∷ map value_field readings ++ (own_fields mark ++ updated ∷ [] ∷ [])))
day_back date readings mark update day updated d u all good few =
    let n = length readings in
    let own = own_mark mark in
    let m = mark_facts own good in
    let values = map value_field readings in
    let tail = own_fields mark ++ updated ∷ [] ∷ [] in
    let tail_is : tail ≡ mark_fields own ++ updated ∷ [] ∷ [] = ap (λ t. t ++ updated ∷ [] ∷ []) (own_is mark) in
    let fs = day ∷ values ++ tail in
    let line = joined (codes "300" ∷ fs) in
    let ends = moment_is_digits updated update u in
    let size = length-map readings value_field in
    let tail_fields : AreFields tail = subst AreFields (sym tail_is) (fields_append (mark_fields own) (updated ∷ [] ∷ []) m.fields (field_digits updated ends, (field_nil, tt))) in
    let is = line_is a.IntervalData (codes "300") fs refl
    (field_digits (codes "300") refl, (field_digits day (day_is_digits day date d), fields_append values tail (values_fields readings all) tail_fields)) in
    let there = not (means_values (field line (n + 3))) in
    let values_rule : Rule = record { may_be_empty = there; form = Value } in
    let long = ap length tail_is in
    let tail_fit : Fit Nem12 last_rules tail = subst (Fit Nem12 last_rules) (sym tail_is) (
      fit_must Nem12 QualityMethod (quality_text own.quality) no_quality (ap (λ (o : Option QualityValue). is_some o) m.quality),
      (
        fit_even Nem12 ReasonNumber (code_text own.reason.code) empty_code m.code,
        (
          fit_even Nem12 ReasonWords own.reason.text empty_text m.text,
          (fit_may Nem12 MomentTime updated (ap (λ (o : Option ℕ). is_some o) u), (fit_empty Nem12 MomentTime, tt)),
        ),
      ),
    ) in
    let fault : field_fault Nem12 a.IntervalData n line ≡ None =
    no_fault Nem12 a.IntervalData n line (codes "300") fs is.are refl
    (omega (arith, length-append values tail, long, size))
    (omega (arith, length-append values tail, long, size, length-append (replicate n values_rule) last_rules, length-replicate n values_rule)) (
      fit_must Nem12 DayDate day no_day (ap (λ (o : Option ℕ). is_some o) d),
      fit_append Nem12 (replicate n values_rule) last_rules values tail (length-replicate n values_rule ∙ sym size) (values_fit there readings all) tail_fit,
    ) in
    let later : (j k : ℕ) → k ≡ n + j + 2 → get_or (codes "300" ∷ fs) k [] ≡ get_or (mark_fields own ++ updated ∷ [] ∷ []) j [] =
    λ j k e. past_two (codes "300") day values tail n j k size e ∙ ap (λ t. get_or t j []) tail_is in
    record {
      kind_is = is.kind_is;
      faultless = λ k c. subst (λ (k : ℕ). field_fault Nem12 a.IntervalData k line ≡ None) (sym c) fault;
      says = (
        ap day_of (at is 2) ∙ d,
        ap (λ t. map quantity_in (take n (drop 2 t))) is.are ∙ ap (map quantity_in) (take_at values tail n size) ∙ values_said readings all,
        (λ i. mark_of ((at is (n + 3) ∙ later 0 (n + 3 - 1) (omega arith)) i) ((at is (n + 4) ∙ later 1 (n + 4 - 1) (omega arith)) i) ((at is (n + 5) ∙ later 2 (n + 5 - 1) (omega arith)) i)) ∙ m.reads,
        ap (optional moment_of) (at is (n + 6) ∙ later 3 (n + 6 - 1) (omega arith)) ∙ optional_there moment_of updated update (omega (arith, moment_length updated update u)) u,
      );
      apart = is.apart;
      short = omega (arith, is.short, day_length day date d, moment_length updated update u, room_append values tail, values_room readings all, ap room tail_is, room_append (mark_fields own) (updated ∷ [] ∷ []), m.short, few);
    }

-- the mark of a 300 is one
own_good : (mark : Option Mark) → IfSome mark (λ m. is_mark m ≡ true) → is_mark (own_mark mark) ≡ true
own_good None h = rw empty_text refl
own_good (Some m) h = h

pub read_back : (row : RowValue) (text : List ℕ) → IsLawful row → IsInBounds row → IsRowText row text → ReadsBack row text
read_back (HeaderRow moment sender receiver) text lawful bounds (fields, (made, m, e), t) =
    (joined (codes "100" ∷ codes "NEM12" ∷ made ∷ sender ∷ receiver ∷ []), t ∙ ap line_of e, header_back moment sender receiver made m lawful.0 lawful.1)
read_back (DetailsRow stream details unit minutes) text lawful bounds (fields, (next, d, e), t) =
    (joined (codes "200" ∷ stream.nmi ∷ details.configuration ∷ details.register ∷ stream.suffix ∷ details.datastream ∷ details.meter ∷ unit_text unit ∷ decimal minutes ∷ next ∷ []), t ∙ ap line_of e, details_back stream details unit minutes next d lawful)
read_back (DayRow date readings mark update) text lawful bounds (fields, (day, updated, d, u, e), t) =
    (joined (codes "300" ∷ day ∷ map value_field readings ++ (own_fields mark ++ updated ∷ [] ∷ [])), t ∙ ap line_of e, day_back date readings mark update day updated d u lawful.0 (own_good mark lawful.1) bounds)
read_back (RunRow first last mark) text lawful bounds (fields, e, t) =
    (joined (codes "400" ∷ decimal first ∷ decimal last ∷ mark_fields mark), t ∙ ap line_of e, run_back first last mark lawful bounds)
read_back EndRow text lawful bounds (fields, e, t) = (joined (codes "900" ∷ []), t ∙ ap line_of e, end_back)
