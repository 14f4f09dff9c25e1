-- The private steps of reading a record.
use Rattle.std.specs.Prelude.{◌≡◌, ℕ, ◌+◌, ◌*◌, ◌^◌, ◌<◌, ◌≤◌, unsigned_abs, min, Bool, true, false, ◌⊎◌, not, ◌&&◌, ◌||◌, ◌==◌, if◌then◌else◌, List, [], ◌∷◌, ◌++◌, length, take, drop, map, slice_index_or, Option, Some, None, is_some, option_map, Ok, is_ok}
use Rattle.mds_quantity.specs.Quantity.{denoted}
use Rattle.mds_quantity.specs.Unit.{unit_of}
use Rattle.mds_calendar.specs.Calendar.{day_of, moment_of}
use Rattle.mds_names.specs.Names.{nmi_of, suffix_of}
use Rattle.mds_marks.specs.Reason.{code_of, is_reason_text}
use Rattle.mds_terms.specs.BorrowedTexts.{text_of}
use Rattle.mds_terms.specs.Parts.{optional}
use Rattle.mds_terms.specs.Printable.{is_printable}
use Rattle.mds_lines.specs.declared.line.Kind.TheVariants.{Header, NmiDataDetails, AccumulationData, IntervalEvent, B2bDetails, AccumulationB2bDetails}
use Rattle.mds_lines.specs.Lines.{fields_of, field}
use Rattle.mds_lines.specs.Rest.{are_blank}
use Rattle.mds_records.specs.declared.fault.FieldFault.{FieldFault}
use Rattle.mds_records.specs.declared.fault.FieldFault.TheVariants.{WrongFile, Count, Bad}
use Rattle.mds_records.specs.declared.header.HeaderFields.{HeaderFields}
use Rattle.mds_records.specs.declared.nmi_data_details.DetailsFields.{DetailsFields}
use Rattle.mds_records.specs.declared.interval_data.DayFields.{DayFields}
use Rattle.mds_records.specs.declared.interval_values.DayValues.{DayValues}
use Rattle.mds_records.specs.declared.interval_values.ValueFaults.{ValueFaults}
use Rattle.mds_records.specs.declared.interval_event.RunFields.{RunFields}
use Rattle.mds_records.specs.declared.b2b_details.B2bFields.{B2bFields}
use Rattle.mds_records.specs.declared.accumulation_data.AccumulationFields.{AccumulationFields}
use Rattle.mds_records.specs.declared.accumulation_data.MeterFields.{MeterFields}
use Rattle.mds_records.specs.declared.accumulation_data.MeterTerms.{MeterTerms}
use Rattle.mds_records.specs.declared.accumulation_data.AmountTerms.{AmountTerms}
use Rattle.mds_records.specs.declared.register_read.ReadFields.{ReadFields}
use Rattle.mds_records.specs.declared.accumulation_b2b_details.AccumulationB2bFields.{AccumulationB2bFields}
use Rattle.mds_records.specs.FieldFaults.{has_wrong_count}
use Rattle.mds_records.specs.Layouts.{direction_of, is_single_quality}
use Rattle.mds_records.specs.Records.{sum_of, values_of}

-- the first of these tests that failed, numbered from `from` on
abbrev pub first_false : ℕ → List Bool → Option ℕ
first_false from [] = None
first_false from (test ∷ tests) = if test then first_false (from + 1) tests else Some from

-- the first fault, from the tests in the order of the faults
abbrev pub outcome : Bool → Bool → Option ℕ → Option FieldFault
outcome is_other is_whole bad =
    if is_other then Some WrongFile else (if is_whole then option_map Bad bad else Some Count)

-- the lesser of two numbers, either of which may be absent
abbrev pub lesser : Option ℕ → Option ℕ → Option ℕ
lesser None n = n
lesser (Some m) None = Some m
lesser (Some m) (Some n) = Some (min m n)

-- the first of two numbers that isn't absent
abbrev pub or_else : Option ℕ → Option ℕ → Option ℕ
or_else None n = n
or_else (Some m) n = Some m

-- these are a header's fields, and whether their number is right
pub record HasHeaderFields (line : List ℕ) (f : HeaderFields) : Type 0 where
  pub name : f.name.now ≡ field line 2
  pub date_time : f.date_time.now ≡ field line 3
  pub sender : f.sender.now ≡ field line 4
  pub receiver : f.receiver.now ≡ field line 5
  pub whole : f.is_whole ≡ not (has_wrong_count Header 0 line)

-- these are the fields of a 200, and whether their number is right
pub record HasDetailsFields (line : List ℕ) (f : DetailsFields) : Type 0 where
  pub nmi : f.nmi.now ≡ field line 2
  pub configuration : f.configuration.now ≡ field line 3
  pub register : f.register.now ≡ field line 4
  pub suffix : f.suffix.now ≡ field line 5
  pub datastream : f.datastream.now ≡ field line 6
  pub meter : f.meter.now ≡ field line 7
  pub unit : f.unit.now ≡ field line 8
  pub length : f.length.now ≡ field line 9
  pub next : f.next.now ≡ field line 10
  pub whole : f.is_whole ≡ not (has_wrong_count NmiDataDetails 0 line)

-- these are the fields of a 400, and whether their number is right
pub record HasRunFields (line : List ℕ) (f : RunFields) : Type 0 where
  pub first : f.first.now ≡ field line 2
  pub last : f.last.now ≡ field line 3
  pub quality : f.quality.now ≡ field line 4
  pub reason_code : f.reason_code.now ≡ field line 5
  pub reason_text : f.reason_text.now ≡ field line 6
  pub whole : f.is_whole ≡ not (has_wrong_count IntervalEvent 0 line)

-- these are the fields of a 500, and whether their number is right
pub record HasB2bFields (line : List ℕ) (f : B2bFields) : Type 0 where
  pub trans : f.trans.now ≡ field line 2
  pub ticket : f.ticket.now ≡ field line 3
  pub moment : f.moment.now ≡ field line 4
  pub reading : f.reading.now ≡ field line 5
  pub whole : f.is_whole ≡ not (has_wrong_count B2bDetails 0 line)

-- these are the fields of a 550, and whether their number is right
pub record HasAccumulationB2bFields (line : List ℕ) (f : AccumulationB2bFields) : Type 0 where
  pub previous_trans : f.previous_trans.now ≡ field line 2
  pub previous_ticket : f.previous_ticket.now ≡ field line 3
  pub current_trans : f.current_trans.now ≡ field line 4
  pub current_ticket : f.current_ticket.now ≡ field line 5
  pub whole : f.is_whole ≡ not (has_wrong_count AccumulationB2bDetails 0 line)

-- these are the fields of a read, from a position of these fields on
pub record HasReadFields (fields : List (List ℕ)) (place : ℕ) (f : ReadFields) : Type 0 where
  pub reading : f.reading.now ≡ slice_index_or fields place []
  pub moment : f.moment.now ≡ slice_index_or fields (place + 1) []
  pub quality : f.quality.now ≡ slice_index_or fields (place + 2) []
  pub reason_code : f.reason_code.now ≡ slice_index_or fields (place + 3) []
  pub reason_text : f.reason_text.now ≡ slice_index_or fields (place + 4) []

-- and these are the fields of a 250 before its reads
pub record HasMeterFields (fields : List (List ℕ)) (place : ℕ) (f : MeterFields) : Type 0 where
  pub nmi : f.nmi.now ≡ slice_index_or fields place []
  pub configuration : f.configuration.now ≡ slice_index_or fields (place + 1) []
  pub register : f.register.now ≡ slice_index_or fields (place + 2) []
  pub suffix : f.suffix.now ≡ slice_index_or fields (place + 3) []
  pub datastream : f.datastream.now ≡ slice_index_or fields (place + 4) []
  pub meter : f.meter.now ≡ slice_index_or fields (place + 5) []
  pub direction : f.direction.now ≡ slice_index_or fields (place + 6) []

-- these are the fields of a 250, and whether their number is right
pub record HasAccumulationFields (line : List ℕ) (f : AccumulationFields) : Type 0 where
  pub head : HasMeterFields (fields_of line) 1 f.meter
  pub previous : HasReadFields (fields_of line) 8 f.previous
  pub current : HasReadFields (fields_of line) 13 f.current
  pub quantity : f.quantity.now ≡ field line 19
  pub unit : f.unit.now ≡ field line 20
  pub next : f.next.now ≡ field line 21
  pub update : f.update.now ≡ field line 22
  pub load : f.load.now ≡ field line 23
  pub whole : f.is_whole ≡ not (has_wrong_count AccumulationData 0 line)

-- whether each field of a 250 is good: those before the reads, those of a read, those after the reads
abbrev pub meter_tests : MeterFields → List Bool
meter_tests f =
    is_some (nmi_of f.nmi.now) ∷ is_printable f.configuration.now ∷ is_printable f.register.now
    ∷ is_some (suffix_of f.suffix.now) ∷ is_printable f.datastream.now ∷ is_printable f.meter.now
    ∷ is_some (direction_of f.direction.now) ∷ []

abbrev pub read_tests : Bool → ReadFields → List Bool
read_tests may_lack_quality f =
    is_printable f.reading.now ∷ is_some (moment_of f.moment.now)
    ∷ ((may_lack_quality && (length f.quality.now == 0)) || is_single_quality f.quality.now)
    ∷ is_some (code_of f.reason_code.now) ∷ is_reason_text f.reason_text.now ∷ []

abbrev pub amount_tests : AccumulationFields → List Bool
amount_tests f =
    is_ok (denoted f.quantity.now) ∷ is_some (unit_of f.unit.now) ∷ is_some (optional day_of f.next.now)
    ∷ is_some (optional moment_of f.update.now) ∷ is_some (optional moment_of f.load.now) ∷ []

abbrev pub accumulation_tests : AccumulationFields → List Bool
accumulation_tests f =
    meter_tests f.meter ++ (read_tests true f.previous ++ (read_tests false f.current ++ amount_tests f))

-- the terms that the fields before the reads spell
pub record AreMeter (f : MeterFields) (terms : MeterTerms) : Type 0 where
  pub nmi : nmi_of f.nmi.now ≡ Some terms.stream.nmi
  pub configuration : text_of terms.configuration ≡ f.configuration.now
  pub register : text_of terms.register ≡ f.register.now
  pub suffix : suffix_of f.suffix.now ≡ Some terms.stream.suffix
  pub datastream : text_of terms.datastream ≡ f.datastream.now
  pub meter : text_of terms.meter ≡ f.meter.now
  pub direction : direction_of f.direction.now ≡ Some terms.direction

-- the terms that the fields after the reads spell
pub record AreAmounts (f : AccumulationFields) (terms : AmountTerms) : Type 0 where
  pub quantity : denoted f.quantity.now ≡ Ok terms.quantity
  pub unit : unit_of f.unit.now ≡ Some terms.unit
  pub next : optional day_of f.next.now ≡ Some terms.next
  pub update : optional moment_of f.update.now ≡ Some terms.update

-- it is empty or a quantity
abbrev pub is_empty_or_quantity : List ℕ → Bool
is_empty_or_quantity text = (length text == 0) || is_ok (denoted text)

-- it isn't empty
abbrev pub is_there : List ℕ → Bool
is_there text = not (length text == 0)

-- these are n values, the first of these fields, and at least one more field follows
pub record AreValues (n : ℕ) (fields : List (List ℕ)) (values : DayValues) : Type 0 where
  pub more : n < length fields
  pub rest : fields_of values.rest.now ≡ drop n fields
  pub sum : values.sum ≡ sum_of (take n fields)
  pub small : unsigned_abs values.sum ≤ n * 10 ^ 18
  pub bad : values.faults.bad ≡ first_false 3 (map is_empty_or_quantity (take n fields))
  pub empty : values.faults.empty ≡ first_false 3 (map is_there (take n fields))

-- a 300 of n values has too few fields, or one past the last that isn't empty
abbrev pub HasWrongCount : ℕ → List ℕ → Type 0
HasWrongCount n line =
    (length (fields_of line) < n + 3) ⊎ (are_blank (drop (n + 7) (fields_of line)) ≡ false)

-- these are the fields of a 300 of n values, and the faults of its values
pub record HasDayFields (n : ℕ) (line : List ℕ) (f : DayFields) (faults : ValueFaults) : Type 0 where
  pub least : n + 3 ≤ length (fields_of line)
  pub blank : are_blank (drop (n + 7) (fields_of line)) ≡ true
  pub date : f.date.now ≡ field line 2
  pub sum : f.sum ≡ sum_of (values_of n line)
  pub small : unsigned_abs f.sum ≤ n * 10 ^ 18
  pub quality : f.quality.now ≡ field line (n + 3)
  pub reason_code : f.reason_code.now ≡ field line (n + 4)
  pub reason_text : f.reason_text.now ≡ field line (n + 5)
  pub update : f.update.now ≡ field line (n + 6)
  pub load : f.load.now ≡ field line (n + 7)
  pub bad : faults.bad ≡ first_false 3 (map is_empty_or_quantity (values_of n line))
  pub empty : faults.empty ≡ first_false 3 (map is_there (values_of n line))
