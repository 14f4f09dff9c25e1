-- The record that a line spells: its fields by name, each read once into its term.
-- MDFF Specification, the tables of the 100, 200, 250, 300, 400, 500, 550 and 900 records.
use Rattle.std.specs.Prelude.{◌≡◌, ℕ, ◌+◌, false, not, ◌&&◌, ◌==◌, List, take, drop, fold, flat_map, ℤ, pos, ◌+ℤ◌, Option, Some, None, is_none, Result, Ok, Err}
use Rattle.std.specs.List.{list_any}
use Rattle.std.specs.Option.{option_to_list}
use Rattle.std.specs.Result.{result_ok}
use Rattle.mds_quantity.specs.Quantity.{denoted}
use Rattle.mds_quantity.specs.declared.quantity.QuantityFault.{QuantityFault}
use Rattle.mds_quantity.specs.Unit.{unit_of}
use Rattle.mds_calendar.specs.Calendar.{day_of, moment_of, date_time_of}
use Rattle.mds_calendar.specs.Length.{count_of, length_of}
use Rattle.mds_names.specs.Names.{nmi_of, suffix_of}
use Rattle.mds_marks.specs.Mark.{mark_of}
use Rattle.mds_marks.specs.BorrowedMarks.{mark_value, reason_value}
use Rattle.mds_marks.specs.Quality.{null, quality_of, variable}
use Rattle.mds_marks.specs.Reason.{reason_of}
use Rattle.mds_terms.specs.BorrowedTexts.{text_of}
use Rattle.mds_terms.specs.Event.{letter_of}
use Rattle.mds_terms.specs.Parts.{optional}
use Rattle.mds_lines.specs.declared.line.Kind.{Kind}
use Rattle.mds_lines.specs.declared.line.Kind.TheVariants.{Header, NmiDataDetails, AccumulationData, IntervalData, IntervalEvent, B2bDetails, AccumulationB2bDetails, EndOfData}
use Rattle.mds_lines.specs.Lines.{fields_of, field}
use Rattle.mds_records.specs.declared.header.HeaderRecord.{HeaderRecord}
use Rattle.mds_records.specs.declared.nmi_data_details.NmiDataDetailsRecord.{NmiDataDetailsRecord}
use Rattle.mds_records.specs.declared.interval_data.IntervalDataRecord.{IntervalDataRecord}
use Rattle.mds_records.specs.declared.interval_event.IntervalEventRecord.{IntervalEventRecord}
use Rattle.mds_records.specs.declared.b2b_details.B2bDetailsRecord.{B2bDetailsRecord}
use Rattle.mds_records.specs.declared.accumulation_data.AccumulationDataRecord.{AccumulationDataRecord}
use Rattle.mds_records.specs.declared.register_read.RegisterRead.{RegisterRead}
use Rattle.mds_records.specs.declared.accumulation_b2b_details.AccumulationB2bDetailsRecord.{AccumulationB2bDetailsRecord}
use Rattle.mds_records.specs.declared.record.Record.{Record}
use Rattle.mds_records.specs.declared.record.Record.TheVariants as of
use Rattle.mds_records.specs.Layouts.{direction_of, interval_number_of}

-- the number of values of a 300, by the length of its intervals
abbrev pub value_count : Option ℕ → ℕ
value_count None = 0
value_count (Some minutes) = count_of minutes

-- the value fields of a 300: n of them from field 3 on
abbrev pub values_of : ℕ → List ℕ → List (List ℕ)
values_of n line = take n (drop 2 (fields_of line))

-- the quantity in a field, in millionths, or nothing if the field is empty or isn't a quantity
abbrev pub quantity_in : List ℕ → Option ℤ
quantity_in text = result_ok (denoted text)

-- what a value adds to a sum, in millionths: its quantity, or 0 if it isn't one
abbrev pub amount_of : Result ℤ QuantityFault → ℤ
amount_of (Ok amount) = amount
amount_of (Err fault) = pos 0

-- the sum of values, in millionths
abbrev pub sum_of : List (List ℕ) → ℤ
sum_of values = fold (λ sum text. sum +ℤ amount_of (denoted text)) (pos 0) values

-- 100
pub record IsHeader (line : List ℕ) (r : HeaderRecord) : Type 0 where
  pub moment : date_time_of (field line 3) ≡ Some r.moment
  pub sender : text_of r.sender ≡ field line 4
  pub receiver : text_of r.receiver ≡ field line 5

-- 200
pub record IsNmiDataDetails (line : List ℕ) (r : NmiDataDetailsRecord) : Type 0 where
  pub nmi : nmi_of (field line 2) ≡ Some r.stream.nmi
  pub configuration : text_of r.details.configuration ≡ field line 3
  pub register : text_of r.details.register ≡ field line 4
  pub suffix : suffix_of (field line 5) ≡ Some r.stream.suffix
  pub datastream : text_of r.details.datastream ≡ field line 6
  pub meter : text_of r.details.meter ≡ field line 7
  pub unit : unit_of (field line 8) ≡ Some r.unit
  pub length : length_of (field line 9) ≡ Some r.length
  pub next : optional day_of (field line 10) ≡ Some r.details.next

-- what a register showed, when, its quality, which may be absent, and the reason
pub record IsRegisterRead (reading moment quality code text : List ℕ) (r : RegisterRead) : Type 0 where
  pub reading_is : text_of r.reading ≡ reading
  pub moment_is : moment_of moment ≡ Some r.moment
  pub quality_is : quality_of quality ≡ r.quality
  pub reason_is : reason_of code text ≡ Some (reason_value r.reason)

-- 250
pub record IsAccumulationData (line : List ℕ) (r : AccumulationDataRecord) : Type 0 where
  pub nmi : nmi_of (field line 2) ≡ Some r.stream.nmi
  pub configuration : text_of r.configuration ≡ field line 3
  pub register : text_of r.register ≡ field line 4
  pub suffix : suffix_of (field line 5) ≡ Some r.stream.suffix
  pub datastream : text_of r.datastream ≡ field line 6
  pub meter : text_of r.meter ≡ field line 7
  pub direction : direction_of (field line 8) ≡ Some r.direction
  pub previous :
      IsRegisterRead (field line 9) (field line 10) (field line 11) (field line 12) (field line 13) r.previous
  pub current :
      IsRegisterRead (field line 14) (field line 15) (field line 16) (field line 17) (field line 18) r.current
  pub quantity : denoted (field line 19) ≡ Ok r.quantity
  pub unit : unit_of (field line 20) ≡ Some r.unit
  pub next : optional day_of (field line 21) ≡ Some r.next
  pub update : optional moment_of (field line 22) ≡ Some r.update

-- 300, of n values
pub record IsIntervalData (n : ℕ) (line : List ℕ) (r : IntervalDataRecord) : Type 0 where
  pub date : day_of (field line 2) ≡ Some r.date
  pub sum : r.sum ≡ sum_of (values_of n line)
  pub mark : mark_of (field line (n + 3)) (field line (n + 4)) (field line (n + 5)) ≡ Some (mark_value r.mark)
  pub update : optional moment_of (field line (n + 6)) ≡ Some r.update

-- 400
pub record IsIntervalEvent (line : List ℕ) (r : IntervalEventRecord) : Type 0 where
  pub first : interval_number_of (field line 2) ≡ Some r.first
  pub last : interval_number_of (field line 3) ≡ Some r.last
  pub mark : mark_of (field line 4) (field line 5) (field line 6) ≡ Some (mark_value r.mark)

-- 500
pub record IsB2bDetails (line : List ℕ) (r : B2bDetailsRecord) : Type 0 where
  pub trans : optional letter_of (field line 2) ≡ Some r.trans
  pub ticket : text_of r.ticket ≡ field line 3
  pub moment : optional moment_of (field line 4) ≡ Some r.moment
  pub reading : text_of r.reading ≡ field line 5

-- 550
pub record IsAccumulationB2bDetails (line : List ℕ) (r : AccumulationB2bDetailsRecord) : Type 0 where
  pub previous_trans : optional letter_of (field line 2) ≡ Some r.previous_trans
  pub previous_ticket : text_of r.previous_ticket ≡ field line 3
  pub current_trans : optional letter_of (field line 4) ≡ Some r.current_trans
  pub current_ticket : text_of r.current_ticket ≡ field line 5

-- the record that a line of a given kind spells
abbrev pub Spells : Kind → ℕ → List ℕ → Record → Type 0
Spells Header n line (of.Header r) = IsHeader line r
Spells NmiDataDetails n line (of.NmiDataDetails r) = IsNmiDataDetails line r
Spells AccumulationData n line (of.AccumulationData r) = IsAccumulationData line r
Spells IntervalData n line (of.IntervalData r) = IsIntervalData n line r
Spells IntervalEvent n line (of.IntervalEvent r) = IsIntervalEvent line r
Spells B2bDetails n line (of.B2bDetails r) = IsB2bDetails line r
Spells AccumulationB2bDetails n line (of.AccumulationB2bDetails r) = IsAccumulationB2bDetails line r
Spells EndOfData n line of.EndOfData = Unit {0}
Spells kind n line r = ⊥

-- How a record relates to the values that were read with it (profile). The sum of a 300 is that of its values. A value
-- is empty only if its quality is N or V. The quality of a 400 isn't V.
abbrev pub GoesWith : List (Option ℤ) → Record → Type 0
GoesWith values (of.IntervalData r) =
    (r.sum ≡ fold (λ sum value. sum +ℤ value) (pos 0) (flat_map option_to_list values))
    × ((not (r.mark.quality.flag == null) && not (r.mark.quality.flag == variable)
    && list_any (λ value. is_none value) values) ≡ false)
GoesWith values (of.IntervalEvent r) = (r.mark.quality.flag == variable) ≡ false
GoesWith values r = Unit {0}
