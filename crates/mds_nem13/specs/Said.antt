-- The terms in the fields of a record. MDFF Specification, the tables of the 250 and 550 records. In a well formed text each
-- field is what its layout says. So the values defined here for other fields are never met.
use Rattle.std.specs.Prelude.{ℕ, ◌+◌, List, [], ◌∷◌, ◌++◌, pos, None, unwrap_or, option_map}
use Rattle.std.specs.Result.{result_unwrap_or}
use Rattle.mds_calendar.specs.Calendar.{moment_of}
use Rattle.mds_lines.specs.Lines.{field}
use Rattle.mds_marks.specs.Quality.{quality_of, quality_text}
use Rattle.mds_marks.specs.Reason.{code_of, code_text}
use Rattle.mds_quantity.specs.Quantity.{denoted, written}
use Rattle.mds_quantity.specs.Unit.{unit_of, unit_text}
use Rattle.mds_records.specs.Layouts.{direction_of, direction_text}
use Rattle.mds_terms.specs.Parts.{optional}
use Rattle.mds_statements.specs.Statements.{PeriodStatement}
use Rattle.mds_statements.specs.declared.periods.PeriodKey.{PeriodKey}
use Rattle.mds_walk.specs.Said.{stream_in}

-- The one form in which a field is kept. A quality, a code, a direction, a quantity and a unit are in their written form,
-- and an absent one is empty. In the other fields no two texts mean the same, so they are kept unchanged.
abbrev pub kept_quality : List ℕ → List ℕ
kept_quality text = unwrap_or (option_map quality_text (quality_of text)) []

abbrev pub kept_code : List ℕ → List ℕ
kept_code text = code_text (unwrap_or (code_of text) None)

abbrev pub kept_direction : List ℕ → List ℕ
kept_direction text = unwrap_or (option_map direction_text (direction_of text)) []

abbrev pub kept_quantity : List ℕ → List ℕ
kept_quantity text = written (result_unwrap_or (denoted text) (pos 0))

abbrev pub kept_unit : List ℕ → List ℕ
kept_unit text = unwrap_or (option_map unit_text (unit_of text)) []

-- 250: a read of a register, whose fields begin at a number
abbrev pub kept_read : List ℕ → ℕ → List (List ℕ)
kept_read line n =
    field line n ∷ field line (n + 1) ∷ kept_quality (field line (n + 2)) ∷ kept_code (field line (n + 3))
    ∷ field line (n + 4) ∷ []

-- 250: the fields from the register to the direction, and those from the quantity to the date of the next read
abbrev pub meter_fields : List ℕ → List (List ℕ)
meter_fields line =
    field line 4 ∷ field line 5 ∷ field line 6 ∷ field line 7 ∷ kept_direction (field line 8) ∷ []

abbrev pub amount_fields : List ℕ → List (List ℕ)
amount_fields line =
    kept_quantity (field line 19) ∷ kept_unit (field line 20) ∷ field line 21 ∷ []

-- 250: the fields 3 to 21; field 22, UpdateDateTime, is of the key, and the last, MSATSLoadDateTime, isn't kept
abbrev pub kept_fields : List ℕ → List (List ℕ)
kept_fields line =
    field line 3 ∷ (meter_fields line ++ kept_read line 9 ++ kept_read line 14 ++ amount_fields line)

-- 250: the stream, the register, the two reads and the update, which is the moment of the header if it is absent
abbrev pub key_in : ℕ → List ℕ → PeriodKey
key_in moment line = record {
  stream = stream_in line;
  register = field line 4;
  start = unwrap_or (moment_of (field line 10)) 0;
  finish = unwrap_or (moment_of (field line 15)) 0;
  update = unwrap_or (unwrap_or (optional moment_of (field line 22)) None) moment;
}

-- 250: what the record on the line with a number states, with these notes, under a header with this moment
abbrev pub period_in : ℕ → ℕ → List ℕ → List (List (List ℕ)) → PeriodStatement
period_in moment number line notes = record {
  line = number;
  key = key_in moment line;
  content = record { fields = kept_fields line; notes = notes };
}

-- 550: the note, a transaction and a service order for the previous read, and for the current one
abbrev pub note_in : List ℕ → List (List ℕ)
note_in line = field line 2 ∷ field line 3 ∷ field line 4 ∷ field line 5 ∷ []

-- a period with more notes
abbrev pub with_notes : PeriodStatement → List (List (List ℕ)) → PeriodStatement
with_notes period notes =
    record period { content = record { fields = period.content.fields; notes = period.content.notes ++ notes } }
