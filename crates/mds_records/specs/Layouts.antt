-- The layouts of the records, each as one row of a table: what its fields hold, from field 2 on. MDFF Specification,
-- the tables of the 100, 200, 250, 300, 400, 500, 550 and 900 records. Which fields may be empty, how long a text may
-- be and which fields may be left out is this project's profile.
use Rattle.std.specs.Prelude.{ℕ, ◌+◌, Bool, true, false, ◌&&◌, ◌==◌, nat_le, if◌then◌else◌, List, [], ◌∷◌, ◌++◌, length, replicate, codes, bytes_eq, Option, Some, None, is_some, is_ok}
use Rattle.std.specs.List.{list_all, list_any}
use Rattle.mds_quantity.specs.Quantity.{denoted}
use Rattle.mds_quantity.specs.Unit.{unit_of}
use Rattle.mds_calendar.specs.Calendar.{day_of, moment_of, date_time_of}
use Rattle.mds_calendar.specs.Length.{length_of}
use Rattle.mds_names.specs.Names.{nmi_of, suffix_of}
unfoldable pub use Rattle.mds_marks.specs.Digits.{interval_number_of}
use Rattle.mds_marks.specs.Quality.{QualityValue, quality_of}
use Rattle.mds_marks.specs.Reason.{code_of, is_reason_text}
use Rattle.mds_terms.specs.Event.{letter_of}
use Rattle.mds_terms.specs.Printable.{is_printable}
use Rattle.mds_lines.specs.declared.line.Kind.{Kind}
use Rattle.mds_lines.specs.declared.line.Kind.TheVariants.{Header, NmiDataDetails, AccumulationData, IntervalData, IntervalEvent, B2bDetails, AccumulationB2bDetails, EndOfData}
use Rattle.mds_records.specs.declared.direction.Direction.{Direction}
use Rattle.mds_records.specs.declared.direction.Direction.TheVariants.{Import, Export}
use Rattle.mds_records.specs.declared.file.FileKind.{FileKind}
use Rattle.mds_records.specs.declared.file.FileKind.TheVariants as kind
use Rattle.mds_records.specs.declared.header_name.HeaderName.{HeaderName}
use Rattle.mds_records.specs.declared.header_name.HeaderName.TheVariants.{Nem12, Nem13}

-- what a field that isn't empty must be
pub data Form : Type 0 where
  FileName : Form
  DateTime : Form
  Printable : Form
  NmiName : Form
  SuffixName : Form
  UnitName : Form
  LengthInMinutes : Form
  DayDate : Form
  Value : Form
  IntervalNumber : Form
  QualityMethod : Form
  SingleQuality : Form
  ReasonNumber : Form
  ReasonWords : Form
  MomentTime : Form
  TransLetter : Form
  DirectionLetter : Form
  Nothing : Form

-- the name in the headers of a kind of file
abbrev pub header_name : FileKind → HeaderName
header_name kind.Nem12 = Nem12
header_name kind.Nem13 = Nem13

-- the name of a kind of file, in field 2 of its header
abbrev pub file_name : HeaderName → List ℕ
file_name Nem12 = codes "NEM12"
file_name Nem13 = codes "NEM13"

-- the name of the other kind
abbrev pub other_file_name : HeaderName → List ℕ
other_file_name Nem12 = codes "NEM13"
other_file_name Nem13 = codes "NEM12"

-- the direction that a letter denotes
abbrev pub direction_of : List ℕ → Option Direction
direction_of text =
    if bytes_eq text (codes "I") then Some Import
    else (if bytes_eq text (codes "E") then Some Export else None)

-- the letter of a direction
abbrev pub direction_text : Direction → List ℕ
direction_text Import = codes "I"
direction_text Export = codes "E"

-- a quality's flag is one of these letters
abbrev pub has_flag : List ℕ → Option QualityValue → Bool
has_flag letters None = false
has_flag letters (Some quality) = list_any (λ letter. quality.flag == letter) letters

-- A quality that means that there are values: actual, or estimated, final substituted or substituted by a method. Null
-- and variable don't, and a text that isn't a quality says nothing about values.
abbrev pub means_values : List ℕ → Bool
means_values quality = has_flag (codes "AEFS") (quality_of quality)

-- the quality of a run, or of a read of a register: any but variable, which means that runs follow
abbrev pub is_single_quality : List ℕ → Bool
is_single_quality quality = has_flag (codes "AEFNS") (quality_of quality)

-- a field that isn't empty has its form
abbrev pub fits : HeaderName → Form → List ℕ → Bool
fits file FileName text = bytes_eq text (file_name file)
fits file DateTime text = is_some (date_time_of text)
fits file Printable text = is_printable text
fits file NmiName text = is_some (nmi_of text)
fits file SuffixName text = is_some (suffix_of text)
fits file UnitName text = is_some (unit_of text)
fits file LengthInMinutes text = is_some (length_of text)
fits file DayDate text = is_some (day_of text)
fits file Value text = is_ok (denoted text)
fits file IntervalNumber text = is_some (interval_number_of text)
fits file QualityMethod text = is_some (quality_of text)
fits file SingleQuality text = is_single_quality text
fits file ReasonNumber text = is_some (code_of text)
fits file ReasonWords text = is_reason_text text
fits file MomentTime text = is_some (moment_of text)
fits file TransLetter text = is_some (letter_of text)
fits file DirectionLetter text = is_some (direction_of text)
fits file Nothing text = false

-- a field: whether it may be empty, and what it must be otherwise
pub record Rule : Type 0 where
  pub may_be_empty : Bool
  pub form : Form

abbrev pub must : Form → Rule
must form = record { may_be_empty = false; form = form }

abbrev pub may : Form → Rule
may form = record { may_be_empty = true; form = form }

-- a read of a register: what it shows, when, and the quality of that with its reason
abbrev pub read_layout : Rule → List Rule
read_layout quality = may Printable ∷ must MomentTime ∷ quality ∷ may ReasonNumber ∷ may ReasonWords ∷ []

-- The fields after the indicator; a 300 has n values, which may be empty or not. A 250 has two reads, the previous and
-- the current.
abbrev pub layout : Kind → ℕ → Bool → List Rule
layout Header n values_may_be_empty = must FileName ∷ must DateTime ∷ may Printable ∷ may Printable ∷ []
layout NmiDataDetails n values_may_be_empty =
    must NmiName ∷ may Printable ∷ may Printable ∷ must SuffixName ∷ may Printable ∷ may Printable ∷ must UnitName
    ∷ must LengthInMinutes ∷ may DayDate ∷ []
layout AccumulationData n values_may_be_empty =
    must NmiName ∷ may Printable ∷ may Printable ∷ must SuffixName ∷ may Printable ∷ may Printable ∷ must DirectionLetter
    ∷ read_layout (may SingleQuality) ++ read_layout (must SingleQuality)
    ++ must Value ∷ must UnitName ∷ may DayDate ∷ may MomentTime ∷ may MomentTime ∷ []
layout IntervalData n values_may_be_empty =
    must DayDate ∷ replicate n (record { may_be_empty = values_may_be_empty; form = Value })
    ++ must QualityMethod ∷ may ReasonNumber ∷ may ReasonWords ∷ may MomentTime ∷ may MomentTime ∷ []
layout IntervalEvent n values_may_be_empty =
    must IntervalNumber ∷ must IntervalNumber ∷ must SingleQuality ∷ may ReasonNumber ∷ may ReasonWords ∷ []
layout B2bDetails n values_may_be_empty = may TransLetter ∷ may Printable ∷ may MomentTime ∷ may Printable ∷ []
layout AccumulationB2bDetails n values_may_be_empty =
    may TransLetter ∷ may Printable ∷ may TransLetter ∷ may Printable ∷ []
layout EndOfData n values_may_be_empty = []

-- the least number of fields, the indicator included: trailing fields may be left out down to it
abbrev pub least_count : Kind → ℕ → ℕ
least_count Header n = 3
least_count NmiDataDetails n = 9
least_count AccumulationData n = 20
least_count IntervalData n = n + 3
least_count IntervalEvent n = 4
least_count kind n = 1
