-- The body of a substitution job: the text that a store keeps of it next to its id (profile). It is twelve written texts
-- joined by commas.
use Rattle.std.specs.Prelude.{◌≡◌, ◌<◌, ◌^◌, ℕ, ◌&&◌, ◌==◌, if◌then◌else◌, List, [], ◌∷◌, length as size, IsTrue, decimal, Option, Some, None, unwrap_or}
use Rattle.std.specs.Char.{is_ascii_uppercase}
use Rattle.std.specs.List.{slice_index_or, slice_split}
use Rattle.std.specs.Str.Parse.{IsNumeral, digits_value}
use Rattle.mds_quantity.specs.Unit.{unit_of, unit_text}
use Rattle.mds_quantity.specs.declared.unit.Unit.{Unit as MeasureUnit}
use Rattle.mds_quantity.specs.declared.unit.Unit.TheVariants.{MWh}
use Rattle.mds_calendar.specs.Calendar.{day_of, moment_of}
use Rattle.mds_calendar.specs.Length.{is_length, length_of}
use Rattle.mds_names.specs.Names.{is_comma, is_name, nmi_of, suffix_of}
use Rattle.mds_marks.specs.Reason.{code_of, code_text, is_reason, reason_of}
use Rattle.mds_terms.specs.Parts.{joined}
use Rattle.mds_world.specs.Facts.{JobContent}

-- the text of a quality flag: a capital letter, or nothing for any other flag, which no job that can be done has
abbrev pub flag_text : ℕ → List ℕ
flag_text flag = if is_ascii_uppercase flag then flag ∷ [] else []

-- The body of a job: stream, day, first and last interval, length, unit, method, flag, code and text of the reason, and
-- update. The day and the update are the texts that read as them, so a job has one body.
pub record IsJobBody (job : JobContent) (body : List ℕ) : Type 0 where
  pub date : List ℕ
  pub update : List ℕ
  pub day : day_of date ≡ Some job.day
  pub moment : moment_of update ≡ Some job.update
  pub texts : body
      ≡ joined (job.stream.nmi ∷ job.stream.suffix ∷ date ∷ decimal job.first ∷ decimal job.last ∷ decimal job.length
      ∷ unit_text job.unit ∷ decimal job.method ∷ flag_text job.flag ∷ code_text job.code ∷ job.text ∷ update ∷ [])

-- what the types of a job's parts guarantee, and a flag that is a capital letter
pub record IsLawfulJob (job : JobContent) : Type 0 where
  pub nmi : IsTrue (is_name 10 job.stream.nmi)
  pub suffix : IsTrue (is_name 2 job.stream.suffix)
  pub first : job.first < 2 ^ 16
  pub last : job.last < 2 ^ 16
  pub length : IsTrue (is_length job.length)
  pub method : job.method < 2 ^ 8
  pub flag : IsTrue (is_ascii_uppercase job.flag)
  pub reason : IsTrue (is_reason job.code job.text)

-- the texts of a line between its commas
abbrev pub parts_of : List ℕ → List (List ℕ)
parts_of line = slice_split is_comma line

-- the text at an index, counted from 0
abbrev pub part_at : List (List ℕ) → ℕ → List ℕ
part_at parts at = slice_index_or parts at []

-- a text spells this number, of at most this many bits, in decimal digits
pub record Writes (bits : ℕ) (text : List ℕ) (number : ℕ) : Type 0 where
  pub numeral : IsNumeral 10 text
  pub value : digits_value 10 text ≡ number
  pub small : number < 2 ^ bits

-- the quality flag of a text: one capital letter
abbrev pub flag_of : List ℕ → Option ℕ
flag_of text =
    if (size text == 1) && is_ascii_uppercase (slice_index_or text 0 0) then Some (slice_index_or text 0 0) else None

-- Twelve texts are read as the parts of this job, in the order of its body. A number may have leading zeros.
pub record AreJobParts (parts : List (List ℕ)) (job : JobContent) : Type 0 where
  pub twelve : size parts ≡ 12
  pub nmi : nmi_of (part_at parts 0) ≡ Some job.stream.nmi
  pub suffix : suffix_of (part_at parts 1) ≡ Some job.stream.suffix
  pub day : day_of (part_at parts 2) ≡ Some job.day
  pub first : Writes 16 (part_at parts 3) job.first
  pub last : Writes 16 (part_at parts 4) job.last
  pub length : length_of (part_at parts 5) ≡ Some job.length
  pub unit : unit_of (part_at parts 6) ≡ Some job.unit
  pub method : Writes 8 (part_at parts 7) job.method
  pub flag : flag_of (part_at parts 8) ≡ Some job.flag
  pub reason : reason_of (part_at parts 9) (part_at parts 10) ≡ Some (record { code = job.code; text = job.text })
  pub update : moment_of (part_at parts 11) ≡ Some job.update

-- The unit of a text. A text that isn't a unit, which the store never writes, is taken as MWh.
abbrev pub unit_named : List ℕ → MeasureUnit
unit_named text = unwrap_or (unit_of text) MWh

-- The job in the texts of a body: stream, day, first and last interval, length, unit, method, flag, reason and update. A
-- text that isn't of its kind, which the store never writes, has a default.
abbrev pub job_in : List (List ℕ) → JobContent
job_in parts =
    let part : ℕ → List ℕ = λ at. slice_index_or parts at [] in
    record {
      stream = record { nmi = part 0; suffix = part 1 };
      day = unwrap_or (day_of (part 2)) 0;
      first = digits_value 10 (part 3);
      last = digits_value 10 (part 4);
      length = unwrap_or (length_of (part 5)) 0;
      unit = unit_named (part 6);
      method = digits_value 10 (part 7);
      flag = slice_index_or (part 8) 0 0;
      code = unwrap_or (code_of (part 9)) None;
      text = part 10;
      update = unwrap_or (moment_of (part 11)) 0;
    }
