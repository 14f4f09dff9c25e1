-- The packed body of a day: its readings of one update, as bytes (profile). A number has its most significant byte first.
use Rattle.std.specs.Prelude.{◌≡◌, ℕ, ℤ, Bool, true, IsTrue, List, [], ◌∷◌, ◌++◌, Option, Some, None, is_some, length, map}
use Rattle.std.specs.List.{flat_map, list_all, list_any}
use Rattle.std.specs.Int.{w16, w64, to_be_bytes, cast_unsigned}
use Rattle.mds_marks.specs.Reading.{ReadingValue, is_lawful}
use Rattle.mds_marks.specs.declared.mark.Mark.{Mark}
use Rattle.mds_runs.specs.declared.cover.Run.{Run}
use Rattle.mds_runs.specs.Gaps.{runs_of}

-- the two bytes of a number below 2 ^ 16
abbrev pub two : ℕ → List ℕ
two n = to_be_bytes w16 n

-- a reason's code, or the number for no code
abbrev pub code_number : Option ℕ → ℕ
code_number None = 0xFFFF
code_number (Some n) = n

-- a mark: its flag, its method, its reason's code, the number of bytes in its reason's text, and that text
abbrev pub mark_bytes : Mark → List ℕ
mark_bytes m =
    (m.quality.flag ∷ m.quality.method ∷ []) ++ two (code_number m.reason.code)
    ++ two (length m.reason.text) ++ m.reason.text

-- a run: its first interval, its last, and its mark
abbrev pub run_bytes : Run → List ℕ
run_bytes run = two run.first ++ two run.last ++ mark_bytes run.mark

-- a value in millionths, as two's complement of eight bytes, or nothing if there is no value
abbrev pub value_bytes : Option ℤ → List ℕ
value_bytes None = []
value_bytes (Some z) = to_be_bytes w64 (cast_unsigned w64 z)

-- the part of a body for one interval: the value of a held reading, or nothing
abbrev pub reading_bytes : Option ReadingValue → List ℕ
reading_bytes None = []
reading_bytes (Some r) = value_bytes r.value

-- the mark of a held reading
abbrev pub mark_in : Option ReadingValue → Option Mark
mark_in None = None
mark_in (Some r) = Some r.mark

-- the marks of readings, with a gap for each that isn't held
abbrev pub marks_of : List (Option ReadingValue) → List (Option Mark)
marks_of readings = map mark_in readings

-- the runs of these marks
abbrev pub runs_in : List (Option ReadingValue) → List Run
runs_in readings = runs_of 1 (marks_of readings)

-- the one body of readings: its version, the number of intervals in the day, the number of runs, the runs, the values
unfoldable pub body_of : List (Option ReadingValue) → List ℕ
body_of readings =
    (1 ∷ []) ++ two (length readings) ++ two (length (runs_in readings)) ++ flat_map run_bytes (runs_in readings)
    ++ flat_map reading_bytes readings

-- a reading that is held is lawful
abbrev pub is_held_lawful : Option ReadingValue → Bool
is_held_lawful None = true
is_held_lawful (Some r) = is_lawful r

-- the readings of a day of `count` intervals: each is lawful, and at least one is held
pub record IsDay (count : ℕ) (readings : List (Option ReadingValue)) : Type 0 where
  pub places : length readings ≡ count
  pub lawful : IsTrue (list_all is_held_lawful readings)
  pub held : IsTrue (list_any (λ reading. is_some reading) readings)
