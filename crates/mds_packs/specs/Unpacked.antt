-- The readings of the day whose body the bytes are, as they are read from the left (profile). The last definition states
-- it. Those before it are its steps.
use Rattle.std.specs.Prelude.{ℕ, zero, suc, ℤ, unsigned_abs, not, ◌&&◌, ◌==◌, nat_lt, if◌then◌else◌, List, [], ◌∷◌, Option, Some, None, length, take, drop}
use Rattle.std.specs.Int.{Width, w16, w64, byte_len, from_be_bytes, cast_signed}
use Rattle.mds_quantity.specs.Quantity.{limit}
use Rattle.mds_marks.specs.Quality.{null}
use Rattle.mds_marks.specs.Mark.{is_mark}
use Rattle.mds_marks.specs.Reading.{ReadingValue, joined}
use Rattle.mds_marks.specs.declared.mark.Mark.{Mark}
use Rattle.mds_runs.specs.declared.cover.Run.{Run}
use Rattle.mds_runs.specs.GapSteps.{are_parted, marks_after}

-- a step that may fail, and then the next step
infixl 10 ◌>>=◌
abbrev pub ◌>>=◌ : {A B : Type 0} → Option A → (A → Option B) → Option B
None >>= f = None
(Some x) >>= f = f x

-- a number, and the bytes after it
abbrev pub number_at : Width → List ℕ → Option (ℕ × List ℕ)
number_at w bytes = if nat_lt (length bytes) (byte_len w) then None else Some (from_be_bytes w (take (byte_len w) bytes), drop (byte_len w) bytes)

-- a byte, and the bytes after it
abbrev pub byte_at : List ℕ → Option (ℕ × List ℕ)
byte_at [] = None
byte_at (byte ∷ rest) = Some (byte, rest)

-- a text after its length, and the bytes after the text
unfoldable pub text_at : List ℕ → Option (List ℕ × List ℕ)
text_at bytes = do
  n ← number_at w16 bytes
  if nat_lt (length n.1) n.0 then None else Some (take n.0 n.1, drop n.0 n.1)

-- the fields of a run
pub record PartsValue : Type 0 where
  pub first : ℕ
  pub last : ℕ
  pub flag : ℕ
  pub method : ℕ
  pub code : ℕ
  pub text : List ℕ

-- these fields, and the bytes after them
unfoldable pub parts_at : List ℕ → Option (PartsValue × List ℕ)
parts_at bytes = do
  first ← number_at w16 bytes
  last ← number_at w16 first.1
  flag ← byte_at last.1
  method ← byte_at flag.1
  code ← number_at w16 method.1
  text ← text_at code.1
  Some (record { first = first.0; last = last.0; flag = flag.0; method = method.0; code = code.0; text = text.0 }, text.1)

-- the code denoted by a number
abbrev pub code_in : ℕ → Option ℕ
code_in n = if n == 0xFFFF then None else Some n

-- the mark in these fields
abbrev pub mark_said : PartsValue → Mark
mark_said p = record { quality = record { flag = p.flag; method = p.method }; reason = record { code = code_in p.code; text = p.text } }

-- the run in these fields, if its mark is lawful
unfoldable pub run_in : PartsValue → Option Run
run_in p =
    if is_mark (mark_said p)
    then Some (record { first = p.first; last = p.last; mark = mark_said p }) else None

-- this many runs, and the bytes after them
unfoldable pub runs_at : ℕ → List ℕ → Option (List Run × List ℕ)
runs_at zero bytes = Some ([], bytes)
runs_at (suc n) bytes = do
  parts ← parts_at bytes
  run ← run_in parts.0
  others ← runs_at n parts.1
  Some (run ∷ others.0, others.1)

-- the value of a reading with this flag, and the bytes after it. N has no value
unfoldable pub value_at : ℕ → List ℕ → Option (Option ℤ × List ℕ)
value_at flag bytes =
    if flag == null then Some (None, bytes)
    else (number_at w64 bytes >>= λ n.
    if nat_lt (unsigned_abs (cast_signed w64 n.0)) limit then Some (Some (cast_signed w64 n.0), n.1) else None)

-- the reading with this mark, and the bytes after it
unfoldable pub reading_at : Mark → List ℕ → Option (ReadingValue × List ℕ)
reading_at mark bytes = do
  value ← value_at mark.quality.flag bytes
  reading ← joined mark value.0
  Some (reading, value.1)

-- the readings of intervals with these marks, none in a gap, and the bytes after them
abbrev pub readings_at : List (Option Mark) → List ℕ → Option (List (Option ReadingValue) × List ℕ)
readings_at [] bytes = Some ([], bytes)
readings_at (None ∷ marks) bytes = do
  others ← readings_at marks bytes
  Some (None ∷ others.0, others.1)
readings_at (Some mark ∷ marks) bytes = do
  reading ← reading_at mark bytes
  others ← readings_at marks reading.1
  Some (Some reading.0 ∷ others.0, others.1)

-- the runs of a day of `count` intervals, and the bytes after them
unfoldable pub head_at : ℕ → List ℕ → Option (List Run × List ℕ)
head_at count bytes = do
  version ← byte_at bytes
  places ← number_at w16 version.1
  number ← number_at w16 places.1
  if not ((version.0 == 1) && (places.0 == count) && nat_lt 0 number.0) then None else (do
    runs ← runs_at number.0 number.1
    if are_parted count None runs.0 then Some runs else None)

-- the readings of the day of `count` intervals whose body the bytes are, if they are one
unfoldable pub unpacked : ℕ → List ℕ → Option (List (Option ReadingValue))
unpacked count bytes = do
  head ← head_at count bytes
  readings ← readings_at (marks_after count 0 head.0) head.1
  if length readings.1 == 0 then Some readings.0 else None
