-- The registers of gaps and of finals (profile): CSV texts with a head row and a row for each, as the library csv writes
-- rows by default. A date is the one text that reads as its day.
use Rattle.std.specs.Prelude.{◌≡◌, ℕ, List, [], ◌∷◌, ◌++◌, codes, decimal, Some}
use Rattle.csv.specs.Writing.{default_writer, row_text}
use Rattle.mds_calendar.specs.Calendar.{day_of}
use Rattle.mds_names.specs.declared.stream.Stream.{Stream}
use Rattle.mds_marks.specs.Quality.{two_digits}
use Rattle.mds_marks.specs.Reason.{code_text}
use Rattle.mds_registers.specs.declared.writing.FinalRow.{FinalRow}
use Rattle.mds_registers.specs.declared.writing.GapRow.{GapRow}

-- The text of rows: each is written with the text of its day.
abbrev pub AreRows : {Row : Type 0} → (Row → ℕ) → (Row → List ℕ → List (List ℕ)) → List Row → List ℕ → Type 0
AreRows day_in fields [] text = text ≡ []
AreRows day_in fields (row ∷ rows) text =
    (date : List ℕ) × (rest : List ℕ) × (day_of date ≡ Some (day_in row))
    × (text ≡ row_text default_writer (fields row date) ++ rest) × AreRows day_in fields rows rest

-- the head rows
abbrev pub gaps_head : List (List ℕ)
gaps_head = codes "nmi" ∷ codes "suffix" ∷ codes "date" ∷ codes "first" ∷ codes "last" ∷ []

abbrev pub finals_head : List (List ℕ)
finals_head =
    codes "nmi" ∷ codes "suffix" ∷ codes "date" ∷ codes "first" ∷ codes "last" ∷ codes "method" ∷ codes "code"
    ∷ codes "text" ∷ []

-- the head row of gaps as it is written
abbrev pub gaps_head_text : List ℕ
gaps_head_text = row_text default_writer gaps_head

-- the fields of a gap
abbrev pub gap_fields : Stream → GapRow → List ℕ → List (List ℕ)
gap_fields stream row date =
    stream.nmi ∷ stream.suffix ∷ date ∷ decimal row.gap.first ∷ decimal row.gap.last ∷ []

-- the fields of a final: an absent code is empty
abbrev pub final_fields : Stream → FinalRow → List ℕ → List (List ℕ)
final_fields stream row date =
    let mark = row.stretch.mark in
    stream.nmi ∷ stream.suffix ∷ date ∷ decimal row.stretch.first ∷ decimal row.stretch.last
    ∷ two_digits mark.quality.method ∷ code_text mark.reason.code ∷ mark.reason.text ∷ []

-- the rows of a stream's gaps, without a head row
abbrev pub AreGapRowsText : Stream → List GapRow → List ℕ → Type 0
AreGapRowsText stream rows text = AreRows (λ row. row.day) (gap_fields stream) rows text

-- a register: a head row, and the text of its rows
abbrev pub IsRegister : (head : List (List ℕ)) → (IsOfRows : List ℕ → Type 0) → List ℕ → Type 0
IsRegister head IsOfRows text = (rest : List ℕ) × (text ≡ row_text default_writer head ++ rest) × IsOfRows rest

-- the registers of a stream
abbrev pub IsGapsText : Stream → List GapRow → List ℕ → Type 0
IsGapsText stream rows text = IsRegister gaps_head (AreGapRowsText stream rows) text

abbrev pub IsFinalsText : Stream → List FinalRow → List ℕ → Type 0
IsFinalsText stream rows text = IsRegister finals_head (AreRows (λ row. row.day) (final_fields stream) rows) text
