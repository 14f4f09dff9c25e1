-- What a well formed NEM13 text states, in the order of its lines. MDFF Specification, the 100, 250 and 550 records.
use Rattle.std.specs.Prelude.{ℕ, ◌+◌, if◌then◌else◌, List, [], ◌∷◌, ◌++◌, Option, Some, None}
use Rattle.mds_lines.specs.declared.line.Kind.{Kind}
use Rattle.mds_lines.specs.declared.line.Kind.TheVariants.{Header, AccumulationData, AccumulationB2bDetails}
use Rattle.mds_statements.specs.Statements.{Statement}
use Rattle.mds_statements.specs.Statements.Statement.{HeaderOf, PeriodOf}
use Rattle.mds_walk.specs.Faults.{lines_of}
use Rattle.mds_walk.specs.Governing.{is_of, record_kind}
use Rattle.mds_walk.specs.Said.{header_in}
use Rattle.mds_nem13.specs.Said.{note_in, period_in}

-- the notes from a line of this kind on, given those after it. A 550 is a note, a line that isn't a record is skipped,
-- and any other record ends the notes
abbrev pub notes_from : Option Kind → List ℕ → List (List (List ℕ)) → List (List (List ℕ))
notes_from None line further = further
notes_from (Some AccumulationB2bDetails) line further = note_in line ∷ further
notes_from (Some kind) line further = []

-- the notes of a 250: the 550 lines after it, up to the next record that isn't a 550
abbrev pub notes_after : List (List ℕ) → List (List (List ℕ))
notes_after [] = []
notes_after (line ∷ more) = notes_from (record_kind line) line (notes_after more)

-- what a line of a kind states, with its number and the lines after it, under a header with this moment
abbrev pub stated_by : ℕ → ℕ → Option Kind → List ℕ → List (List ℕ) → List Statement
stated_by moment number (Some Header) line more = HeaderOf (header_in line) ∷ []
stated_by moment number (Some AccumulationData) line more = PeriodOf (period_in moment number line (notes_after more)) ∷ []
stated_by moment number kind line more = []

-- what lines state, where the first has this number
abbrev pub stated_from : ℕ → ℕ → List (List ℕ) → List Statement
stated_from moment number [] = []
stated_from moment number (line ∷ more) =
    stated_by moment number (record_kind line) line more ++ stated_from moment (number + 1) more

-- the moment of the header, the first 100
abbrev pub moment_of_header : List (List ℕ) → ℕ
moment_of_header [] = 0
moment_of_header (line ∷ more) = if is_of Header line then (header_in line).moment else moment_of_header more

unfoldable pub statements : List (List ℕ) → List Statement
statements lines = stated_from (moment_of_header lines) 1 lines

-- the statements of a text
unfoldable pub statements_of : List ℕ → List Statement
statements_of text = statements (lines_of text)
