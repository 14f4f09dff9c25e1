-- What the reader of a file knows of the lines that it has taken: its private steps.
use Rattle.std.specs.Prelude.{◌≡◌, ℕ, ◌+◌, true, List, [], ◌∷◌, ◌++◌, length, Option, Some, None, Result, MatchResult}
use Rattle.mds_lines.specs.declared.line.Kind.{Kind}
use Rattle.mds_lines.specs.declared.line.Kind.TheVariants as kind
use Rattle.mds_records.specs.declared.file.FileFault.{FileFault}
use Rattle.mds_statements.specs.Statements.{PeriodStatement, Statement}
use Rattle.mds_statements.specs.Statements.Statement.{PeriodOf}
use Rattle.mds_walk.specs.Answers.{IsStop}
use Rattle.mds_walk.specs.Governing.{last_kind_of}
use Rattle.mds_walk.specs.Said.{is_headed}
use Rattle.mds_walk.specs.declared.fault.TakeFault.{TakeFault}
use Rattle.mds_nem13.specs.Answers.{MayLack}
use Rattle.mds_nem13.specs.Said.{with_notes}
use Rattle.mds_nem13.specs.Statements.{moment_of_header, notes_after, stated_from, statements}
use Rattle.mds_nem13.specs.declared.file_reader.FileReader.{FileReader}
use Rattle.mds_nem13.specs.declared.file_reader.LastRecord.{LastRecord}
use Rattle.mds_nem13.specs.declared.file_reader.LastRecord.TheVariants as state

-- the kind of the last record
abbrev pub last_kind : LastRecord → Option Kind
last_kind state.Nothing = None
last_kind (state.Header moment) = Some kind.Header
last_kind (state.Period moment) = Some kind.AccumulationData
last_kind (state.Note moment) = Some kind.AccumulationB2bDetails
last_kind state.End = Some kind.EndOfData

-- the moment of the header, while a 250 may follow
abbrev pub last_moment : LastRecord → Option ℕ
last_moment state.Nothing = None
last_moment (state.Header moment) = Some moment
last_moment (state.Period moment) = Some moment
last_moment (state.Note moment) = Some moment
last_moment state.End = None

-- The lines aren't records: they state nothing, whatever follows.
pub record IsBlank (before : List (List ℕ)) (done : List Statement) : Type 0 where
  pub none : done ≡ []
  pub moment : (more : List (List ℕ)) → moment_of_header (before ++ more) ≡ moment_of_header more
  pub stated : (moment : ℕ) (more : List (List ℕ))
      → stated_from moment 1 (before ++ more) ≡ stated_from moment (length before + 1) more

-- After a header with this moment the lines state what was passed on, whatever follows.
pub record IsClosed (before : List (List ℕ)) (moment : ℕ) (done : List Statement) : Type 0 where
  pub headed : is_headed done ≡ true
  pub moment_is : (more : List (List ℕ)) → moment_of_header (before ++ more) ≡ moment
  pub stated : (more : List (List ℕ))
      → stated_from moment 1 (before ++ more) ≡ done ++ stated_from moment (length before + 1) more

-- They state what was passed on, ending in a period that gets the notes that follow.
pub record IsOpen (before : List (List ℕ)) (moment : ℕ) (done : List Statement) : Type 0 where
  pub front : List Statement
  pub period : PeriodStatement
  pub done_is : done ≡ front ++ PeriodOf period ∷ []
  pub headed : is_headed front ≡ true
  pub moment_is : (more : List (List ℕ)) → moment_of_header (before ++ more) ≡ moment
  pub stated : (more : List (List ℕ)) → stated_from moment 1 (before ++ more)
      ≡ (front ++ PeriodOf (with_notes period (notes_after more)) ∷ []) ++ stated_from moment (length before + 1) more

abbrev pub KnowsStated : LastRecord → List (List ℕ) → List Statement → Type 0
KnowsStated state.Nothing before done = IsBlank before done
KnowsStated (state.Header moment) before done = IsClosed before moment done
KnowsStated (state.Period moment) before done = IsOpen before moment done
KnowsStated (state.Note moment) before done = IsOpen before moment done
KnowsStated state.End before done = (moment : ℕ) × IsClosed before moment done

-- These lines were taken, and these are the statements passed on.
pub record Knows (before : List (List ℕ)) (last : LastRecord) (done : List Statement) : Type 0 where
  pub previous : last_kind_of before ≡ last_kind last
  pub stated : KnowsStated last before done

-- A reader has taken these lines.
pub record HasTaken {T : Type 0} (told : T → List Statement → Type 0) (before : List (List ℕ)) (reader : FileReader T)
    : Type 0 where
  pub done : List Statement
  pub told_is : told reader.sink done
  pub knows : Knows before reader.last done

-- a line that has this fault, if it has one, is taken or refused
abbrev pub Takes : {T : Type 0} {U : Type 0} → (T → List Statement → Type 0) → List (List ℕ) → List ℕ → Option FileFault
    → Result U TakeFault → FileReader T → Type 0
Takes told before line found result new =
    MatchResult result (λ _. (found ≡ None) × HasTaken told (before ++ line ∷ []) new) (IsStop found (MayLack line found))

-- All that these lines state was passed on, the header first.
abbrev pub HasTold : {T : Type 0} → (T → List Statement → Type 0) → T → List (List ℕ) → Type 0
HasTold told sink lines = told sink (statements lines) × (is_headed (statements lines) ≡ true)
