-- What rows say of accumulations that queries show. A shown row has all columns of its table, and no rowid before them.
use Rattle.std.specs.Prelude.{◌≡◌, ◌+◌, ℕ, List, [], ◌∷◌, length, Option, Some, None, IsTrue}
use Rattle.std.specs.Str.{is_utf8}
use Rattle.sqlite.specs.declared.types.Value.TheVariants.{Null, Text}
use Rattle.sqlite_value.specs.Order.{Row, column}
use Rattle.mds_statements.specs.Bodies.{IsPeriodBody, content_of_body}
use Rattle.mds_statements.specs.Contents.{content_of, text_of}
use Rattle.mds_statements.specs.declared.periods.Period.{Period}
use Rattle.mds_statements.specs.declared.periods.PeriodKey.{PeriodKey}
use Rattle.mds_world.specs.Facts.{PeriodContent}
use Rattle.mds_world.specs.Facts.Fact.{PeriodIs}
use Rattle.mds_terms.specs.Printable.{is_printable}
use Rattle.mds_tables.specs.Cells.{period_cells}
use Rattle.mds_tables.specs.RowFacts.{natural_at, period_fact, stream_in, text_at}
use Rattle.mds_tables.specs.Written.{IsMoment, IsStream}

-- a column is the body of an accumulation, as the store writes it, and some text says its content
pub record IsBodyAt (row : Row) (at : ℕ) (period : Period) : Type 0 where
  pub body : List ℕ
  pub cell : column row at ≡ Text body
  pub utf8 : IsTrue (is_utf8 body)
  pub holds : IsPeriodBody period body
  pub says : content_of (text_of period.content) ≡ period.content

-- a row is one that the store writes for the accumulation
pub record IsRowOfPeriod (row : Row) (period : Period) : Type 0 where
  pub written : IsBodyAt row 6 period
  pub cells : row ≡ period_cells period.key written.body
  pub stream : IsStream period.key.stream
  pub register : IsTrue (is_printable period.key.register)
  pub start : IsMoment period.key.start
  pub finish : IsMoment period.key.finish
  pub update : IsMoment period.key.update

-- the bytes of its register, and of the text of its content
abbrev pub text_length : Period → ℕ
text_length period = length period.key.register + length (text_of period.content)

-- the key of a row
abbrev pub shown_key : Row → PeriodKey
shown_key row = record {
  stream = stream_in (Null ∷ row);
  register = text_at row 2;
  start = natural_at row 3;
  finish = natural_at row 4;
  update = natural_at row 5;
}

-- the row says the accumulation
abbrev pub SaysPeriod : Row → Period → Type 0
SaysPeriod row period = period_fact (Null ∷ row) ≡ PeriodIs period.key period.content

-- each row's accumulation, in the order of the rows
abbrev pub ArePeriodsIn : List Row → List Period → Type 0
ArePeriodsIn [] [] = Unit {0}
ArePeriodsIn (row ∷ rows) (period ∷ periods) = SaysPeriod row period × ArePeriodsIn rows periods
ArePeriodsIn [] (period ∷ periods) = ⊥
ArePeriodsIn (row ∷ rows) [] = ⊥

-- a column is a body that says the content
abbrev pub SaysContent : Row → ℕ → PeriodContent → Type 0
SaysContent row at content = content_of_body (text_at row at) ≡ content

-- the content that the body in the only row says
abbrev pub IsOnlyContent : List Row → Option PeriodContent → Type 0
IsOnlyContent rows None = rows ≡ []
IsOnlyContent rows (Some content) = (row : Row) × (rows ≡ row ∷ []) × SaysContent row 0 content
