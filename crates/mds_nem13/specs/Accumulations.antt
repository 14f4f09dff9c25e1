-- What accumulations state.
use Rattle.std.specs.Prelude.{◌≡◌, List, ◌∷◌, map, string_bytes}
use Rattle.mds_statements.specs.Statements.{HeaderValue, PeriodStatement, Statement}
use Rattle.mds_statements.specs.Statements.Statement.{HeaderOf, PeriodOf}
use Rattle.mds_statements.specs.Contents.{content_of}
use Rattle.mds_nem13.specs.declared.accumulation.Accumulation.{Accumulation}

-- an accumulation as a 250 with its 550 records
abbrev pub period_of : Accumulation → PeriodStatement
period_of a = record {
  line = a.line;
  key = a.key;
  content = content_of (string_bytes a.content);
}

-- the statements made by accumulations
abbrev pub periods_of : List Accumulation → List Statement
periods_of accumulations = map (λ a. PeriodOf (period_of a)) accumulations

-- A file states its header, and then these accumulations.
abbrev pub AreStatedBy : List Statement → List Accumulation → Type 0
AreStatedBy statements accumulations =
    (header : HeaderValue) × (statements ≡ HeaderOf header ∷ periods_of accumulations)
