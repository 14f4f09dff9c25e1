-- What lines say that read as rows.
use Rattle.std.proofs.Common.{◌≡◌, ℕ, Bool, true, false, cond, List, Some, None, unwrap_or, ap}
use Rattle.std.specs.Result.{result_ok}
use Rattle.mds_quantity.specs.declared.unit.Unit.{Unit as MeasureUnit}
use Rattle.mds_quantity.specs.declared.unit.Unit.TheVariants.{KWh}
use Rattle.mds_calendar.specs.Length.{count_of}
use Rattle.mds_names.specs.Names.{is_name}
use Rattle.mds_names.specs.declared.stream.Stream.{Stream}
use Rattle.mds_terms.specs.Details.{DetailsValue}
use Rattle.mds_lines.specs.Lines.{field}
use Rattle.mds_records.specs.Records.{value_count}
use Rattle.mds_runs.specs.declared.cover.Run.{Run}
use Rattle.mds_walk.specs.Governing.{record_kind}
use Rattle.mds_statements.specs.Statements.{HeaderValue}
use Rattle.mds_marks.specs.Mark.{bare_null}
use Rattle.mds_nem12.specs.Said.{count_in, details_in, header_in, length_in, run_in, stream_in, unit_in}
use Rattle.mds_export.specs.ReadBack.{ReadsAs, Says, row_kind}
use Rattle.mds_export.specs.Rows.{DetailsRow, RowValue}
use Rattle.mds_export.specs.Exports.{header_row, run_row}

pub kind_of_row : (row : RowValue) (line : List ℕ) → ReadsAs row line → record_kind line ≡ Some (row_kind row)
kind_of_row row line r = ap result_ok r.kind_is

-- 100
pub header_said : (header : HeaderValue) (line : List ℕ) → Says (header_row header) line → header_in line ≡ header
header_said header line s =
    λ i. record { moment = ap (λ o. unwrap_or o 0) s.0 i; sender = s.1 i; receiver = s.2 i }

-- a name that reads as itself
name_is : (n : ℕ) (text name : List ℕ) (b : Bool) → cond b (Some text) None ≡ Some name → text ≡ name
name_is n text name true e = cc
name_is n text name false e = absurd (cc)

-- 200: its stream, the length and the unit of the intervals of its days, and their details
pub record Block : Type 0 where
  pub stream : Stream
  pub length : ℕ
  pub unit : MeasureUnit
  pub details : DetailsValue

pub record SaysBlock (line : List ℕ) (block : Block) : Type 0 where
  pub stream : stream_in line ≡ block.stream
  pub length : length_in line ≡ block.length
  pub count : count_in line ≡ count_of block.length
  pub unit : unit_in line ≡ block.unit
  pub details : details_in line ≡ block.details

pub block_said : (stream : Stream) (details : DetailsValue) (unit : MeasureUnit) (minutes : ℕ) (line : List ℕ)
    → Says (DetailsRow stream details unit minutes) line → SaysBlock line (record { stream = stream; length = minutes; unit = unit; details = details })
block_said stream details unit minutes line s =
    let nmi = name_is 10 (field line 2) stream.nmi (is_name 10 (field line 2)) s.0 in
    let suffix = name_is 2 (field line 5) stream.suffix (is_name 2 (field line 5)) s.3 in
    record {
      stream = λ i. record { nmi = nmi i; suffix = suffix i };
      length = ap (λ o. unwrap_or o 0) s.7;
      count = ap value_count s.7;
      unit = ap (λ o. unwrap_or o KWh) s.6;
      details = λ i. record {
        configuration = s.1 i;
        register = s.2 i;
        datastream = s.4 i;
        meter = s.5 i;
        next = ap (λ o. unwrap_or o None) s.8 i;
      };
    }

-- 400
pub run_said : (run : Run) (line : List ℕ) → Says (run_row run) line → run_in line ≡ run
run_said run line s = λ i. record {
  first = ap (λ o. unwrap_or o 0) s.0 i;
  last = ap (λ o. unwrap_or o 0) s.1 i;
  mark = ap (λ o. unwrap_or o bare_null) s.2 i;
}
