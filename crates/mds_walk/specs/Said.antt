-- The terms of records that both kinds of files have. MDFF Specification, the tables of the 100, 200 and 250 records. In a well
-- formed text each field is what its layout says. So the values defined here for other fields are never met.
use Rattle.std.specs.Prelude.{ℕ, Bool, List, ◌∷◌, Option, Some, None, is_some, unwrap_or}
use Rattle.mds_calendar.specs.Calendar.{date_time_of}
use Rattle.mds_lines.specs.Lines.{field}
use Rattle.mds_records.specs.declared.header.HeaderRecord.{HeaderRecord}
use Rattle.mds_names.specs.declared.stream.Stream.{Stream}
use Rattle.mds_statements.specs.Statements.{HeaderValue, Statement}
use Rattle.mds_statements.specs.Statements.Statement.{HeaderOf}
use Rattle.mds_terms.specs.BorrowedTexts.{text_of}

-- 100: when the file was made, by whom and for whom
abbrev pub header_in : List ℕ → HeaderValue
header_in line = record {
  moment = unwrap_or (date_time_of (field line 3)) 0;
  sender = field line 4;
  receiver = field line 5;
}

-- the terms of a 100 that was read
abbrev pub header_said : HeaderRecord → HeaderValue
header_said r = record { moment = r.moment; sender = text_of r.sender; receiver = text_of r.receiver }

-- 200 and 250: the stream
abbrev pub stream_in : List ℕ → Stream
stream_in line = record { nmi = field line 2; suffix = field line 5 }

-- the moment of the header, if it comes first
abbrev pub header_moment : List Statement → Option ℕ
header_moment (HeaderOf header ∷ more) = Some header.moment
header_moment statements = None

abbrev pub is_headed : List Statement → Bool
is_headed statements = is_some (header_moment statements)
