-- What the rows of tables say, as facts (profile). A row of a tree is its rowid, followed by its columns, numbered from 1.
-- Each row of these tables names one fact, no matter who wrote it.
use Rattle.std.specs.Prelude.{ℕ, ◌+◌, ◌^◌, ℤ, pos, negsuc, List, [], ◌∷◌, ◌++◌, map, Option, Some, None, unwrap_or, ◌==◌, if◌then◌else◌}
use Rattle.std.proofs.Common.{suc, zero}
use Rattle.sqlite_rules.specs.Edit.{id_in}
use Rattle.sqlite_trees.specs.Tree.{Trees}
use Rattle.sqlite_value.specs.Order.{Row, bytes, column}
use Rattle.mds_names.specs.declared.stream.Stream.{Stream}
use Rattle.mds_marks.specs.Quality.{QualityValue, null, quality_of}
use Rattle.mds_marks.specs.Reading.{ReadingValue}
use Rattle.mds_jobs.specs.Bodies.{job_in, parts_of}
pub use Rattle.mds_jobs.specs.Bodies.{unit_named}
use Rattle.mds_statements.specs.Bodies.{content_of_body}
use Rattle.mds_terms.specs.Details.{DetailsValue}
use Rattle.mds_world.specs.declared.facts.Key.{Key}
use Rattle.mds_world.specs.Facts.{Fact, detail_at, head_at, key_at}
use Rattle.mds_world.specs.Facts.Fact.{DetailIs, EventIs, HeadIs, HolidayIs, JobIs, PeriodIs, VersionIs}
use Rattle.mds_tables.specs.Tables.{event_tree, head_tree, holiday_tree, job_tree, period_tree, version_tree}

abbrev pub text_at : Row → ℕ → List ℕ
text_at row at = bytes (column row at)

abbrev pub int_at : Row → ℕ → ℤ
int_at row at = id_in (column row at)

-- A whole number as a count. One below 0, which the store never writes, counts as one above all that it writes.
abbrev pub natural : ℤ → ℕ
natural (pos n) = n
natural (negsuc n) = 2 ^ 63 + n

-- -1 means absent
abbrev pub optional : ℤ → Option ℕ
optional (pos n) = Some n
optional (negsuc zero) = None
optional (negsuc (suc n)) = Some (2 ^ 63 + n)

abbrev pub natural_at : Row → ℕ → ℕ
natural_at row at = natural (int_at row at)

abbrev pub optional_at : Row → ℕ → Option ℕ
optional_at row at = optional (int_at row at)

-- the stream that the first two columns name
abbrev pub stream_in : Row → Stream
stream_in row = record { nmi = text_at row 1; suffix = text_at row 2 }

-- Schemas 1 to 3 say no update of a head: here it is 0.
abbrev pub head_fact : Row → Fact
head_fact row =
    HeadIs (head_at (stream_in row) (natural_at row 3) 0 (natural_at row 4) (unit_named (text_at row 5)))

-- The quality of a text. A text that isn't one, which the store never writes, counts as bare N.
abbrev pub quality_named : List ℕ → QualityValue
quality_named text = unwrap_or (quality_of text) (record { flag = null; method = 0 })

-- the key of a version, with 0 as its length
abbrev pub lengthless : Key → Key
lengthless key = key_at key.stream key.day 0 key.interval key.update

-- a reading of quality N has no value, whatever the amount
abbrev pub reading_in : QualityValue → Option ℕ → List ℕ → ℤ → ReadingValue
reading_in quality code text amount = record {
  mark = record { quality = quality; reason = record { code = code; text = text } };
  value = if quality.flag == null then None else Some amount;
}

-- Schema 1 says no length of a version, which is that of its day's head: here it is 0.
abbrev pub version_fact : Row → Fact
version_fact row =
    VersionIs (key_at (stream_in row) (natural_at row 3) 0 (natural_at row 4) (natural_at row 5))
    (reading_in (quality_named (text_at row 6)) (optional_at row 7) (text_at row 8) (int_at row 9))

-- the five details from a column on
abbrev pub details_from : Row → ℕ → DetailsValue
details_from row at = record {
  configuration = text_at row at;
  register = text_at row (at + 1);
  datastream = text_at row (at + 2);
  meter = text_at row (at + 3);
  next = optional_at row (at + 4);
}

-- a row of mds_daydetail
abbrev pub detail_fact : Row → Fact
detail_fact row = DetailIs (detail_at (stream_in row) (natural_at row 3) (natural_at row 4) (details_from row 5))

-- A transaction code, which is absent if its text is empty. A longer text, which the store never writes, counts as a letter
-- that doesn't exist.
abbrev pub letter_in : List ℕ → Option ℕ
letter_in [] = None
letter_in (letter ∷ []) = Some letter
letter_in (letter ∷ other ∷ more) = Some (2 ^ 63)

abbrev pub event_fact : Row → Fact
event_fact row = EventIs (record {
  nmi = text_at row 1;
  suffix = text_at row 2;
  day = natural_at row 3;
  trans = letter_in (text_at row 4);
  ticket = text_at row 5;
  moment = optional_at row 6;
  reading = text_at row 7;
})

-- an accumulation's body says its content, and its update is that of the columns
abbrev pub period_fact : Row → Fact
period_fact row =
    PeriodIs (record {
      stream = stream_in row;
      register = text_at row 3;
      start = natural_at row 4;
      finish = natural_at row 5;
      update = natural_at row 6;
    })
    (content_of_body (text_at row 7))

-- a holiday is its day alone
abbrev pub holiday_fact : Row → Fact
holiday_fact row = HolidayIs (natural_at row 1)

-- a job's body says its content, text by text
abbrev pub job_fact : Row → Fact
job_fact row = JobIs (text_at row 1) (job_in (parts_of (text_at row 2))) (natural_at row 3)

-- The facts of the rows of each table, one table after the other. Each schema has its own way to say heads, versions and
-- details of days.
abbrev pub facts_with : (Trees → List Fact) → (Trees → List Fact) → Trees → List Fact
facts_with heads own trees =
    heads trees ++ own trees ++ map event_fact (trees event_tree) ++ map period_fact (trees period_tree)
    ++ map holiday_fact (trees holiday_tree) ++ map job_fact (trees job_tree)

-- the heads, if each row says one
abbrev pub heads_in : Trees → List Fact
heads_in trees = map head_fact (trees head_tree)

-- the versions, if each row says one
abbrev pub versions_in : Trees → List Fact
versions_in trees = map version_fact (trees version_tree)
