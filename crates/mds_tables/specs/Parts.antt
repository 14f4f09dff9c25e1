-- How what is added becomes rows (profile).
use Rattle.std.specs.Prelude.{◌≡◌, ℕ, ◌*◌, ◌/◌, List, [], ◌∷◌, ◌++◌, drop, length, map, string_bytes}
use Rattle.std.specs.List.{AllByRecursion}
use Rattle.std.specs.Simd.{first_chunks}
use Rattle.sqlite.specs.declared.types.Value.{Value}
use Rattle.sqlite_value.specs.Order.{Row}
use Rattle.mds_terms.specs.Event.{EventValue}
use Rattle.mds_jobs.specs.Bodies.{job_in, parts_of}
use Rattle.mds_world.specs.Facts.{Fact, head_at}
use Rattle.mds_statements.specs.Bodies.{content_of_body}
use Rattle.mds_world.specs.Facts.Fact.{DetailIs, EventIs, HeadIs, HolidayIs, JobIs, PeriodIs}
use Rattle.mds_world.specs.declared.facts.Detail.{Detail}
use Rattle.mds_world.specs.declared.facts.Head.{Head}
use Rattle.mds_keeper.specs.declared.additions.Additions.{Additions}
use Rattle.mds_tables.specs.declared.jobs.JobRow.{JobRow}
use Rattle.mds_tables.specs.declared.periods.PeriodRow.{PeriodRow}
use Rattle.mds_tables.specs.Cells.{detail_cells, event_cells, holiday_cells, job_cells, period_cells, unit_cells}
use Rattle.mds_tables.specs.RowFacts.{detail_fact, event_fact, head_fact, holiday_fact, job_fact, natural, period_fact}

-- How things of one kind are kept. A table has a place in the schema and a tree. Each thing has a row, without a rowid, and a
-- fact. A row of the table says a fact.
pub record Part (A : Type 0) : Type 0 where
  pub place : ℕ
  pub tree : ℕ
  pub cells : A → Row
  pub fact : A → Fact
  pub read : Row → Fact

-- A new day, by one of its heads: its row says its unit. The fact is what the row would say in schemas 1 to 3.
abbrev pub head_part : Part Head
head_part = record {
  place = 1;
  tree = 2;
  cells = unit_cells;
  fact = λ h. HeadIs (head_at h.stream h.day 0 0 h.unit);
  read = head_fact;
}

-- its table follows those that every schema has
abbrev pub detail_part : Part Detail
detail_part = record { place = 9; tree = 18; cells = detail_cells; fact = DetailIs; read = detail_fact }

abbrev pub event_part : Part EventValue
event_part = record { place = 4; tree = 8; cells = event_cells; fact = EventIs; read = event_fact }

abbrev pub period_part : Part PeriodRow
period_part = record {
  place = 5;
  tree = 10;
  cells = λ row. period_cells row.key (string_bytes row.body);
  fact = λ row. PeriodIs row.key (content_of_body (string_bytes row.body));
  read = period_fact;
}

abbrev pub holiday_part : Part ℕ
holiday_part = record { place = 6; tree = 12; cells = holiday_cells; fact = HolidayIs; read = holiday_fact }

abbrev pub job_part : Part JobRow
job_part = record {
  place = 7;
  tree = 14;
  cells = λ row. job_cells row.id (string_bytes row.body) row.count;
  fact = λ row. JobIs row.id (job_in (parts_of (string_bytes row.body))) (natural row.count);
  read = job_fact;
}

-- the row of each says its fact, under any rowid
abbrev pub Says : {A : Type 0} → Part A → List A → Type 0
Says part = AllByRecursion (λ item. (id : Value) → part.read (id ∷ part.cells item) ≡ part.fact item)

-- statements that put the rows of these things into their table, one statement for each list
abbrev pub statements_of : {A : Type 0} → Part A → List (List A) → List (ℕ × List Row)
statements_of part = map (λ items. (part.place, map part.cells items))

-- one by one
abbrev pub singly : {A : Type 0} → Part A → List A → List (ℕ × List Row)
singly part items = statements_of part (map (λ item. item ∷ []) items)

-- how many rows one statement puts, if enough are left
abbrev pub together : ℕ
together = 16

-- so many at a time while there are enough, and the rest one by one
abbrev pub in_turn : {A : Type 0} → Part A → List A → List (ℕ × List Row)
in_turn part items =
    statements_of part (first_chunks together (length items / together) items) ++ singly part (drop (length items / together * together) items)

-- What is put after heads, versions and details, in this order: events one by one. The rows of accumulations and of jobs are passed in.
abbrev pub rest_in : Additions → List PeriodRow → List JobRow → List (ℕ × List Row)
rest_in additions periods jobs =
    singly event_part additions.events.items
    ++ (in_turn period_part periods ++ (in_turn holiday_part additions.holidays.items ++ in_turn job_part jobs))
