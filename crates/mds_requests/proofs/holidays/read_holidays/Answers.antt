use Rattle.std.proofs.Common.{◌≡◌, ◌<◌, length, rules, tests}
use Rattle.mds_requests.proofs.HolidayLists.{no_head}
use Rattle.mds_requests.proofs.HolidayRows.{no_rows}
use Rattle.mds_requests.proofs.holidays.read_holidays.Goals as goal

pub returns-then-is_empty-clause-refused : goal.returns-then-is_empty-clause-refused
returns-then-is_empty-clause-refused c =
    let none : length c.args.text.now ≡ 0 = search (rules, tests, c.is_empty.ensures, c.if-is_empty.true) in
    no_head _ (no_rows c.args.text.now none)

pub read_days-requires : goal.read_days-requires
read_days-requires c = (c.args.text.now, c.reader_of-reader.ensures)

pub returns-clause-days : goal.returns-clause-days
returns-clause-days c = c.read_days.ensures.days c.args.text.now c.reader_of-reader.ensures

pub returns-clause-refused : goal.returns-clause-refused
returns-clause-refused c =
    let some : 0 < length c.args.text.now = search (rules, tests, c.is_empty.ensures, c.if-is_empty.false) in
    c.read_days.ensures.refused c.args.text.now c.reader_of-reader.ensures some
