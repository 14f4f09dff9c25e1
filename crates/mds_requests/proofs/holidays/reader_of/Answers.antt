use Rattle.std.proofs.Common.{◌∙◌}
use Rattle.mds_requests.proofs.HolidayRows.{before_rows}
use Rattle.mds_requests.proofs.holidays.reader_of.Goals as goal

pub returns : goal.returns
returns c =
    let made = c.from_reader.ensures in
    let named = c.has_headers.ensures in
    let long = c.flexible.ensures in
    before_rows c.args.text.now c.from_reader.result (rw (long, named) at made.trim ∙ c.new.ensures.trim) (rw (long, named) at made.has_headers) made.headers (rw (long, named) at made.config ∙ c.new.ensures.config) (rw long at made.flexible) made.state made.source
