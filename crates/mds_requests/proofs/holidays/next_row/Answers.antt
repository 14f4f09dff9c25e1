use Rattle.csv.specs.Records.{fields_of}
use Rattle.mds_requests.proofs.HolidayRows.{read_on}
use Rattle.mds_requests.proofs.holidays.next_row.Goals as goal

pub returns-clause-reads : goal.returns-clause-reads
returns-clause-reads c = λ text rows so_far.
    let read = c.in-Ok.ensures.reads so_far.plain so_far.ready in
    read_on text c.args.reader.now c.read_byte_record.new.self rows c.in-Ok.found (fields_of c.read_byte_record.new.row) so_far (c.in-Ok.ensures.ready so_far.plain) c.in-Ok.ensures.flexible read
