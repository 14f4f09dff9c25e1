use Rattle.std.proofs.Common.{sym}
use Rattle.mds_service.proofs.Opened.{opened}
use Rattle.mds_service.proofs.opening.open_day.Goals as goal

pub returns : goal.returns
returns c = λ w facts.
    opened w facts (record { stream = c.stream.result; day = c.day.result }) c.args.book c.new.result c.args.merges.now c.insert.new.self
    (sym c.stream.ensures, sym c.day.ensures) c.is_lawful.ensures.agrees c.new.ensures (sym c.if-contains_key.ensures)
    c.in_ok-insert.ensures.updates.0
