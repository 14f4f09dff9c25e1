use Rattle.mds_statements.specs.Delivered.{header_value}
use Rattle.mds_export.proofs.Told.{export_shown}
use Rattle.mds_export.proofs.writer.write_nem12.Goals as goal

pub returns-clause-done : goal.returns-clause-done
returns-clause-done c =
    let selection = c.args.selection.now in
    let written = rw c.deref.ensures.value at c.in-Ok.ensures.done in (
      written.0,
      export_shown (header_value c.args.header.now) selection.streams.items written.0 written.1 selection.orderly,
      written.2,
    )
