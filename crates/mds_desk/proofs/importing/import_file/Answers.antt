use Rattle.mds_desk.proofs.ReadIn.{of_given, of_known}
use Rattle.mds_desk.proofs.Requested.{if_done}
use Rattle.mds_desk.proofs.importing.import_file.Goals as goal

pub returns-clause-done : goal.returns-clause-done
returns-clause-done g c =
    let read = c.read_delivery-read.result in
    let known = c.read_delivery-read.ensures.read in
    let given = c.read_delivery-read.ensures.given in
    if_done c.import_read.result _ _ (λ status it. (
      it.0,
      (of_known read it.1 (g.R.Source.remaining c.args.reader.now) known, (given.0, given.1, of_given read it.1 given.0 given.4)),
      it.3,
      it.4,
      it.5,
      it.6,
    )) c.import_read.ensures.done

pub returns-clause-part : goal.returns-clause-part
returns-clause-part g c failed =
    let read = c.read_delivery-read.result in
    let known = c.read_delivery-read.ensures.read in
    let given = c.read_delivery-read.ensures.given in
    let it = c.import_read.ensures.part failed in (
      it.0,
      (of_known read it.1 (g.R.Source.remaining c.args.reader.now) known, (given.0, given.1, of_given read it.1 given.0 given.4)),
      it.3,
      it.4,
      it.5,
      it.6,
      it.7,
    )
