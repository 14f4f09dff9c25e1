use Rattle.std.proofs.Common.{◌+◌, ap, length}
use Rattle.std.specs.Option.{option_map}
use Rattle.mds_records.specs.declared.header_name.HeaderName.TheVariants.{Nem13}
use Rattle.mds_walk.specs.Faults.{at_field}
use Rattle.mds_nem13.proofs.Kept.{kept_end}
use Rattle.mds_nem13.proofs.file_reader.FileReader.take_end.Goals as goal

pub returns-in-Ok : goal.returns-in-Ok
returns-in-Ok g c = λ before h number.
    let text = c.args.line.now.text.now in
    let none = rw c.text.ensures at (c.in-Ok.ensures Nem13 0) in
    (ap (option_map (at_field (length before + 1))) none, kept_end _ before text c.args.self.now c.requires.known h c.requires.place)
