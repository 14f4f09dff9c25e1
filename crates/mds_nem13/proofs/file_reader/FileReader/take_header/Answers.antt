use Rattle.std.proofs.Common.{◌+◌, ap, length}
use Rattle.std.specs.Option.{option_map}
use Rattle.mds_walk.specs.Faults.{at_field}
use Rattle.mds_nem13.proofs.Kept.{kept_header}
use Rattle.mds_nem13.proofs.file_reader.FileReader.take_header.Goals as goal

pub returns-in_ok-header-in-Ok : goal.returns-in_ok-header-in-Ok
returns-in_ok-header-in-Ok g c = λ before h number.
    let read = rw c.text.ensures at (c.in-Ok.ensures 0) in (
      ap (option_map (at_field (length before + 1))) read.0,
      kept_header _ before _ c.args.self.now c.header.new.self _ c.requires.known h c.requires.place read.1 c.in_ok-header-in-Ok.ensures,
    )
