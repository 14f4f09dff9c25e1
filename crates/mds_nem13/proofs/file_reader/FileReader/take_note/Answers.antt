use Rattle.std.proofs.Common.{◌∙◌, ◌+◌, ap, length, sym}
use Rattle.std.specs.Option.{option_map}
use Rattle.mds_records.specs.declared.header_name.HeaderName.TheVariants.{Nem13}
use Rattle.mds_walk.specs.Faults.{at_field}
use Rattle.mds_nem13.proofs.Kept.{kept_note}
use Rattle.mds_nem13.proofs.file_reader.FileReader.take_note.Goals as goal

pub returns-in_ok-note-in-Ok : goal.returns-in_ok-note-in-Ok
returns-in_ok-note-in-Ok g c = λ before h number.
    let read = rw c.text.ensures at (c.in-Ok.ensures Nem13 0) in (
      ap (option_map (at_field (length before + 1))) read.0,
      kept_note _ before _ c.args.self.now c.note.new.self _ _ c.requires.known h c.requires.place
          (sym c.moment.ensures ∙ c.unwrap-moment.ensures) read.1 c.in_ok-note-in-Ok.ensures,
    )
