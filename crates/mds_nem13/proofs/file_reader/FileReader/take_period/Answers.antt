use Rattle.std.proofs.Common.{◌∙◌, ◌+◌, ap, length, sym}
use Rattle.std.specs.Option.{option_map}
use Rattle.mds_records.specs.declared.header_name.HeaderName.TheVariants.{Nem13}
use Rattle.mds_walk.specs.Faults.{at_field}
use Rattle.mds_nem13.proofs.Kept.{kept_period}
use Rattle.mds_nem13.proofs.file_reader.FileReader.take_period.Goals as goal

pub returns-in_ok-period-in-Ok : goal.returns-in_ok-period-in-Ok
returns-in_ok-period-in-Ok g c = λ before h number.
    let read = rw c.text.ensures at (c.in-Ok.ensures Nem13 0) in (
      ap (option_map (at_field (length before + 1))) read.0,
      kept_period _ before _ c.args.self.now c.period.new.self _ _ _ c.requires.known h (c.number.ensures ∙ number)
          (sym c.moment.ensures ∙ c.unwrap-moment.ensures) read.1 c.in_ok-period-in-Ok.ensures,
    )
