use Rattle.std.proofs.Common.{◌+◌, ◌<◌, length, ap, ◌∙◌, arith, refl}
use Rattle.mds_lines.specs.Lines.{longest_line}
use Rattle.mds_records.specs.declared.file.FaultCode.TheVariants as code
use Rattle.mds_walk.specs.Faults.{at_line}
use Rattle.mds_walk.specs.declared.fault.TakeFault.TheVariants.{File}
use Rattle.mds_walk.proofs.Steps.{keep_long, keep_more}
use Rattle.mds_walk.proofs.feeder.LineFeeder.keep.Goals as goal
use Rattle.mds_walk.proofs.feeder.LineFeeder.keep.Goals.{then-front-gt-LONGEST_LINE-via-then-front-gt-LONGEST_LINE, then-front-gt-LONGEST_LINE-via-else-front-gt-LONGEST_LINE+then-len-front}

pub returns-then-front-gt-LONGEST_LINE-clause-fed : goal.returns-then-front-gt-LONGEST_LINE-clause-fed
returns-then-front-gt-LONGEST_LINE-clause-fed g c =
    let long : longest_line < length c.args.self.now.rest.items + length c.args.front.now = elim c.then-front-gt-LONGEST_LINE.branch [
      | then-front-gt-LONGEST_LINE-via-then-front-gt-LONGEST_LINE w ↦ omega arith
      | then-front-gt-LONGEST_LINE-via-else-front-gt-LONGEST_LINE+then-len-front w ↦ omega arith
    ] in
    keep_long c.args.self.now c.args.front.now _ long (c.at_end.ensures ∙ ap (λ n. File (at_line (n + 1) code.TooLarge)) c.from.ensures)

pub returns-clause-fed : goal.returns-clause-fed
returns-clause-fed g c = keep_more c.args.self.now _ c.args.front.now (omega arith) refl refl c.in_ok-extend_from_slice.ensures.items
