use Rattle.std.proofs.Common.{◌∷◌, [], ◌∙◌}
use Rattle.mds_lines.specs.Lines.{comma}
use Rattle.mds_quantity.proofs.Front.{on_err_from}
use Rattle.mds_marks.proofs.Pieces.{part_front}
use Rattle.mds_export.proofs.line.write_field.Goals as goal

pub returns-in_err-push-clause-part : goal.returns-in_err-push-clause-part
returns-in_err-push-clause-part c =
    on_err_from c.from_residual-in_err-push.result _
    (part_front c.args.out.now.items c.push.new.self.items c.args.text.now (comma ∷ []) (c.in_err-push.ensures.items ∙ c.in_ok-extend_from_slice.ensures.items))
