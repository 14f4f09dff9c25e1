use Rattle.std.proofs.Common.{ap, ◌∙◌}
use Rattle.mds_lines.specs.Lines.{split}
use Rattle.mds_lines.proofs.Splits.{split_is_split, split_is_only}
use Rattle.mds_lines.proofs.line.one_split.Goals as goal

pub returns-clause-is_split : goal.returns-clause-is_split
returns-clause-is_split c = λ separator text. split_is_split separator text

pub returns-clause-only : goal.returns-clause-only
returns-clause-only c = λ separator text parts h. split_is_only separator parts h.some h.apart ∙ ap (λ t. split separator t) h.joined
