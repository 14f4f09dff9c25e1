use Rattle.std.proofs.Common.{◌∷◌, ◌∙◌, sym, ap, arith, take}
use Rattle.mds_jobs.specs.Bodies.{parts_of}
use Rattle.mds_jobs.proofs.BodySplits.{more_parts, one_part}
use Rattle.mds_jobs.proofs.body.first_part.Goals as goal

pub returns-then-count-text : goal.returns-then-count-text
returns-then-count-text c = one_part c.args.text.now c.part_length-count.result c.part_length-count.ensures.value c.if-count-text.true

pub returns : goal.returns
returns c =
    more_parts c.args.text.now c.part_length-count.result c.part_length-count.ensures.value (omega arith)
    ∙ ap (λ t. take c.part_length-count.result c.args.text.now ∷ parts_of t) (sym c.split_at.ensures.back)
