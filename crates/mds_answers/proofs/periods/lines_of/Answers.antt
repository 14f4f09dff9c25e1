use Rattle.std.proofs.Common.{ap, map, lit<, ◌∙◌, arith}
use Rattle.std.proofs.lemmas.Iterator.Consumers.{YieldsList-end}
use Rattle.std.proofs.lemmas.Iterator.Splits.{YieldsList-from_str_split}
use Rattle.std.proofs.lemmas.List.Splits.{length-slice_split}
use Rattle.mds_statements.specs.Contents.{is_line_feed, texts_of}
use Rattle.mds_answers.specs.Json.{texts}
use Rattle.mds_answers.proofs.periods.lines_of.Goals as goal

pub returns-clause-lines : goal.returns-clause-lines
returns-clause-lines c =
    let split = YieldsList-from_str_split {s = c.into_iter-line-iterator.result} 10 c.args.text.now (lit< tt) (cc) (cc) (cc) in
    let end = YieldsList-end split c.loop-line.yielded _ c.loop-line.yielded_by _ _ c.in-None.is c.next.ensures.steps in
    c.loop-line.invariant.told ∙ ap (map (λ line. texts (texts_of line))) end.0

pub returns-clause-some : goal.returns-clause-some
returns-clause-some c =
    let split = YieldsList-from_str_split {s = c.into_iter-line-iterator.result} 10 c.args.text.now (lit< tt) (cc) (cc) (cc) in
    let end = YieldsList-end split c.loop-line.yielded _ c.loop-line.yielded_by _ _ c.in-None.is c.next.ensures.steps in
    omega (arith, end.1, length-slice_split is_line_feed c.args.text.now, c.loop-line.invariant.count)
