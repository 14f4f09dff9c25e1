use Rattle.std.proofs.Common.{◌+◌, eqb, sym, ◌∙◌, ap, length, rules, tests}
use Rattle.std.proofs.lemmas.Iterator.{YieldsList-from_slice}
use Rattle.std.proofs.lemmas.Iterator.Consumers.{count_from_yields_List, YieldsList-from_filter}
use Rattle.std.proofs.lemmas.List.Sums.{length-filter}
use Rattle.std.proofs.lemmas.List.Splits.{length-slice_split}
use Rattle.mds_lines.proofs.fields.Fields.count.Goals as goal

pub returns : goal.returns
returns c =
    let line = c.self.inside.line.now in
    let n = count_from_yields_List _ _ c.count.ensures.ran (YieldsList-from_filter _ (λ x. eqb x 44) (YieldsList-from_slice line cc) c.filter.ensures.closure (λ x r q k. search (rules, tests))) in
    let f = length-filter (λ x. eqb x 44) line in
    ap (λ k. k + 1) (n ∙ f) ∙ sym (length-slice_split (λ x. eqb x 44) line) ∙ ap length c.self.view_is
