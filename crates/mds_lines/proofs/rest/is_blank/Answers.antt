use Rattle.std.proofs.Common.{sym, ◌∙◌, rules, tests}
use Rattle.std.proofs.lemmas.Iterator.{YieldsList-from_slice}
use Rattle.std.proofs.lemmas.Iterator.Search.{all_from_yields_List}
use Rattle.mds_lines.specs.Lines.{is_comma}
use Rattle.mds_lines.proofs.Rests.{are_blank-fields_of}
use Rattle.mds_lines.proofs.rest.is_blank.Goals as goal

pub returns : goal.returns
returns c =
    all_from_yields_List is_comma _ _ _ c.all.ensures.ran (YieldsList-from_slice c.args.text.now cc) (λ x b q k. search (rules, tests))
    ∙ sym (are_blank-fields_of c.args.text.now)
