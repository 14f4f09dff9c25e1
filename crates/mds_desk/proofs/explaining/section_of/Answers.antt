use Rattle.std.proofs.Common.{rules, lit<}
use Rattle.std.proofs.lemmas.Iterator.Search.{find_from_yields_List}
use Rattle.std.proofs.lemmas.Iterator.Splits.{YieldsList-from_str_split}
use borrow.Author.Tests.{tests}
use Rattle.mds_desk.specs.Sections.{is_named}
use Rattle.mds_desk.proofs.explaining.section_of.Goals as goal

pub returns : goal.returns
returns c =
    let split = YieldsList-from_str_split {s = c.split.result} 35 c.args.text.now (lit< tt) (cc) (cc) (cc) in
    find_from_yields_List (is_named c.args.name.now) _ _ c.find.result c.find.ensures.ran split (λ x b q k. search (rules, tests))
