use Rattle.std.proofs.Common.{◌≡◌, map, ap, ◌∙◌, lit<, rules}
use Rattle.std.proofs.lemmas.Iterator.Consumers.{YieldsList-end}
use Rattle.std.proofs.lemmas.Iterator.Splits.{YieldsList-from_str_split}
use Rattle.std.specs.List.{slice_split}
use Rattle.serde_json.specs.Data.{string}
use Rattle.serde_json.specs.View.{view}
use Rattle.mds_names.specs.Names.{is_comma}
use Rattle.mds_answers.proofs.told.texts_of.Goals as goal

pub returns : goal.returns
returns c =
    let split = YieldsList-from_str_split {s = c.into_iter-part-iterator.result} 44 c.args.text.now (lit< tt) (cc) (cc) (cc) in
    let end = YieldsList-end split c.loop-part.yielded _ c.loop-part.yielded_by _ _ c.in-None.is c.next.ensures.steps in
    let all : map view c.loop-part.list.items ≡ map string (slice_split is_comma c.args.text.now) = c.loop-part.invariant ∙ ap (map string) end.0 in
    search rules
