use Rattle.std.proofs.Common.{◌∙◌, ℕ, List, refl, ap}
use Rattle.std.specs.Borrow.{Bor}
use Rattle.clap.specs.Words.{found_of}
use Rattle.clap.proofs.WalkLemmas.{first_value-rows}
use Rattle.mds_words.proofs.Getters.{or_empty}
use Rattle.mds_words.proofs.grammar.word.Goals as goal

pub returns : goal.returns
returns c = ap (λ (s : Bor (List ℕ)). s.now) c.unwrap_or.ensures ∙ or_empty c.get_str.result _ _ refl (c.get_str.ensures ∙ first_value-rows (found_of c.args.found.now) c.args.id.now)
