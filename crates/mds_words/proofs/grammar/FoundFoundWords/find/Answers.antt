use Rattle.std.proofs.Common.{◌∙◌, ℕ, List, Some, ap}
use Rattle.clap.specs.Words.{found_of}
use Rattle.clap.proofs.WalkLemmas.{first_value-rows}
use Rattle.mds_words.proofs.grammar.FoundFoundWords.find.Goals as goal

pub returns-in-Some : goal.returns-in-Some
returns-in-Some c =
    ap (λ (text : List ℕ). Some text) c.as_bytes.ensures.value ∙ c.in-Some.ensures ∙ first_value-rows (found_of c.args.self.now.matches.now) c.args.id.now

pub returns-in-None : goal.returns-in-None
returns-in-None c = c.in-None.ensures ∙ first_value-rows (found_of c.args.self.now.matches.now) c.args.id.now
