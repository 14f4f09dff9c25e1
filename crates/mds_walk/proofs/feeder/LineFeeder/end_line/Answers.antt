use Rattle.std.proofs.Common.{rules, inl, inr, List, ℕ, ◌++◌, ◌∷◌, [], subst, ◌∙◌, append_assoc, MatchResult}
use Rattle.mds_lines.specs.Lines.{line_feed}
use Rattle.mds_walk.specs.Answers.{IsRefusal}
use Rattle.mds_walk.specs.Feeding.{HasFed}
use Rattle.mds_walk.specs.SoFar.{fault_so_far}
use Rattle.mds_walk.proofs.Steps.{line_alone}
use Rattle.mds_walk.proofs.feeder.LineFeeder.end_line.Goals as goal

pub returns-in-Err-clause-fed : goal.returns-in-Err-clause-fed
returns-in-Err-clause-fed g c = λ text h apart. line_alone g.T.RecordSink.judge text c.args.front.now _ (c.in-Err.ensures.fed text h apart)

pub returns-in-Ok-clause-fed : goal.returns-in-Ok-clause-fed
returns-in-Ok-clause-fed g c = λ text h apart.
    subst (λ (t : List ℕ). MatchResult c.take_rest.result (λ _. HasFed g.T.RecordSink.judge g.T.RecordSink.taken t c.take_rest.new.self) (IsRefusal (fault_so_far g.T.RecordSink.judge t)))
    (append_assoc text c.args.front.now (line_feed ∷ [])) (c.take_rest.ensures.taken (text ++ c.args.front.now) (c.in-Ok.ensures.fed text h apart))

pub returns-in-Err-clause-memory : goal.returns-in-Err-clause-memory
returns-in-Err-clause-memory g c = λ text h apart wanting.
    inl (λ is. let none = h.rest ∙ is in search (rules, none, c.is_empty.ensures, c.if-is_empty.false))

pub returns-in-Ok-clause-memory : goal.returns-in-Ok-clause-memory
returns-in-Ok-clause-memory g c = λ text h apart wanting.
    inr (c.take_rest.ensures.memory (text ++ c.args.front.now) (c.in-Ok.ensures.fed text h apart) wanting)
