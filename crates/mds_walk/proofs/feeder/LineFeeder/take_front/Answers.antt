use Rattle.std.proofs.Common.{◌++◌, sym, ap, ◌∙◌, refl}
use Rattle.mds_walk.proofs.Steps.{line_taken, line_refused, line_wanting}
use Rattle.mds_walk.proofs.feeder.LineFeeder.take_front.Goals as goal

pub returns-in-Ok-clause-fed : goal.returns-in-Ok-clause-fed
returns-in-Ok-clause-fed g c = λ text h apart.
    line_taken c.args.self.now _ text c.args.front.now _ c.in-Ok.ensures.taken c.requires refl h apart (ap (λ t. t ++ c.args.front.now) (sym c.requires ∙ h.rest))

pub returns-in-Err-clause-fed : goal.returns-in-Err-clause-fed
returns-in-Err-clause-fed g c = λ text h apart.
    line_refused c.args.self.now text c.args.front.now _ _ c.in-Err.ensures.taken h apart (ap (λ t. t ++ c.args.front.now) (sym c.requires ∙ h.rest))

pub returns-in-Err-clause-memory : goal.returns-in-Err-clause-memory
returns-in-Err-clause-memory g c = λ text h apart wanting.
    line_wanting g.T.RecordSink.may_lack _ c.args.self.now text c.args.front.now _ c.in-Err.ensures.memory h apart
    (ap (λ t. t ++ c.args.front.now) (sym c.requires ∙ h.rest)) wanting
