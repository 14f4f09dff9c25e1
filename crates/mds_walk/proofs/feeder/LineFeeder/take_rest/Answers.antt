use Rattle.std.proofs.Common.{rules, [], ◌≢◌, subst, sym, ◌∙◌, refl}
use Rattle.std.proofs.lemmas.List.{append-nil}
use Rattle.std.proofs.lemmas.List.Elements.{All-nil}
use Rattle.mds_walk.specs.Feeding.{MayLackHere}
use Rattle.mds_walk.proofs.Steps.{line_taken, line_refused, line_wanting}
use Rattle.mds_walk.proofs.feeder.LineFeeder.take_rest.Goals as goal

pub returns-in-Ok-clause-taken : goal.returns-in-Ok-clause-taken
returns-in-Ok-clause-taken g c = λ text h.
    line_taken c.args.self.now _ text [] _ c.in-Ok.ensures.taken (search rules) refl h (All-nil (λ x. x ≢ 10))
    (c.deref.ensures.value ∙ h.rest ∙ sym (append-nil _))

pub returns-in-Err-clause-taken : goal.returns-in-Err-clause-taken
returns-in-Err-clause-taken g c = λ text h.
    line_refused c.args.self.now text [] _ _ c.in-Err.ensures.taken h (All-nil (λ x. x ≢ 10)) (c.deref.ensures.value ∙ h.rest ∙ sym (append-nil _))

pub returns-in-Err-clause-memory : goal.returns-in-Err-clause-memory
returns-in-Err-clause-memory g c = λ text h wanting.
    subst (MayLackHere g.T.RecordSink.may_lack g.T.RecordSink.judge) (append-nil text)
    (line_wanting g.T.RecordSink.may_lack _ c.args.self.now text [] _ c.in-Err.ensures.memory h (All-nil (λ x. x ≢ 10))
    (c.deref.ensures.value ∙ h.rest ∙ sym (append-nil _)) wanting)
