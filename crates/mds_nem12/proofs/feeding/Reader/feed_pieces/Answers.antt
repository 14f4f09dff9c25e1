use Rattle.std.proofs.Common.{◌++◌, map, ap, sym, ◌∙◌, subst}
use Rattle.std.specs.List.{concat}
use Rattle.mds_nem12.specs.Reader.{HasRead, reader_fault}
use Rattle.mds_nem12.proofs.feeding.Reader.feed_pieces.Goals as goal

pub invariant_of-self : goal.invariant_of-self
invariant_of-self c = (c.self.invariant.0 ++ concat (map (λ piece. piece.now) c.args.pieces.now), c.feed_all.ensures.fed c.self.invariant.0 c.self.invariant.1)

pub returns-clause-stays : goal.returns-clause-stays
returns-clause-stays c = λ text h unrefused.
    c.feed_all.ensures.stays text (subst (HasRead text) (sym c.self.view_is) h) (ap reader_fault c.self.view_is ∙ unrefused)

pub returns-clause-memory : goal.returns-clause-memory
returns-clause-memory c = λ text h unrefused wanting.
    c.feed_all.ensures.memory text (subst (HasRead text) (sym c.self.view_is) h) (ap reader_fault c.self.view_is ∙ unrefused) wanting

pub returns-clause-fed : goal.returns-clause-fed
returns-clause-fed c = λ text h. c.feed_all.ensures.fed text (subst (HasRead text) (sym c.self.view_is) h)

pub returns-clause-answer : goal.returns-clause-answer
returns-clause-answer c = λ text h none. c.feed_all.ensures.answer text (subst (HasRead text) (sym c.self.view_is) h) none
