use Rattle.std.proofs.Common.{◌++◌, ap, sym, ◌∙◌, subst}
use Rattle.mds_nem12.specs.Reader.{HasRead, reader_fault}
use Rattle.mds_nem12.proofs.feeding.Reader.feed.Goals as goal

pub invariant_of-self : goal.invariant_of-self
invariant_of-self c = (c.self.invariant.0 ++ c.args.piece.now, c.feed.ensures.fed c.self.invariant.0 c.self.invariant.1)

pub returns-clause-stays : goal.returns-clause-stays
returns-clause-stays c = λ text h. c.feed.ensures.stays text (subst (HasRead text) (sym c.self.view_is) h)

pub returns-clause-memory : goal.returns-clause-memory
returns-clause-memory c = λ text h none wanting.
    c.feed.ensures.memory text (subst (HasRead text) (sym c.self.view_is) h) (ap reader_fault c.self.view_is ∙ none) wanting
