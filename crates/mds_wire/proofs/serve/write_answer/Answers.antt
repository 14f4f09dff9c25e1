use Rattle.std.proofs.Common.{rules, ◌≡◌, ◌<◌, ◌++◌, List, ℕ, length, take, OnErr, OnOk, subst}
use Rattle.std.specs.Io.KnownBytes.{Appends}
use Rattle.mds_wire.specs.Serving.{text_of}
use Rattle.mds_wire.specs.ServeSteps.{answer_of}
use Rattle.mds_wire.proofs.serve.write_answer.Goals as goal

pub returns-then-ends_early-clause-part : goal.returns-then-ends_early-clause-part
returns-then-ends_early-clause-part g c =
    let is : c.deref.result.now ≡ text_of (answer_of c.args.reply c.args.told.now) = search rules in
    subst (λ (t : List ℕ). OnErr c.write_whole.result ((n : ℕ) × (n < length t) × Appends (g.W.Sink.contents c.args.writer.now) (g.W.Sink.contents c.write_whole.new.writer) (take n t))) is c.write_whole.ensures.part

pub returns-else-ends_early-clause-part : goal.returns-else-ends_early-clause-part
returns-else-ends_early-clause-part g c =
    let is : c.deref-else-ends_early.result.now ++ c.body-body.result.now ≡ text_of (answer_of c.args.reply c.args.told.now) = search rules in
    subst (λ (t : List ℕ). OnErr c.write_both.result ((n : ℕ) × (n < length t) × Appends (g.W.Sink.contents c.args.writer.now) (g.W.Sink.contents c.write_both.new.writer) (take n t))) is c.write_both.ensures.part

pub returns-then-ends_early-clause-done : goal.returns-then-ends_early-clause-done
returns-then-ends_early-clause-done g c =
    let is : c.deref.result.now ≡ text_of (answer_of c.args.reply c.args.told.now) = search rules in
    subst (λ (t : List ℕ). OnOk c.write_whole.result (Appends (g.W.Sink.contents c.args.writer.now) (g.W.Sink.contents c.write_whole.new.writer) t)) is c.write_whole.ensures.done

pub returns-then-ends_early-clause-writer : goal.returns-then-ends_early-clause-writer
returns-then-ends_early-clause-writer g c = c.write_whole.ensures.writer

pub returns-else-ends_early-clause-done : goal.returns-else-ends_early-clause-done
returns-else-ends_early-clause-done g c =
    let is : c.deref-else-ends_early.result.now ++ c.body-body.result.now ≡ text_of (answer_of c.args.reply c.args.told.now) = search rules in
    subst (λ (t : List ℕ). OnOk c.write_both.result (Appends (g.W.Sink.contents c.args.writer.now) (g.W.Sink.contents c.write_both.new.writer) t)) is c.write_both.ensures.done

pub returns-else-ends_early-clause-writer : goal.returns-else-ends_early-clause-writer
returns-else-ends_early-clause-writer g c = c.write_both.ensures.writer
