use Rattle.std.proofs.Common.{rules, arith, ◌≡◌, ◌<◌, ℕ, List, [], ◌∷◌, ◌++◌, Err, length, ◌∙◌, ap, subst}
use Rattle.std.proofs.lemmas.List.{nil_from_length}
use Rattle.mds_lines.specs.Lines.{line_feed}
use Rattle.mds_walk.specs.declared.fault.TakeFault.TheVariants.{Memory}
use Rattle.mds_walk.proofs.Steps.{ends_empty, ends_so, ends_wanting, nothing_behind, refusal_ends}
use Rattle.mds_walk.proofs.feeder.LineFeeder.end.Goals as goal

pub returns-then-is_empty-clause-ended : goal.returns-then-is_empty-clause-ended
returns-then-is_empty-clause-ended g c =
    let nothing : length c.args.self.rest.items ≡ 0 = search (rules, arith) in
    ends_empty g.T.RecordSink.made c.args.self _ (λ before took count. c.finish.ensures.ended before took (c.from.ensures ∙ count)) (nil_from_length _ nothing)

pub returns-in-Ok-clause-ended : goal.returns-in-Ok-clause-ended
returns-in-Ok-clause-ended g c = λ text h.
    let some : 0 < length c.args.self.rest.items = search (rules, arith) in
    let last = c.in-Ok.ensures.taken text h in
    ends_so g.T.RecordSink.judge g.T.RecordSink.made text _ (subst (λ (xs : List ℕ). 0 < length xs) h.rest some)
    (ends_empty g.T.RecordSink.made c.take_rest.new.self _ (λ before took count. c.finish-in-Ok.ensures.ended before took (c.from-in-Ok.ensures ∙ count))
    (nothing_behind text _ last) _ last)

pub returns-in-Err-clause-ended : goal.returns-in-Err-clause-ended
returns-in-Err-clause-ended g c = λ text h.
    let some : 0 < length c.args.self.rest.items = search (rules, arith) in
    ends_so g.T.RecordSink.judge g.T.RecordSink.made text (Err c.in-Err.fault) (subst (λ (xs : List ℕ). 0 < length xs) h.rest some)
    (refusal_ends g.T.RecordSink.judge (text ++ line_feed ∷ []) _ (c.in-Err.ensures.taken text h))

pub returns-then-is_empty-clause-memory : goal.returns-then-is_empty-clause-memory
returns-then-is_empty-clause-memory g c = λ text h wanting.
    absurd (ends_wanting g.T.RecordSink.made c.args.self _ (λ before took count. c.finish.ensures.ended before took (c.from.ensures ∙ count)) text h wanting)

pub returns-in-Ok-clause-memory : goal.returns-in-Ok-clause-memory
returns-in-Ok-clause-memory g c = λ text h wanting.
    absurd (ends_wanting g.T.RecordSink.made c.take_rest.new.self _ (λ before took count. c.finish-in-Ok.ensures.ended before took (c.from-in-Ok.ensures ∙ count))
    _ (c.in-Ok.ensures.taken text h) wanting)

pub returns-in-Err-clause-memory : goal.returns-in-Err-clause-memory
returns-in-Err-clause-memory g c = λ text h wanting. (
  λ is. let none = h.rest ∙ is in search (rules, none, c.is_empty.ensures, c.if-is_empty.false),
  let is : c.in-Err.fault ≡ Memory = cc in c.in-Err.ensures.memory text h (ap Err is),
)
