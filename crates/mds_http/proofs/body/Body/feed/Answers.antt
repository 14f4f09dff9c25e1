use Rattle.std.proofs.Common.{◌≡◌, Err, inl, inr, ap, ◌∙◌, subst}
use Rattle.mds_walk.specs.declared.fault.TakeFault.TheVariants.{Memory}
use Rattle.mds_http.specs.Bodies.{HoldsBody}
use Rattle.mds_http.specs.declared.body.Body.{Body}
use Rattle.mds_http.proofs.Fed.{lacks}
use Rattle.mds_http.proofs.body.Body.feed.Goals as goal

pub returns-in-Err-Memory-clause-only : goal.returns-in-Err-Memory-clause-only
returns-in-Err-Memory-clause-only c route target size bytes holds few most =
    let it = subst (λ (body : Body). HoldsBody body route target size bytes) c.in-IntervalData.is holds in
    let is : c.feed.result ≡ Err Memory = c.in-Err-Memory.is ∙ ap (λ f. Err f) c.in-Err-Memory.field-0-is in
    let why = lacks bytes c.args.piece.now c.in-IntervalData.reader c.feed.new.self c.feed.result it.1 it.2 is c.feed.ensures.again (c.feed.ensures.memory bytes it.1) in
    inr (inr (inl (it.0, why.0, why.1)))
