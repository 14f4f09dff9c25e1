use Rattle.std.proofs.Common.{inl, inr, length, subst}
use Rattle.mds_service.proofs.Unavailable.{may_be_unavailable}
use Rattle.mds_http.specs.Bodies.{HoldsBody}
use Rattle.mds_http.specs.declared.body.Body.{Body}
use Rattle.mds_http.proofs.Fed.{asks_for_import, import_of}
use Rattle.mds_http.proofs.handling.StoreHandlerHandler.handle.Goals as goal

pub returns-in-IntervalData-clause-step : goal.returns-in-IntervalData-clause-step
returns-in-IntervalData-clause-step g c bytes holds =
    let it = subst (λ (body : Body). HoldsBody body c.args.route c.args.target.now (length bytes) bytes) c.in-IntervalData.is holds in
    let request = import_of c.args.answer.now bytes it.3 in
    let asks = asks_for_import c.args.answer.now c.args.route c.args.target.now bytes it.3 it.0 in
    let goes = c.import_fed-told.ensures bytes it.1 in
    elim c.tell.ensures [
      | inl whole ↦ inl (request, _, asks, goes, whole.0, whole.1)
      | inr wanting ↦ inl (request, _, asks, may_be_unavailable request _ wanting.0 goes, wanting.1.0, wanting.1.1)
    ]
