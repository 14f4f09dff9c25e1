use Rattle.std.proofs.Common.{inl, inr}
use Rattle.mds_service.proofs.Unavailable.{may_be_unavailable}
use Rattle.mds_http.proofs.handling.answer_whole.Goals as goal

pub returns-clause-step : goal.returns-clause-step
returns-clause-step g c =
    let goes = c.apply-told.ensures.step in
    elim c.tell.ensures [
      | inl whole ↦ inl (_, _, c.in-Ok.ensures, goes, whole.0, whole.1)
      | inr wanting ↦ inl (_, _, c.in-Ok.ensures, may_be_unavailable _ _ wanting.0 goes, wanting.1.0, wanting.1.1)
    ]
