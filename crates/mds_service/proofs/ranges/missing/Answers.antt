use Rattle.std.proofs.Common.{List, ℕ, ◌++◌, [], refl, sym, ap, ◌∙◌, append_assoc, append-nil}
use Rattle.std.proofs.lemmas.Result.{err_from_is_err_and}
use Rattle.mds_registers.specs.Registers.{gaps_head_text}
use Rattle.mds_keeper.proofs.Asked.{asks_both, asks_so, stays_on}
use Rattle.mds_service.proofs.MissingRows.{all_missing, missing_more}
use Rattle.mds_service.proofs.Steps.{failed, shown, unasked}
use Rattle.mds_service.proofs.ranges.missing.Goals as goal

-- a range that is too wide is refused without the store
pub returns-then-is_too_wide-clause-step : goal.returns-then-is_too_wide-clause-step
returns-then-is_too_wide-clause-step g c =
    unasked (λ w. ((c.if-is_too_wide.ensures.0 refl, rw c.of_request.ensures (refl, refl, refl, refl)), refl))

pub returns-in_err-streams-clause-step : goal.returns-in_err-streams-clause-step
returns-in_err-streams-clause-step g c =
    let p = err_from_is_err_and c.from_residual.result c.from_residual.ensures.1 in
    rw (p.1, p.2) (failed c.streams.ensures.stays (λ w. ((λ wide. let e = c.if-is_too_wide.ensures.1 wide in cc), refl)))

pub returns-in_err-write_gaps_head-clause-step : goal.returns-in_err-write_gaps_head-clause-step
returns-in_err-write_gaps_head-clause-step g c =
    let p = err_from_is_err_and c.from_residual-in_err-write_gaps_head.result c.from_residual-in_err-write_gaps_head.ensures.1 in
    rw (p.1, p.2) (failed c.streams.ensures.stays (λ w. ((λ wide. let e = c.if-is_too_wide.ensures.1 wide in cc), refl)))

pub loop-stream-init : goal.loop-stream-init
loop-stream-init g c = record {
  asked = asks_so c.in_ok-streams.ensures (λ w are. (
    rw c.deref-stream-items.ensures.value are,
    [],
    c.in_ok-write_gaps_head.ensures.done ∙ ap (λ (t : List ℕ). t ++ gaps_head_text) c.new-text.ensures.items
        ∙ sym (append-nil gaps_head_text),
    refl,
  ));
}

pub loop-stream-preserved : goal.loop-stream-preserved
loop-stream-preserved g c = record {
  asked = asks_both c.loop-stream.invariant.asked c.in_ok-add_missing.ensures (λ w told is. (
    told.0,
    told.1 ++ is.0,
    is.2 ∙ ap (λ (t : List ℕ). t ++ is.0) told.2 ∙ append_assoc gaps_head_text told.1 is.0,
    missing_more w _ _ _ _ _ _ told.1 is.0 c.loop-stream-test.true c.stream-item.is told.3 is.1,
  ));
}

pub returns-in_err-add_missing-clause-step : goal.returns-in_err-add_missing-clause-step
returns-in_err-add_missing-clause-step g c =
    let p = err_from_is_err_and c.from_residual-in_err-add_missing.result c.from_residual-in_err-add_missing.ensures.1 in
    rw (p.1, p.2) (failed (stays_on c.loop-stream.invariant.asked.stays c.add_missing.ensures.stays)
    (λ w. ((λ wide. let e = c.if-is_too_wide.ensures.1 wide in cc), refl)))

pub returns-clause-step : goal.returns-clause-step
returns-clause-step g c =
    shown c.loop-stream.invariant.asked (λ w told. (
      (
        (λ wide. let e = c.if-is_too_wide.ensures.1 wide in cc),
        _,
        told.0,
        told.1,
        told.2,
        all_missing w _ _ _ _ _ told.1 c.loop-stream-test.false told.3,
      ),
      refl,
    ))
