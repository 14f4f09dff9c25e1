use Rattle.mds_keeper.proofs.Asked.{asks_so}
use Rattle.mds_service.proofs.MissingRows.{asked_by}
use Rattle.mds_service.proofs.ranges.is_asked.Goals as goal

pub returns : goal.returns
returns g c =
    asks_so c.in_ok-last.ensures (λ w is.
    let by = asked_by w c.args.since.now c.in_ok-last.last c.args.stream.now is in (
      (λ asked. by.0 (c.is_upto.ensures.0 asked)),
      (λ asks. c.is_upto.ensures.1 (by.1 asks)),
    ))
