use Rattle.std.proofs.Common.{[], refl, sym, inl, inr, append-nil}
use Rattle.mds_keeper.proofs.Asked.{asks_both, asks_so}
use Rattle.mds_service.proofs.ranges.add_missing.Goals as goal

pub returns-then-not-asked : goal.returns-then-not-asked
returns-then-not-asked g c =
    asks_so c.in_ok-asked.ensures (λ w asks. (
      [],
      inr ((λ is. let told = asks.1 is in let other = c.if-not-asked.true in cc), refl),
      sym (append-nil _),
    ))

pub returns : goal.returns
returns g c =
    let text = c.in_ok-write_gap_rows.ensures.done in
    asks_both c.in_ok-asked.ensures c.in_ok-rows.ensures (λ w asks are. (
      text.0,
      inl (asks.0 c.if-not-asked.false, c.in_ok-rows.rows.items, are, rw c.deref.ensures.value at text.1),
      text.2,
    ))
