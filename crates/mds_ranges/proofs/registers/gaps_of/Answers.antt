use Rattle.mds_keeper.proofs.Asked.{asks_so}
use Rattle.mds_ranges.proofs.registers.gaps_of.Goals as goal

pub returns : goal.returns
returns g c = asks_so c.in_ok-books.ensures (λ w are. c.in_ok-gap_rows.ensures w c.args.stream (rw c.deref.ensures.value are))
