use Rattle.mds_keeper.proofs.Asked.{asks_so}
use Rattle.mds_ranges.proofs.registers.finals_of.Goals as goal

pub returns : goal.returns
returns g c =
    asks_so c.in_ok-books.ensures
    (λ w are. c.in_ok-final_rows.ensures w c.args.stream c.args.first c.args.last (rw c.deref.ensures.value are))
