use Rattle.std.proofs.Common.{refl, inl, inr}
use Rattle.mds_keeper.proofs.Taken.{absent_claimed, claimed_entry_in}
use Rattle.mds_keeper.proofs.day_merge.known_length.Goals as goal

pub returns-in-Some : goal.returns-in-Some
returns-in-Some c =
    inl (_, claimed_entry_in c.args.book.now c.args.claimed.now c.args.update c.in-Some.kept.now c.in-Some.ensures.some, refl, refl)

pub returns-in-None : goal.returns-in-None
returns-in-None c = inr (absent_claimed c.args.book.now c.args.claimed.now c.args.update c.in-None.ensures.none, c.length_under.ensures)
