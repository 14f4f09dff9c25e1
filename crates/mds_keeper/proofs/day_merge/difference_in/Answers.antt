use Rattle.mds_keeper.proofs.KeptReadings.{first_other, same_at}
use Rattle.mds_keeper.proofs.day_merge.difference_in.Goals as goal

pub returns-in-Ok-clause-none : goal.returns-in-Ok-clause-none
returns-in-Ok-clause-none c = λ k.
    let kept = c.requires.kept in
    same_at _ kept.0 _ _ c.is_lawful.ensures kept.2 c.requires.as_many k ((c.in-Ok.ensures kept.0 kept.1).suits k)

pub returns-in-Err-clause-some : goal.returns-in-Err-clause-some
returns-in-Err-clause-some c =
    let kept = c.requires.kept in
    first_other _ kept.0 _ _ c.is_lawful.ensures kept.2 c.requires.as_many _ (c.in-Err.ensures kept.0 kept.1).conflict
