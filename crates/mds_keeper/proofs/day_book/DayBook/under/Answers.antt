use Rattle.std.proofs.Common.{◌≡◌, ◌∙◌, ap, rules, sym}
use Rattle.mds_keeper.specs.Content.{whole_rows}
use Rattle.mds_keeper.specs.LentVersions.{IsUnder}
use Rattle.mds_keeper.proofs.WholeDays.{none_other}
use Rattle.mds_keeper.proofs.day_book.DayBook.under.Goals as goal
use Rattle.mds_keeper.proofs.day_book.DayBook.under.Goals.{After-lent_at}

pub returns-in-Each-clause-some : goal.returns-in-Each-clause-some
returns-in-Each-clause-some c = (c.row_under.ensures c.args.self.now (sym c.in-Each.ensures.value)).some

pub returns-in-Each-clause-none : goal.returns-in-Each-clause-none
returns-in-Each-clause-none c = (c.row_under.ensures c.args.self.now (sym c.in-Each.ensures.value)).none

pub returns-then-ne-clause-none : goal.returns-then-ne-clause-none
returns-then-ne-clause-none c =
    λ minutes.
    none_other c.args.self.now _ _ _ (sym c.in-Whole.ensures.value) c.args.update (search rules) minutes c.args.interval

-- the version is one of this update
found : (c : After-lent_at) → IsUnder c.args.self.now c.args.interval c.args.update c.lent_at.result
found c =
    let same : c.in-Whole.of_all ≡ c.args.update = search rules in
    c.lent_at.ensures c.args.self.now (sym c.in-Whole.ensures.value ∙ ap (λ u. whole_rows c.in-Whole.length u 1 c.in-Whole.readings.now) same)

pub returns-else-ne-clause-some : goal.returns-else-ne-clause-some
returns-else-ne-clause-some c = (found c).some

pub returns-else-ne-clause-none : goal.returns-else-ne-clause-none
returns-else-ne-clause-none c = (found c).none
