use Rattle.std.proofs.Common.{◌≡◌, ◌∙◌, ℕ, List, ap, map, sym}
use Rattle.std.specs.Prelude.{max}
use Rattle.std.specs.List.{reduce}
use Rattle.mds_keeper.proofs.BookReads.{latest_is, latest_known, none_latest}
use Rattle.mds_keeper.proofs.WholeDays.{known_whole, latest_whole}
use Rattle.mds_keeper.specs.declared.day_book.Version.{Version}
use Rattle.mds_keeper.proofs.day_book.DayBook.latest_update.Goals as goal
use Rattle.mds_keeper.proofs.day_book.DayBook.latest_update.Goals.{After-greatest_update}

found : (c : After-greatest_update) → c.greatest_update.result
    ≡ reduce max (map (λ (row : ℕ × Version). row.1.update) c.args.self.now.rows)
found c =
    c.greatest_update.ensures
    ∙ ap (λ (rows : List (ℕ × Version)). reduce max (map (λ (row : ℕ × Version). row.1.update) rows)) c.in-Each.ensures.value

pub returns-in-Each-clause-some : goal.returns-in-Each-clause-some
returns-in-Each-clause-some c = latest_is c.args.self.now c.is_lawful.ensures c.greatest_update.result (found c)

pub returns-in-Each-clause-known : goal.returns-in-Each-clause-known
returns-in-Each-clause-known c = latest_known c.args.self.now c.is_lawful.ensures c.greatest_update.result (found c)

pub returns-in-Each-clause-none : goal.returns-in-Each-clause-none
returns-in-Each-clause-none c = none_latest c.args.self.now c.is_lawful.ensures c.greatest_update.result (found c)

pub returns-in-Whole-clause-some : goal.returns-in-Whole-clause-some
returns-in-Whole-clause-some c = latest_whole c.args.self.now _ _ _ (sym c.in-Whole.ensures.value) c.in-Whole.ensures.whole

pub returns-in-Whole-clause-known : goal.returns-in-Whole-clause-known
returns-in-Whole-clause-known c = known_whole c.args.self.now _ _ _ (sym c.in-Whole.ensures.value) c.in-Whole.ensures.whole c.is_lawful.ensures
