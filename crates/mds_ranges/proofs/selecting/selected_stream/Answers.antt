use Rattle.std.proofs.Common.{◌≤◌, length, Ok, rules}
use Rattle.mds_world.specs.Current.{IsCurrentDetails}
use Rattle.mds_keeper.specs.Kept.{Asks}
use Rattle.mds_keeper.specs.Queries.{AreDaysOf}
use Rattle.mds_keeper.specs.declared.keeper.Unavailable.{Unavailable}
use Rattle.mds_keeper.proofs.Asked.{asks_both, asks_so}
use Rattle.mds_ranges.proofs.Selected.{days_selected, taken_none}
use Rattle.mds_ranges.proofs.selecting.selected_stream.Goals as goal

pub returns-then-is_empty-clause-selected : goal.returns-then-is_empty-clause-selected
returns-then-is_empty-clause-selected g c =
    let none : length c.in_ok-books.books.items ≤ 0 = search (rules, c.is_empty.ensures, c.if-is_empty.true) in
    asks_so c.in_ok-books.ensures (λ w are.
    days_selected w c.args.stream.now c.args.first c.args.last 0 c.in_ok-books.books.items c.new.result.items none
    (taken_none w c.args.stream.now c.new.result.items c.new.ensures.items) are)

pub returns-clause-selected : goal.returns-clause-selected
returns-clause-selected g c =
    let k = g.K.Keeper.kept in
    let s = c.args.stream.now in
    let books = c.in_ok-books.books.items in
    let details = c.in_ok-at_first.at_first in
    let told : Asks {E = Unavailable} (k c.args.keeper.now) (k c.details.new.self) (Ok books)
    (λ w books. AreDaysOf w s c.args.first c.args.last books × IsCurrentDetails w s c.args.first details) =
    asks_both c.in_ok-books.ensures c.in_ok-at_first.ensures (λ w are is. (are, is)) in
    asks_both told c.in_ok-rows.ensures (λ w told are.
    c.in_ok-days.ensures w s c.args.first c.args.last (rw c.deref.ensures.value told.0) told.1 (rw c.deref-2.ensures.value are))
