use Rattle.std.proofs.Common.{subst, sym, ◌-◌, ℕ, List, take, drop}
use Rattle.mds_keeper.specs.Books.{book_world}
use Rattle.mds_keeper.specs.BookRows.{AreVersionsOf, IsBefore}
use Rattle.mds_keeper.specs.BookPlaces.{EndsAt, StartsAt}
use Rattle.std.specs.List.{AllPairs}
use Rattle.mds_keeper.specs.declared.day_book.Version.{Version}
use Rattle.mds_keeper.proofs.BookReads.{start_before_end, versions_between}
use Rattle.mds_keeper.proofs.day_book.rows_at.Goals as goal

pub slice_bounds-result-count : goal.slice_bounds-result-count
slice_bounds-result-count c = start_before_end c.args.rows.now c.args.interval _ _ c.start_of.ensures c.end_of.ensures

pub slice_bounds-result-start : goal.slice_bounds-result-start
slice_bounds-result-start c = start_before_end c.args.rows.now c.args.interval _ _ c.start_of.ensures c.end_of.ensures

pub returns : goal.returns
returns c = λ book is.
    subst (λ (rows : List (ℕ × Version)). AreVersionsOf (book_world book) book.stream book.day c.args.interval
    (take (c.end_of.result - c.start_of.result) (drop c.start_of.result rows))) is
    (versions_between book (subst (AllPairs IsBefore) (sym is) c.requires) c.args.interval _ _
    (subst (λ r. StartsAt r c.args.interval c.start_of.result) (sym is) c.start_of.ensures)
    (subst (λ r. EndsAt r c.args.interval c.end_of.result) (sym is) c.end_of.ensures))
