use Rattle.std.proofs.Common.{subst, sym}
use Rattle.std.proofs.lemmas.Result.{IfOk-weaker, on_err_weaker}
use Rattle.mds_keeper.specs.Books.{book_world}
use Rattle.mds_keeper.specs.BookRows.{AreVersionsOf}
use Rattle.mds_keeper.proofs.Rows.{has_version}
use Rattle.mds_keeper.proofs.day_book.DayBook.versions.Goals as goal
use Rattle.mds_keeper.proofs.day_book.DayBook.versions.Goals.{After-copied}

found : (c : After-copied) → AreVersionsOf (book_world c.args.self.now) c.args.self.now.stream c.args.self.now.day c.args.interval c.rows_at.result.now
found c = c.rows_at.ensures c.args.self.now (sym c.in-Each.ensures.value)

pub returns-in-Each-clause-value : goal.returns-in-Each-clause-value
returns-in-Each-clause-value c =
    IfOk-weaker c.copied.result _ _
    (λ rows is. subst (AreVersionsOf (book_world c.args.self.now) c.args.self.now.stream c.args.self.now.day c.args.interval) (sym is) (found c))
    c.copied.ensures.value

pub returns-in-Each-clause-memory : goal.returns-in-Each-clause-memory
returns-in-Each-clause-memory c = on_err_weaker c.copied.result (has_version _ _ _ _ _ (found c)) c.copied.ensures.memory

pub returns-in-Whole-clause-value : goal.returns-in-Whole-clause-value
returns-in-Whole-clause-value c = c.copied_at.ensures.value c.args.self.now (sym c.in-Whole.ensures.value)

pub returns-in-Whole-clause-memory : goal.returns-in-Whole-clause-memory
returns-in-Whole-clause-memory c = c.copied_at.ensures.memory c.args.self.now (sym c.in-Whole.ensures.value)
