use Rattle.std.proofs.Common.{refl, subst}
use Rattle.std.specs.Prelude.{IfNone, IfSome}
use Rattle.mds_world.specs.Current.{IsFormOf}
use Rattle.mds_world.specs.World.{IsKnownDay}
use Rattle.mds_keeper.specs.Books.{BookValue, book_world}
use Rattle.mds_keeper.specs.BookRows.{unit_of}
use Rattle.mds_keeper.specs.KeptRows.{kept_rows}
use Rattle.mds_keeper.proofs.BookReads.{form_none, form_some}
use Rattle.mds_keeper.proofs.day_book.DayBook.form.Goals as goal
use Rattle.mds_keeper.proofs.day_book.DayBook.form.Goals.{After-result-1}

abbrev book : After-result-1 → BookValue
book c = record {
  stream = c.self.inside.stream;
  day = c.self.inside.day;
  unit = unit_of c.self.inside.form;
  rows = kept_rows c.self.inside.rows;
}

pub returns-clause-some : goal.returns-clause-some
returns-clause-some c =
    subst (λ (b : BookValue). IfSome c.self.inside.form (λ form. IsFormOf (book_world b) b.stream b.day form.0 form.1)) c.self.view_is
    (form_some (book c) c.self.inside.form c.self.invariant.1 refl)

pub returns-clause-none : goal.returns-clause-none
returns-clause-none c =
    subst (λ (b : BookValue). IfNone c.self.inside.form (IsKnownDay (book_world b) b.stream b.day → ⊥)) c.self.view_is
    (form_none (book c) c.self.inside.form c.self.invariant.1)
