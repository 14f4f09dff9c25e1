use Rattle.std.proofs.Common.{◌<◌, ◌∙◌, Some, length, ap, subst, sym}
use Rattle.mds_quantity.proofs.Front.{on_err_from}
use Rattle.mds_keeper.specs.KeptRows.{kept_rows, kept_whole}
use Rattle.mds_keeper.proofs.WholeDays.{some_whole}
use Rattle.mds_keeper.proofs.book_rows.BookRows.try_clone.Goals as goal

pub returns-in_err-clone-in-Whole-clause-memory : goal.returns-in_err-clone-in-Whole-clause-memory
returns-in_err-clone-in-Whole-clause-memory c =
    on_err_from c.from_residual-in_err-clone-in-Whole.result _
    (subst (λ rows. 0 < length (kept_rows rows)) (sym c.in-Whole.is)
    (some_whole c.in-Whole.length c.in-Whole.update c.in-Whole.readings.value
    (λ e. c.requires c.in-Whole.length (ap kept_whole c.in-Whole.is ∙ ap (λ n. Some (c.in-Whole.length, n)) e))))
