use Rattle.std.proofs.Common.{ap, ◌++◌, ◌∙◌, [], ◌∷◌}
use Rattle.mds_quantity.proofs.Front.{on_err_from}
use Rattle.mds_keeper.specs.DayMergeSteps.{row_of}
use Rattle.mds_keeper.specs.LentVersions.{lent_reading}
use Rattle.mds_keeper.proofs.WholeDays.{no_versions, one_version}
use Rattle.mds_keeper.proofs.day_book.copied_at.Goals as goal

pub returns-in_default-clause-value : goal.returns-in_default-clause-value
returns-in_default-clause-value c = λ book is.
    no_versions book c.args.length c.args.update c.args.readings.now is c.args.interval _ c.new-rows.ensures.items (c.in_default.ensures book is).none

pub returns-in_err-reading-clause-memory : goal.returns-in_err-reading-clause-memory
returns-in_err-reading-clause-memory c = λ book is.
    on_err_from c.from_residual.result _ (λ none. none c.in-Some.version.length c.args.update (lent_reading c.in-Some.version) (c.in-Some.ensures book is).some.1)

pub returns-in_err-push-clause-memory : goal.returns-in_err-push-clause-memory
returns-in_err-push-clause-memory c = λ book is.
    on_err_from c.from_residual-in_err-push.result _ (λ none. none c.in-Some.version.length c.args.update (lent_reading c.in-Some.version) (c.in-Some.ensures book is).some.1)

pub returns-clause-value : goal.returns-clause-value
returns-clause-value c = λ book is.
    one_version book c.args.length c.args.update c.args.readings.now is c.args.interval (lent_reading c.in-Some.version) _
    (c.in_ok-push.ensures.items ∙ ap (λ l. l ++ row_of c.args.length c.args.interval c.args.update c.in_ok-reading.reading ∷ []) c.new-rows.ensures.items
    ∙ ap (λ r. row_of c.args.length c.args.interval c.args.update r ∷ []) c.in_ok-reading.ensures.value)
    c.in-Some.version.length (c.in-Some.ensures book is).some.1
