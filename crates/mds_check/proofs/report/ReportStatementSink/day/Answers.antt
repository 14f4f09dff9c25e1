use Rattle.std.proofs.Common.{◌++◌, ◌∷◌, [], sym, subst}
use Rattle.mds_statements.specs.Statements.Statement.{DetailsOf, DayOf}
use Rattle.mds_nem12.specs.Told.{day_said, details_said}
use Rattle.mds_check.specs.Report.{IsReport}
use Rattle.mds_check.proofs.Reports.{report_push}
use Rattle.mds_check.proofs.Texts.{on_ok}
use Rattle.mds_check.proofs.report.ReportStatementSink.day.Goals as goal

pub returns : goal.returns
returns c = λ done. λ last. λ told. λ under.
    let details = details_said last c.args.day.now.date in
    let day = day_said c.args.governing.now c.args.day.now in
    on_ok c.write_day.result c.write_day.ensures (λ line.
    subst (IsReport (done ++ DetailsOf details ∷ DayOf day ∷ [])) (sym line.2) (report_push done details day line.0 _ told line.1))
