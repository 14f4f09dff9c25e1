use Rattle.std.proofs.Common.{◌∷◌, []}
use Rattle.mds_nem13.specs.Said.{note_in}
use Rattle.mds_check.proofs.Reports.{report_noted}
use Rattle.mds_check.proofs.period_report.PeriodReportPeriodSink.note.Goals as goal

pub returns : goal.returns
returns c = λ done. λ period. λ text. λ told. λ headed. λ is. report_noted done period (note_in text ∷ []) _ told
