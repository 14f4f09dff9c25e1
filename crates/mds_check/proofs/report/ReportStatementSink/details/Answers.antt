use Rattle.std.proofs.Common.{refl}
use Rattle.mds_check.proofs.Reports.{report_kept}
use Rattle.mds_check.proofs.report.ReportStatementSink.details.Goals as goal

pub returns : goal.returns
returns c = λ done. λ told. λ headed. report_kept done _ _ refl told
