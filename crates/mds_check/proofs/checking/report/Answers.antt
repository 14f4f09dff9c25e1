use Rattle.std.proofs.Common.{IfSome, [], false, subst, sym}
use Rattle.std.specs.Prelude.{string_bytes}
use Rattle.mds_nem12.specs.Answers.{AreCallsNeeded}
use Rattle.mds_check.specs.Answer.{IsReportRead}
use Rattle.mds_check.specs.Report.{IsFaultOf, fault_by_now}
use Rattle.mds_check.proofs.checking.report.Goals as goal

pub returns-in-Nem12-clause-fault : goal.returns-in-Nem12-clause-fault
returns-in-Nem12-clause-fault g c = λ fault. λ same.
    subst (λ kind. IfSome (g.R.Source.remaining c.args.reader.now) (λ text. IsFaultOf kind text fault)) (sym c.in-Nem12.is)
    (c.report_of_days.ensures.fault fault same)

pub returns-in-Nem13-clause-fault : goal.returns-in-Nem13-clause-fault
returns-in-Nem13-clause-fault g c = λ fault. λ same.
    subst (λ kind. IfSome (g.R.Source.remaining c.args.reader.now) (λ text. IsFaultOf kind text fault)) (sym c.in-Nem13.is)
    (c.report_of_periods.ensures.fault fault same)

pub returns-in-Nem12-clause-given : goal.returns-in-Nem12-clause-given
returns-in-Nem12-clause-given g c =
    let h = c.report_of_days.ensures.given in
    let needed = subst (λ kind. AreCallsNeeded (fault_by_now kind) [] false h.0) (sym c.in-Nem12.is) h.3 in
    (h.0, h.1, h.2, needed, subst (λ kind. IsReportRead kind string_bytes h.0 c.report_of_days.result) (sym c.in-Nem12.is) h.4)

pub returns-in-Nem13-clause-given : goal.returns-in-Nem13-clause-given
returns-in-Nem13-clause-given g c =
    let h = c.report_of_periods.ensures.given in
    let needed = subst (λ kind. AreCallsNeeded (fault_by_now kind) [] false h.0) (sym c.in-Nem13.is) h.3 in
    (h.0, h.1, h.2, needed, subst (λ kind. IsReportRead kind string_bytes h.0 c.report_of_periods.result) (sym c.in-Nem13.is) h.4)
