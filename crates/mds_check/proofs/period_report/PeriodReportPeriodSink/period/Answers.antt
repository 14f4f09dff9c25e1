use Rattle.std.proofs.Common.{[], ◌∙◌, Some, ap, sym, unwrap_or}
use Rattle.std.specs.Prelude.{option_map, pos}
use Rattle.std.specs.Result.{result_unwrap_or}
use Rattle.mds_lines.specs.Lines.{field}
use Rattle.mds_quantity.specs.Quantity.{written}
use Rattle.mds_quantity.specs.Unit.{unit_text}
use Rattle.mds_nem13.specs.Said.{period_in}
use Rattle.mds_nem13.proofs.Apart.{nmi_is, suffix_is}
use Rattle.mds_check.proofs.Reports.{report_push_period}
use Rattle.mds_check.proofs.Texts.{on_ok}
use Rattle.mds_check.proofs.period_report.PeriodReportPeriodSink.period.Goals as goal

pub returns : goal.returns
returns c = λ done. λ text. λ told. λ headed. λ is.
    let nmi = nmi_is (field text 2) _ is.nmi in
    let suffix = suffix_is (field text 5) _ is.suffix in
    on_ok c.write_period.result c.write_period.ensures (λ line.
    report_push_period done (period_in c.args.arg3 c.args.arg2 text []) line.0 line.1 _ _ _ _ c.args.period.now.stream told
    (λ i. record { nmi = nmi i; suffix = suffix i })
    (line.2 ∙ sym (ap (λ o. Some (unwrap_or o 0)) is.previous.moment_is))
    (line.3 ∙ sym (ap (λ o. Some (unwrap_or o 0)) is.current.moment_is))
    (sym (ap (λ r. written (result_unwrap_or r (pos 0))) is.quantity))
    (sym (ap (λ o. unwrap_or (option_map unit_text o) []) is.unit)) line.4)
