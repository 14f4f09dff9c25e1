use Rattle.std.proofs.Common.{◌++◌, ◌∙◌, ◌∷◌, List, [], None, ap, refl, string_bytes, subst, sym, unwrap_or}
use Rattle.mds_lines.specs.Lines.{field}
use Rattle.mds_statements.specs.Statements.Statement.{PeriodOf}
use Rattle.mds_terms.specs.Parts.{joined}
use Rattle.mds_nem13.specs.BuilderSteps.{AreTold}
use Rattle.mds_nem13.specs.Said.{amount_fields, kept_fields, kept_read, meter_fields, period_in}
use Rattle.mds_nem13.specs.declared.accumulation.Accumulation.{Accumulation}
use Rattle.mds_nem13.proofs.Apart.{nmi_is, suffix_is}
use Rattle.mds_nem13.proofs.Tellings.{content_of_line, same_period, told_period}
use Rattle.mds_nem13.proofs.builder.AccumulationBuilderPeriodSink.period.Goals as goal

pub returns : goal.returns
returns c = λ done text told headed s.
    let written = c.in_ok-write_fields.ensures text s in
    let made : Accumulation = record {
      line = c.args.line;
      key = record {
        stream = c.args.period.now.stream;
        register = c.in_ok-register.register;
        start = c.args.period.now.previous.moment;
        finish = c.args.period.now.current.moment;
        update = c.unwrap_or.result;
      };
      content = c.write_fields.new.out;
    } in
    let content = content_of_line (string_bytes c.write_fields.new.out) (field text 3)
    (meter_fields text ++ kept_read text 9 ++ kept_read text 14 ++ amount_fields text)
    (written.bytes ∙ ap (λ t. (t ++ []) ++ joined (kept_fields text)) c.new-content.ensures.bytes) written.apart in
    let same = same_period c.args.moment c.args.line text made refl (nmi_is (field text 2) _ s.nmi) (suffix_is (field text 5) _ s.suffix)
    (c.in_ok-register.ensures.value ∙ s.register)
    (sym (ap (λ o. unwrap_or o 0) s.previous.moment_is)) (sym (ap (λ o. unwrap_or o 0) s.current.moment_is))
    (c.unwrap_or.ensures ∙ sym (ap (λ o. unwrap_or (unwrap_or o None) c.args.moment) s.update)) content in
    subst (λ (gathered : List Accumulation). AreTold gathered (done ++ PeriodOf (period_in c.args.moment c.args.line text []) ∷ []))
    (sym c.in_ok-push.ensures.items)
    (told_period c.args.self.now.accumulations.items done made (period_in c.args.moment c.args.line text []) told headed same)
