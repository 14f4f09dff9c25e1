use Rattle.std.proofs.Common.{◌∙◌, List, None, Some, ap, cond, subst, sym}
use Rattle.mds_lines.specs.declared.line.Kind.TheVariants as a
use Rattle.mds_records.specs.declared.file.FaultCode.TheVariants.{MissingEnd}
use Rattle.mds_walk.specs.Governing.{is_this}
use Rattle.mds_walk.specs.Said.{is_headed}
use Rattle.mds_statements.specs.Statements.{Statement}
use Rattle.mds_nem13.specs.FileReaderSteps.{Knows, last_kind}
use Rattle.mds_nem13.specs.declared.file_reader.LastRecord.{LastRecord}
use Rattle.mds_nem13.proofs.Steps.{told_all}
use Rattle.mds_nem13.proofs.file_reader.FileReaderRecordSink.finish.Goals as goal

pub returns-in-End : goal.returns-in-End
returns-in-End g c = λ before h.
    let all = told_all before h.done (subst (λ (l : LastRecord). Knows before l h.done) c.in-End.is h.knows) in
    let last = h.knows.previous ∙ ap last_kind c.in-End.is in (
      ap (λ k. cond (is_this a.EndOfData k) None (Some MissingEnd)) last,
      (subst (λ (d : List Statement). g.T.PeriodSink.told c.args.self.sink d) (sym all.0) h.told_is, ap is_headed all.0 ∙ all.1),
    )
