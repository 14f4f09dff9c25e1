use Rattle.std.proofs.Common.{◌≡◌, [], ◌∷◌, ◌++◌, ◌∙◌, subst}
use Rattle.std.proofs.lemmas.Result.{on_ok_weaker}
use Rattle.csv.specs.Writing.{default_writer, row_text}
use Rattle.mds_registers.specs.Registers.{gap_fields}
use Rattle.mds_registers.specs.RegistersSteps.{HasWritten}
use Rattle.mds_registers.proofs.writing.write_gap.Goals as goal

pub returns : goal.returns
returns c text has =
    let date = c.digits-date.result in
    let nmi = c.as_bytes.ensures.value ∙ c.text.ensures.value in
    let suffix = c.as_bytes-2.ensures.value ∙ c.text-2.ensures.value in
    let first = c.as_bytes-3.ensures.value ∙ c.format-first.ensures.text in
    let last = c.as_bytes-4.ensures.value ∙ c.format-last.ensures.text in
    let fields : c.as_bytes.result.now ∷ c.as_bytes-2.result.now ∷ date ∷ c.as_bytes-3.result.now ∷ c.as_bytes-4.result.now ∷ []
    ≡ gap_fields c.args.stream.now c.args.row.now date =
    λ k. nmi k ∷ suffix k ∷ date ∷ first k ∷ last k ∷ [] in
    on_ok_weaker c.write_row.result
    (λ written. (
      date,
      c.digits-date.ensures,
      subst (λ fs. HasWritten c.write_row.new.writer (text ++ row_text default_writer fs)) fields written,
    ))
    (c.write_row.ensures text has)
