use Rattle.std.proofs.Common.{rules, ap, sym, ◌∙◌, ◌≡◌}
use Rattle.mds_statements.specs.Contents.{content_of}
use Rattle.mds_statements.proofs.OneText.{one_text}
use Rattle.mds_statements.proofs.periods.PeriodContent.is_same.Goals as goal

pub returns : goal.returns
returns c =
    let one : c.args.self.now ≡ c.args.other.now → c.text.result.now ≡ c.text-2.result.now =
    λ e. one_text _ _ (c.text.ensures ∙ e ∙ sym c.text-2.ensures) in
    let back : c.text.result.now ≡ c.text-2.result.now → c.args.self.now ≡ c.args.other.now =
    λ e. sym c.text.ensures ∙ ap content_of e ∙ c.text-2.ensures in
    search rules
