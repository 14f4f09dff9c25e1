use Rattle.std.proofs.Common.{sym, ◌∙◌, ap, arith}
use Rattle.std.specs.Prelude.{ok_or}
use Rattle.mds_lines.specs.Kinds.{kind_named}
use Rattle.mds_lines.specs.declared.line.KindFault.TheVariants.{Unknown}
use Rattle.mds_lines.proofs.KindFacts.{kind_not_text, kind_text, first_field}
use Rattle.mds_lines.proofs.line.Line.kind.Goals as goal

pub returns-then-not-is_utf8 : goal.returns-then-not-is_utf8
returns-then-not-is_utf8 c =
    sym (kind_not_text _ (λ u. let t = c.is_utf8.ensures.1 u in grind (arith)))

pub returns : goal.returns
returns c =
    let line = c.args.self.now.text.now in
    let utf8 = c.is_utf8.ensures.0 c.if-not-is_utf8.false in
    let first = ap (λ i. i.now) c.unwrap_or-indicator.ensures ∙ first_field c.get.result _ c.fields.result line c.fields.ensures c.get.ensures in
    c.ok_or.ensures.value ∙ ap (λ k. ok_or k Unknown) c.kind_named.ensures ∙ ap (λ i. ok_or (kind_named i) Unknown) first
    ∙ sym (kind_text line utf8)
