use Rattle.std.proofs.Common.{◌++◌, ◌∙◌, ap, subst, string_bytes, sym}
use Rattle.std.proofs.lemmas.List.{append-nil}
use Rattle.std.proofs.lemmas.Result.{on_ok_weaker}
use Rattle.mds_lines.specs.Lines.{field}
use Rattle.mds_nem13.specs.BuilderSteps.{IsApart}
use Rattle.mds_nem13.proofs.Apart.{each_more, line_written, printable_apart}
use Rattle.mds_nem13.proofs.content.write_fields.Goals as goal

pub returns : goal.returns
returns c = λ line s.
    let old = string_bytes c.args.out.now in
    let same = c.text.ensures.value ∙ s.configuration in
    let begun = c.in_ok-push_str.ensures.bytes ∙ ap (λ t. old ++ t) same ∙ ap (λ t. t ++ field line 3) (sym (append-nil old)) in
    let apart = subst IsApart s.configuration (printable_apart _ c.text.ensures.printable) in
    let meter = c.in_ok-write_meter.ensures line s in
    let previous = c.in_ok-write_read.ensures (field line 9) (field line 10) (field line 11) (field line 12) (field line 13) s.previous in
    let current = c.in_ok-write_read-2.ensures (field line 14) (field line 15) (field line 16) (field line 17) (field line 18) s.current in
    let front = each_more _ _ _ _ _ (each_more _ _ _ _ _ meter previous) current in
    on_ok_weaker c.write_amount.result (λ p. line_written _ _ _ _ (field line 3) _ begun apart (each_more _ _ _ _ _ front p)) (c.write_amount.ensures line s)
