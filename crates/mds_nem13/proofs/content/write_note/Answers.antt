use Rattle.std.proofs.Common.{◌++◌, ◌∙◌, ◌∷◌, List, [], ℕ, ap, arith, subst, string_bytes, sym}
use Rattle.std.proofs.lemmas.Result.{on_ok_weaker}
use Rattle.mds_lines.specs.Lines.{field, line_feed}
use Rattle.mds_terms.specs.Event.{trans_text}
use Rattle.mds_nem13.specs.BuilderSteps.{AppendsEach, IsApart}
use Rattle.mds_nem13.proofs.Apart.{each_more, line_written, printable_apart, printable_pushed, trans_apart, trans_is}
use Rattle.mds_nem13.proofs.content.write_note.Goals as goal

pub returns : goal.returns
returns c = λ line s.
    let old = string_bytes c.args.out.now in
    let fed = c.in_ok-push.ensures.bytes ∙ ap (λ t. old ++ t) (c.in_ok-push.ensures.ascii (omega arith)) in
    let first = trans_is (field line 2) _ s.previous_trans in
    let begun = c.in_ok-write_trans.ensures.done ∙ ap (λ t. t ++ trans_text c.args.note.now.previous_trans) fed ∙ ap (λ t. (old ++ line_feed ∷ []) ++ t) first in
    let apart = subst IsApart first (trans_apart _ c.in_ok-write_trans.ensures.lawful) in
    let ticket = printable_pushed _ _ _ _ (field line 3) c.text.ensures.value c.text.ensures.printable s.previous_ticket c.in_ok-push_text.ensures in
    let trans = subst (λ (t : List ℕ). AppendsEach (string_bytes c.push_text.new.out) (string_bytes c.push_trans.new.out) (t ∷ []))
    (trans_is (field line 4) _ s.current_trans) c.in_ok-push_trans.ensures in
    let front = each_more _ _ _ _ _ ticket trans in
    let last = subst IsApart (sym c.text-2.ensures.value) (printable_apart _ c.text-2.ensures.printable) in
    let same = c.text-2.ensures.value ∙ s.current_ticket in
    on_ok_weaker c.push_text-2.result
    (λ p. line_written _ _ _ _ (field line 2) _ begun apart (each_more _ _ _ _ _ front
    (subst (λ (t : List ℕ). AppendsEach (string_bytes c.push_trans.new.out) (string_bytes c.push_text-2.new.out) (t ∷ [])) same p)))
    (c.push_text-2.ensures last)
