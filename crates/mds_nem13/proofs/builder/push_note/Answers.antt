use Rattle.std.proofs.Common.{◌≡◌, ◌∙◌, ◌∷◌, [], string_bytes, subst}
use Rattle.mds_lines.specs.Lines.{line_feed}
use Rattle.mds_nem13.specs.BuilderSteps.{AppendsLine}
use Rattle.mds_nem13.specs.Said.{note_in}
use Rattle.mds_nem13.specs.declared.accumulation.Accumulation.{Accumulation}
use Rattle.mds_nem13.proofs.Tellings.{last_is, last_set}
use Rattle.mds_nem13.proofs.builder.push_note.Goals as goal

pub returns-in_ok-write_note : goal.returns-in_ok-write_note
returns-in_ok-write_note c = λ line s front last e.
    let was : c.in-Some.last.now ≡ last = c.in-Some.ensures.value ∙ last_is _ front last _ _ c.args.accumulations.now.ok.0 e in
    let gained = subst (λ (a : Accumulation). AppendsLine (line_feed ∷ []) (string_bytes a.content) (string_bytes c.write_note.new.out) (note_in line))
    was (c.in_ok-write_note.ensures line s) in
    (record c.in-Some.last.now { content = c.write_note.new.out }, last_set _ front last _ _ c.args.accumulations.now.ok.0 e, (cc, gained))
