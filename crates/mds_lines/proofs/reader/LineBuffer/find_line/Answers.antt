use Rattle.std.proofs.Common.{ℕ, ◌<◌, ◌+◌, length, sym, ◌∙◌, ap, arith, subst, ◌⊎◌}
use Rattle.std.specs.Io.KnownBytes.{Keeps}
use Rattle.mds_lines.specs.Buffered.{Buffered, text_left}
use Rattle.mds_lines.specs.Lines.{longest_line, most_lines}
use Rattle.std.proofs.lemmas.List.{length-take, length-drop}
use Rattle.mds_lines.proofs.Lefts.{finds_line, over_limit, named_fault, found_line, err_gives}
use Rattle.mds_lines.proofs.Taken.{takes_either}
use Rattle.mds_lines.proofs.reader.LineBuffer.find_line.Goals as goal

pub returns-clause-next : goal.returns-clause-next
returns-clause-next g c = λ faultless.
    let h = c.in_ok-size.ensures in
    let size = simp (length-take, length-drop) at (ap length (ap (λ v. v.pending) c.self.view_is)) in
    let items = c.self.inside.bytes.ok.0 in
    let some : 0 < length c.piece_size.new.self.pending = omega (arith, c.self.invariant) in
    found_line c.take_piece.result _ _ _ c.take_piece.ensures.ok (λ take. finds_line c.args.self.now c.piece_size.new.self c.take_piece.new.self c.in_ok-size.size _ _ faultless h.left h.kept.0 h.kept.1 h.reaches some take)

pub returns-clause-too_large : goal.returns-clause-too_large
returns-clause-too_large g c = λ number e.
    let h = c.in_ok-size.ensures in
    let size = simp (length-take, length-drop) at (ap length (ap (λ v. v.pending) c.self.view_is)) in
    let items = c.self.inside.bytes.ok.0 in
    let some : 0 < length c.piece_size.new.self.pending = omega (arith, c.self.invariant) in
    let named = named_fault c.take_piece.result _ number _ c.take_piece.ensures.err e in (
      named.0 ∙ ap (λ k. k + 1) h.kept.0,
      over_limit c.args.self.now c.piece_size.new.self c.in_ok-size.size number _ _ h.left h.reaches some (subst (λ (k : ℕ). (longest_line < c.in_ok-size.size) ⊎ (most_lines < k)) (sym named.0) named.1),
      subst (λ (b : Buffered). Keeps (text_left c.args.self.now (g.R.Source.remaining c.args.source.now)) (text_left b (g.R.Source.remaining c.piece_size.new.source)))
          (sym (err_gives c.take_piece.result _ _ c.take_piece.ensures.kept e)) h.left,
    )

pub returns-clause-takes : goal.returns-clause-takes
returns-clause-takes g c =
    let h = c.in_ok-size.ensures in
    takes_either _ _ _ _ c.piece_size.new.self _ c.in_ok-size.size c.take_piece.result h.gathers h.reaches c.take_piece.ensures.ok c.take_piece.ensures.kept
