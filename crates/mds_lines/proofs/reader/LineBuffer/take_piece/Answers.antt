use Rattle.std.proofs.Common.{ap, ◌∙◌, take, drop, ◌+◌, length, length-take, length-drop, ◌≤◌, ◌-◌, min, add_assoc, arith, refl}
use Rattle.mds_lines.proofs.Ranges.{range_front, range_after, least}
use Rattle.mds_lines.proofs.reader.LineBuffer.take_piece.Goals as goal

pub returns-clause-ok : goal.returns-clause-ok
returns-clause-ok c =
    let b = c.self.inside in
    let xs = b.bytes.items in
    let n = c.args.size in
    let inside = c.self.invariant in
    let is = ap (λ v. v.pending) c.self.view_is in
    let size = simp (length-take, length-drop) at (ap length is) in
    let within : n ≤ b.end - b.start = omega arith in (
      refl,
      record {
        piece = range_front xs b.start b.end n within ∙ ap (take n) is;
        pending = range_after xs b.start b.end (n + 1) c.min-self-inside.result (omega arith) (c.min-self-inside.ensures ∙ least _ _ ∙ ap (λ k. min k b.end) (add_assoc b.start n 1)) ∙ ap (drop (n + 1)) is;
        is_ended = ap (λ v. v.is_ended) c.self.view_is;
        number = ap (λ v. v.number + 1) c.self.view_is;
        fault = ap (λ v. v.fault) c.self.view_is;
        short = omega arith;
        few = omega arith;
      },
    )
