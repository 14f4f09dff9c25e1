use Rattle.std.proofs.Common.{ap, sym, subst, Some}
use Rattle.std.specs.Io.KnownBytes.{Keeps}
use Rattle.mds_lines.specs.Buffered.{Buffered, text_left}
use Rattle.mds_lines.proofs.reader.LineBuffer.advance.Goals as goal

pub returns-in-Err-clause-too_large : goal.returns-in-Err-clause-too_large
returns-in-Err-clause-too_large g c = λ number e faultless.
    let h = c.in-Err.ensures.too_large number e in
    let left = subst (λ (b : Buffered). Keeps (text_left c.args.self.now (g.R.Source.remaining c.args.source.now)) (text_left b (g.R.Source.remaining c.find_line-found.new.source)))
    (sym c.self-2.view_is) h.2 in
    record { next = h.0; pieces = h.1; left = left; kept = ap Some (cc) }
