use Rattle.std.proofs.Common.{refl, Bool, ◌≡◌, Option, None, Some, IfSome, Result, Err}
use Rattle.std.proofs.lemmas.Result.{err_from_is_err_and}
use Rattle.mds_lines.specs.declared.reader.LineFault.{LineFault}
use Rattle.mds_lines.specs.Readers.{reader_lines, reader_source}
use Rattle.mds_lines.proofs.reader.LineReader.next.Goals as goal

-- The same fault stands in results of two types.
other_type : (A B : Type 0) (kept : Option LineFault) (fault : LineFault) (P Q : Type 0)
    → IfSome kept (λ f. (◌≡◌ {A = Result A LineFault} (Err fault) (Err f)) × P × Q)
    → IfSome kept (λ f. (◌≡◌ {A = Result B LineFault} (Err fault) (Err f)) × P × Q)
other_type A B None fault P Q h = tt
other_type A B (Some f) fault P Q h = (cc, h.1, h.2)

pub returns-in_err-advance : goal.returns-in_err-advance
returns-in_err-advance g c =
    let p = err_from_is_err_and c.from_residual.result c.from_residual.ensures.1 in
    let a = c.in_err-advance.ensures in
    let old = c.args.self.now in
    let kept_lines = c.advance.new.self ≡ reader_lines old in
    let kept_source = c.advance.new.source ≡ reader_source old in
    rw (p.1, p.2) (
      (
        refl,
        (λ _. tt),
        record {
          next = tt;
          too_large = λ number e. a.too_large number (cc);
          read = λ e. a.read (cc);
          no_failure = λ other. a.no_failure (λ e. other (cc));
          takes = a.takes;
          kept = a.kept;
          again = other_type Bool _ _ c.in_err-advance.field-0.0 kept_lines kept_source a.again;
        },
      ),
      tt,
    )
