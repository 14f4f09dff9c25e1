use Rattle.std.proofs.Common.{◌≡◌, subst, sym}
use Rattle.std.proofs.lemmas.Str.{IsUtf8-from_is_utf8}
use Rattle.std.specs.Str.{IsUtf8}
use Rattle.mds_tables.proofs.terms.str_at.Goals as goal

pub returns-in-Err-clause-none : goal.returns-in-Err-clause-none
returns-in-Err-clause-none c = λ text known is.
    let same : c.in_ok-text_at.field-0.now ≡ text = let some = c.in_ok-text_at.ensures.some in cc in
    c.in-Err.ensures.cases.0 (subst IsUtf8 (sym same) (IsUtf8-from_is_utf8 text known))
