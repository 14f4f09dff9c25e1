use Rattle.std.proofs.Common.{◌%◌, ◌∙◌, ap, sym, arith, unsigned_abs}
use Rattle.std.specs.Int.{w64}
use Rattle.std.proofs.lemmas.Int.{to_z-of_z, fits_signed_from_abs}
use Rattle.mds_export.proofs.Fields.{short_moment, long_moment}
use Rattle.mds_export.proofs.row.moment_digits.Goals as goal

pub returns-then-seconds-eq0-clause-text : goal.returns-then-seconds-eq0-clause-text
returns-then-seconds-eq0-clause-text c =
    let is = c.unsigned_abs-seconds.ensures.value ∙ ap unsigned_abs (to_z-of_z w64 c.seconds.result (fits_signed_from_abs w64 c.seconds.result (omega (arith, ap unsigned_abs c.seconds.ensures.value, c.seconds.ensures.last))) ∙ c.seconds.ensures.value) in
    short_moment c.digits-digits.result c.args.moment c.digits-digits.ensures (ap (λ n. n % 60) (sym is) ∙ c.if-seconds-eq0.true)

pub returns-else-seconds-eq0-clause-text : goal.returns-else-seconds-eq0-clause-text
returns-else-seconds-eq0-clause-text c =
    let is = c.unsigned_abs-seconds.ensures.value ∙ ap unsigned_abs (to_z-of_z w64 c.seconds.result (fits_signed_from_abs w64 c.seconds.result (omega (arith, ap unsigned_abs c.seconds.ensures.value, c.seconds.ensures.last))) ∙ c.seconds.ensures.value) in
    long_moment c.digits-digits.result c.args.moment c.digits-digits.ensures (λ zero. c.if-seconds-eq0.false (ap (λ n. n % 60) is ∙ zero))
