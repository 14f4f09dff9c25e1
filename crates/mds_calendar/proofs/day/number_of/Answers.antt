use Rattle.std.proofs.Common.{◌∙◌, pos, refl, arith, to_z, w8, w16, w64}
use Rattle.std.proofs.lemmas.Bool.{false≢true}
use Rattle.std.proofs.lemmas.Int.{to_z_pos, to_z-of_z, fits_signed_from_abs}
use Rattle.jiff.proofs.SpanFacts.{signed_arith}
use Rattle.mds_calendar.specs.Calendar.{day_number}
use Rattle.mds_calendar.proofs.Days.{is_date_not, date_moved, number_is}
use Rattle.mds_calendar.proofs.day.number_of.Goals as goal

pub returns-in_default-clause-value : goal.returns-in_default-clause-value
returns-in_default-clause-value c =
    let y = c.args.year in
    let m = c.args.month in
    let d = c.args.day in
    let e = to_z_pos w16 y (omega arith) in
    let k = to_z_pos w8 m (omega arith) in
    let l = to_z_pos w8 d (omega arith) in
    rw (is_date_not y m d c.requires.year (λ h. false≢true (c.in_default.ensures.succeeds.1 (date_moved (to_z w16 y) (to_z w8 m) (to_z w8 d) (pos y) (pos m) (pos d) e k l h))))

pub overflow_cast-result : goal.overflow_cast-result
overflow_cast-result c =
    let n = number_is c.args.year c.args.month c.args.day c.in-Ok.date c.if-year-lt-FIRST_YEAR.false c.requires.year c.requires.month c.requires.day c.in-Ok.ensures.value in
    rw (c.days_to.ensures ∙ n.1) (omega (arith, signed_arith, n.2))

pub returns-clause-value : goal.returns-clause-value
returns-clause-value c =
    let n = number_is c.args.year c.args.month c.args.day c.in-Ok.date c.if-year-lt-FIRST_YEAR.false c.requires.year c.requires.month c.requires.day c.in-Ok.ensures.value in
    let number = pos (day_number c.args.year c.args.month c.args.day) in
    let back = to_z-of_z w64 number (fits_signed_from_abs w64 number (omega (arith, n.2))) in
    rw (c.days_to.ensures ∙ n.1, back, n.0) refl

pub returns-clause-last : goal.returns-clause-last
returns-clause-last c =
    let n = number_is c.args.year c.args.month c.args.day c.in-Ok.date c.if-year-lt-FIRST_YEAR.false c.requires.year c.requires.month c.requires.day c.in-Ok.ensures.value in
    let number = pos (day_number c.args.year c.args.month c.args.day) in
    let back = to_z-of_z w64 number (fits_signed_from_abs w64 number (omega (arith, n.2))) in
    rw (c.days_to.ensures ∙ n.1, back) n.2
