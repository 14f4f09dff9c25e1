use Rattle.std.proofs.Common.{◌≡◌, ◌∙◌, ◌/◌, ◌%◌, Some, ap, arith, unsigned_abs, w64}
use Rattle.std.proofs.lemmas.Int.{to_z_pos}
use Rattle.mds_calendar.proofs.Days.{day_of_parts, parts_are}
use Rattle.mds_calendar.proofs.Moments.{moment_of_text}
use Rattle.mds_calendar.proofs.moment.Moment.digits.Goals as goal

pub returns : goal.returns
returns c =
    let n = c.self.inside.seconds in
    let s = n % 86_400 in
    let made = rw c.unwrap-day.ensures at c.from_number.ensures in
    let day : c.unwrap-day.result ≡ n / 86_400 = made.1 ∙ ap unsigned_abs (to_z_pos w64 (n / 86_400) (omega arith)) in
    let len = (parts_are c.digits.result (day_of_parts c.digits.result c.unwrap-day.result c.digits.ensures).0).0 in
    let e = moment_of_text c.digits.result c.unwrap-day.result (s / 3_600) (s / 60 % 60) (s % 60) len c.digits.ensures (omega arith) (omega arith) (omega arith) in
    rw (c.copy_from_slice.ensures.after, c.write_pair-3.ensures, c.write_pair-2.ensures, c.write_pair.ensures) (e ∙ ap Some (omega (arith, day, c.self.view_is)))
