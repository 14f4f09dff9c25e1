use Rattle.mds_calendar.proofs.Moments.{moment_parts}
use Rattle.mds_calendar.proofs.Texts.{ok_from, are_digits_utf8}
use Rattle.mds_calendar.proofs.moment.Moment.write_to.Goals as goal

pub unwrap-requires : goal.unwrap-requires
unwrap-requires c = ok_from c.from_utf8.result _ _ c.from_utf8.ensures.cases (λ e q. q.0 (are_digits_utf8 14 c.digits.result (moment_parts c.digits.result _ c.digits.ensures).1.1))
