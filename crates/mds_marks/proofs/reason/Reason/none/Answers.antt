use Rattle.mds_marks.proofs.Reasons.{empty_is_text}
use Rattle.mds_marks.proofs.reason.Reason.none.Goals as goal

pub invariant_of-result : goal.invariant_of-result
invariant_of-result c = empty_is_text
