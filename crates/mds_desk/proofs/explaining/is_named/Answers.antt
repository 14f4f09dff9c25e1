use Rattle.mds_desk.proofs.Headings.{named_is}
use Rattle.mds_desk.proofs.explaining.is_named.Goals as goal

pub returns : goal.returns
returns c = rw c.name_of.ensures at (named_is _ _ _ c.eq_ignore_ascii_case.ensures.test)
