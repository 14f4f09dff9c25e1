use Rattle.mds_records.proofs.Terms.{reason_parts_of}
use Rattle.mds_records.proofs.term.reason_parts.Goals as goal

pub returns-in-Some-clause-code : goal.returns-in-Some-clause-code
returns-in-Some-clause-code c = (reason_parts_of _ _ _ c.in-Some.field-0 c.in-Some.is c.requires).1

pub returns-in-Some-clause-text : goal.returns-in-Some-clause-text
returns-in-Some-clause-text c = (reason_parts_of _ _ _ c.in-Some.field-0 c.in-Some.is c.requires).0
