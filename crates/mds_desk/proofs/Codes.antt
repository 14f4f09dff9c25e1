-- The codes of faults and of refusals have at most three letters.
use Rattle.std.proofs.Common.{◌≤◌, length, arith}
use Rattle.mds_records.specs.Printed.{code_text}
use Rattle.mds_records.specs.declared.file.FaultCode.{FaultCode}
use Rattle.mds_records.specs.declared.file.FaultCode.TheVariants.{NotText, UnknownRecord, OutOfPlace, FieldCount, BadField, RunRange, RunOrder, RunGap, MissingEnd, TooLarge, WrongFile, NoValue}
use Rattle.mds_keeper.specs.Refusals.{code_text as rule_text}
use Rattle.mds_keeper.specs.declared.refusal.RefusalCode.{RefusalCode}
use Rattle.mds_keeper.specs.declared.refusal.RefusalCode.TheVariants.{LengthConflict, UnitConflict, VersionConflict, JobReused, Protected, StaleUpdate, NoLikeDay, TooLong, NoAnchor, UnknownDay, BadJob, RangeTooWide}

pub code_short : (code : FaultCode) → length (code_text code) ≤ 3
code_short NotText = omega arith
code_short UnknownRecord = omega arith
code_short OutOfPlace = omega arith
code_short FieldCount = omega arith
code_short BadField = omega arith
code_short RunRange = omega arith
code_short RunOrder = omega arith
code_short RunGap = omega arith
code_short MissingEnd = omega arith
code_short TooLarge = omega arith
code_short WrongFile = omega arith
code_short NoValue = omega arith

pub rule_short : (code : RefusalCode) → length (rule_text code) ≤ 3
rule_short LengthConflict = omega arith
rule_short UnitConflict = omega arith
rule_short VersionConflict = omega arith
rule_short JobReused = omega arith
rule_short Protected = omega arith
rule_short StaleUpdate = omega arith
rule_short NoLikeDay = omega arith
rule_short TooLong = omega arith
rule_short NoAnchor = omega arith
rule_short UnknownDay = omega arith
rule_short BadJob = omega arith
rule_short RangeTooWide = omega arith
