-- The codes of faults and of refusals are plain.
use Rattle.std.proofs.Common.{refl, arith}
use Rattle.serde_json.proofs.OnLiterals.{serde_json_on_literals}
use Rattle.mds_records.specs.Printed.{code_text}
use Rattle.mds_records.specs.declared.file.FaultCode.{FaultCode}
use Rattle.mds_records.specs.declared.file.FaultCode.TheVariants.{NotText, UnknownRecord, OutOfPlace, FieldCount, BadField, RunRange, RunOrder, RunGap, MissingEnd, TooLarge, WrongFile, NoValue}
use Rattle.mds_keeper.specs.Refusals.{code_text as rule_text}
use Rattle.mds_keeper.specs.declared.refusal.RefusalCode.{RefusalCode}
use Rattle.mds_keeper.specs.declared.refusal.RefusalCode.TheVariants.{LengthConflict, UnitConflict, VersionConflict, JobReused, Protected, StaleUpdate, NoLikeDay, TooLong, NoAnchor, UnknownDay, BadJob, RangeTooWide}
use Rattle.mds_answers.specs.JsonSteps.{IsPlain}

pub code_plain : (code : FaultCode) → IsPlain (code_text code)
unfolding serde_json_on_literals
code_plain NotText = (omega arith, refl)
code_plain UnknownRecord = (omega arith, refl)
code_plain OutOfPlace = (omega arith, refl)
code_plain FieldCount = (omega arith, refl)
code_plain BadField = (omega arith, refl)
code_plain RunRange = (omega arith, refl)
code_plain RunOrder = (omega arith, refl)
code_plain RunGap = (omega arith, refl)
code_plain MissingEnd = (omega arith, refl)
code_plain TooLarge = (omega arith, refl)
code_plain WrongFile = (omega arith, refl)
code_plain NoValue = (omega arith, refl)

pub rule_plain : (code : RefusalCode) → IsPlain (rule_text code)
unfolding serde_json_on_literals
rule_plain LengthConflict = (omega arith, refl)
rule_plain UnitConflict = (omega arith, refl)
rule_plain VersionConflict = (omega arith, refl)
rule_plain JobReused = (omega arith, refl)
rule_plain Protected = (omega arith, refl)
rule_plain StaleUpdate = (omega arith, refl)
rule_plain NoLikeDay = (omega arith, refl)
rule_plain TooLong = (omega arith, refl)
rule_plain NoAnchor = (omega arith, refl)
rule_plain UnknownDay = (omega arith, refl)
rule_plain BadJob = (omega arith, refl)
rule_plain RangeTooWide = (omega arith, refl)
