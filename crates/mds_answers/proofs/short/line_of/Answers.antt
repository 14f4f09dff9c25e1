use Rattle.std.proofs.Common.{true, false, codes, refl}
use Rattle.mds_records.specs.Printed.{code_text as fault_code_text}
use Rattle.mds_keeper.specs.Refusals.{code_text as rule_code_text}
use Rattle.mds_answers.specs.Json.{counts, filled, refused}
use Rattle.mds_answers.proofs.short.line_of.Goals as goal

pub returns-in-Imported : goal.returns-in-Imported
returns-in-Imported c =
    (counts c.in-Imported.added c.in-Imported.known, rw c.in-Imported.is refl, c.counts_line.ensures)

pub returns-in-Substituted : goal.returns-in-Substituted
returns-in-Substituted c =
    (filled c.in-Substituted.count false, rw c.in-Substituted.is refl, c.filled_line.ensures)

pub returns-in-Known : goal.returns-in-Known
returns-in-Known c = (filled c.in-Known.count true, rw c.in-Known.is refl, c.filled_line-in-Known.ensures)

pub returns-in-HolidaysAdded : goal.returns-in-HolidaysAdded
returns-in-HolidaysAdded c = (
  counts c.in-HolidaysAdded.added c.in-HolidaysAdded.known,
  rw c.in-HolidaysAdded.is refl,
  c.counts_line-in-HolidaysAdded.ensures,
)

pub returns-in-File : goal.returns-in-File
returns-in-File c =
    let fault = c.in-File.fault in
    (refused (fault_code_text fault.code) fault.field 0 fault.line, rw c.in-File.is refl, c.fault_line.ensures)

pub returns-in-Refused : goal.returns-in-Refused
returns-in-Refused c =
    let refusal = c.in-Refused.refusal in (
      refused (rule_code_text refusal.code) refusal.field refusal.interval refusal.line,
      rw c.in-Refused.is refl,
      c.refusal_line.ensures,
    )

pub returns-in-Unavailable : goal.returns-in-Unavailable
returns-in-Unavailable c = (refused (codes "U1") 0 0 0, rw c.in-Unavailable.is refl, c.unavailable_line.ensures)
