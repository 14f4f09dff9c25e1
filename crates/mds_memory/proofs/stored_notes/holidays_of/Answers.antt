use Rattle.std.proofs.Common.{◌∙◌}
use Rattle.mds_memory.specs.StoredNotes.{IsHolidayNote}
use Rattle.mds_memory.proofs.Ranges.{holidays_begin, holidays_done, one_holiday}
use Rattle.mds_memory.proofs.Runs.{at_end, at_other}
use Rattle.mds_memory.proofs.stored_notes.holidays_of.Goals as goal
use Rattle.mds_memory.proofs.stored_notes.holidays_of.Goals.{in-None, in-Some+in_default}

pub loop-note-init : goal.loop-note-init
loop-note-init c =
    holidays_begin c.args.notes.now _ c.first_holiday.result _ c.new-days.ensures.items c.first_holiday.ensures
    (c.into_iter-note-iterator.ensures.into_iter_gives ∙ c.range-note-items.ensures.between tt)

pub loop-note-preserved : goal.loop-note-preserved
loop-note-preserved c =
    one_holiday c.args.notes.now _ c.push.new.self.items _ c.next.new.self c.in-Some.note.now c.in-Holiday.day
    c.loop-note.invariant c.in-Some.ensures.steps c.in-Holiday.is c.in_ok-push.ensures.items

pub returns : goal.returns
returns c =
    holidays_done c.args.notes.now _ c.loop-note.note-iterator c.range-note-items.ensures.ordered c.loop-note.invariant
    (elim c.match-next.branch [
      | in-None w ↦ at_end IsHolidayNote _ w.in-None.ensures.steps.0
      | in-Some+in_default w ↦ at_other IsHolidayNote _ c.next.new.self w.in-Some.note.now w.in-Some.ensures.steps
          (λ h. w.in_default.not-Holiday h.0 h.1)
    ])
