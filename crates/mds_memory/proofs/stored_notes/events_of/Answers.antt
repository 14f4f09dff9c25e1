use Rattle.std.proofs.Common.{◌∙◌}
use Rattle.mds_memory.specs.StoredNotes.{IsEventNoteOf}
use Rattle.mds_memory.proofs.Ranges.{events_begin, events_done, one_event}
use Rattle.mds_memory.proofs.Runs.{at_end, at_other}
use Rattle.mds_memory.proofs.stored_notes.events_of.Goals as goal
use Rattle.mds_memory.proofs.stored_notes.events_of.Goals.{in-None, in-Some+in_default}

pub loop-note-init : goal.loop-note-init
loop-note-init c =
    events_begin c.args.notes.now c.args.stream c.args.day _ c.first_event.result _ c.new-events.ensures.items
    c.first_event.ensures (c.into_iter-note-iterator.ensures.into_iter_gives ∙ c.range-note-items.ensures.between tt)

pub loop-note-preserved : goal.loop-note-preserved
loop-note-preserved c =
    one_event c.args.notes.now c.args.stream c.args.day _ c.push.new.self.items _ c.next.new.self c.in-Some.note.now
    c.in-Some-event_of.event.now _ c.loop-note.invariant c.in-Some.ensures.steps c.in-Some-event_of.ensures.some.0
    c.in-Some-event_of.ensures.some.1 c.in_ok-try_clone.ensures.value c.in_ok-push.ensures.items

pub returns : goal.returns
returns c =
    events_done c.args.notes.now c.args.stream c.args.day _ c.loop-note.note-iterator c.range-note-items.ensures.ordered
    c.loop-note.invariant
    (elim c.match-next.branch [
      | in-None w ↦ at_end (IsEventNoteOf c.args.stream c.args.day) _ w.in-None.ensures.steps.0
      | in-Some+in_default w ↦ at_other (IsEventNoteOf c.args.stream c.args.day) _ c.next.new.self w.in-Some.note.now
          w.in-Some.ensures.steps w.in_default.ensures.none
    ])
