-- Notes by their kind, their stream and their day.
use Rattle.std.specs.Prelude.{◌≡◌, ◌⊎◌, ◌-◌, ℕ, List, [], ◌∷◌, ◌++◌, length, slice_get, None, Some}
use Rattle.mds_names.specs.declared.stream.Stream.{Stream}
use Rattle.mds_terms.specs.Event.{EventValue}
use Rattle.mds_world.specs.World.{IsEventOf}
use Rattle.mds_memory.specs.declared.stored_notes.Note.{Note}
use Rattle.mds_memory.specs.declared.stored_notes.Note.TheVariants.{Event, Holiday}

-- the note is an event of the day
abbrev pub IsEventNoteOf : Stream → ℕ → Note → Type 0
IsEventNoteOf stream day note = (event : EventValue) × (note ≡ Event event) × IsEventOf stream day event

-- the note is a holiday
abbrev pub IsHolidayNote : Note → Type 0
IsHolidayNote note = (day : ℕ) × (note ≡ Holiday day)

-- an event that sorts before all others of its day
abbrev pub first_of_day : Stream → ℕ → EventValue
first_of_day stream day = record {
  nmi = stream.nmi;
  suffix = stream.suffix;
  day = day;
  trans = None;
  ticket = [];
  moment = None;
  reading = [];
}

-- the stream is the last of a list
abbrev pub IsAtEnd : Stream → List Stream → Type 0
IsAtEnd stream streams = slice_get streams (length streams - 1) ≡ Some stream

-- the stream is appended to a list, unless it is the last one already
abbrev pub PutsLast : Stream → List Stream → List Stream → Type 0
PutsLast stream old new =
    (IsAtEnd stream old × (new ≡ old)) ⊎ ((IsAtEnd stream old → ⊥) × (new ≡ old ++ stream ∷ []))
