-- The columns of the row that names a fact (profile), without a rowid.
use Rattle.std.specs.Prelude.{ℕ, ℤ, pos, negsuc, List, [], ◌∷◌, Option, Some, None, unwrap_or}
use Rattle.sqlite_value.specs.Order.{Row}
use Rattle.sqlite.specs.declared.types.Value.{Value}
use Rattle.sqlite.specs.declared.types.Value.TheVariants.{Int, Text}
use Rattle.mds_quantity.specs.Unit.{unit_text}
use Rattle.mds_names.specs.declared.stream.Stream.{Stream}
use Rattle.mds_marks.specs.Quality.{quality_text}
use Rattle.mds_marks.specs.Reading.{ReadingValue}
use Rattle.mds_terms.specs.Event.{EventValue}
use Rattle.mds_statements.specs.declared.periods.PeriodKey.{PeriodKey}
use Rattle.mds_world.specs.declared.facts.Detail.{Detail}
use Rattle.mds_world.specs.declared.facts.Head.{Head}
use Rattle.mds_world.specs.declared.facts.Key.{Key}

abbrev pub number_cell : ℕ → Value
number_cell n = Int (pos n)

abbrev pub optional_cell : Option ℕ → Value
optional_cell None = Int (negsuc 0)
optional_cell (Some n) = Int (pos n)

abbrev pub stream_cells : Stream → Row
stream_cells s = Text s.nmi ∷ Text s.suffix ∷ []

abbrev pub day_cells : Stream → ℕ → Row
day_cells s day = Text s.nmi ∷ Text s.suffix ∷ number_cell day ∷ []

-- a stream, and the first and the last day of a range
abbrev pub range_cells : Stream → ℕ → ℕ → Row
range_cells s first last = Text s.nmi ∷ Text s.suffix ∷ number_cell first ∷ number_cell last ∷ []

-- a row of mds_head in schemas 1 to 3, which says no update
abbrev pub head_cells : Head → Row
head_cells h =
    Text h.stream.nmi ∷ Text h.stream.suffix ∷ number_cell h.day ∷ number_cell h.length ∷ Text (unit_text h.unit) ∷ []

-- a row of mds_head since schema 4, which says a day and its unit; its length column is 0
abbrev pub unit_cells : Head → Row
unit_cells h =
    Text h.stream.nmi ∷ Text h.stream.suffix ∷ number_cell h.day ∷ number_cell 0 ∷ Text (unit_text h.unit) ∷ []

-- a row of mds_form, which says a head without its unit
abbrev pub form_cells : Head → Row
form_cells h =
    Text h.stream.nmi ∷ Text h.stream.suffix ∷ number_cell h.day ∷ number_cell h.update ∷ number_cell h.length ∷ []

-- The length has no column. A reading of quality N has the amount 0.
abbrev pub version_cells : Key → ReadingValue → Row
version_cells k r =
    Text k.stream.nmi ∷ Text k.stream.suffix ∷ number_cell k.day ∷ number_cell k.interval ∷ number_cell k.update
    ∷ Text (quality_text r.mark.quality) ∷ optional_cell r.mark.reason.code ∷ Text r.mark.reason.text
    ∷ Int (unwrap_or r.value (pos 0)) ∷ []

-- details of a day
abbrev pub detail_cells : Detail → Row
detail_cells d =
    Text d.stream.nmi ∷ Text d.stream.suffix ∷ number_cell d.day ∷ number_cell d.moment ∷ Text d.details.configuration
    ∷ Text d.details.register ∷ Text d.details.datastream ∷ Text d.details.meter ∷ optional_cell d.details.next ∷ []

abbrev pub letter_text : Option ℕ → List ℕ
letter_text None = []
letter_text (Some letter) = letter ∷ []

abbrev pub event_cells : EventValue → Row
event_cells e =
    Text e.nmi ∷ Text e.suffix ∷ number_cell e.day ∷ Text (letter_text e.trans) ∷ Text e.ticket
    ∷ optional_cell e.moment ∷ Text e.reading ∷ []

abbrev pub period_key_cells : PeriodKey → Row
period_key_cells k =
    Text k.stream.nmi ∷ Text k.stream.suffix ∷ Text k.register ∷ number_cell k.start ∷ number_cell k.finish
    ∷ number_cell k.update ∷ []

-- a key, and a body
abbrev pub period_cells : PeriodKey → List ℕ → Row
period_cells k body =
    Text k.stream.nmi ∷ Text k.stream.suffix ∷ Text k.register ∷ number_cell k.start ∷ number_cell k.finish
    ∷ number_cell k.update ∷ Text body ∷ []

abbrev pub holiday_cells : ℕ → Row
holiday_cells day = number_cell day ∷ []

-- an id, a body, and a count
abbrev pub job_cells : List ℕ → List ℕ → ℤ → Row
job_cells id body count = Text id ∷ Text body ∷ Int count ∷ []
