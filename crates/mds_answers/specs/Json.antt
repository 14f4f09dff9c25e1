-- The answers of the machine as JSON (RFC 8259; the profile says which members there are). A value and its compact text are
-- those of the library `serde_json`. A day or a moment is written as the only text that reads as it.
use Rattle.std.specs.Prelude.{◌≡◌, ℕ, ◌==◌, Bool, true, false, if◌then◌else◌, List, [], ◌∷◌, ◌++◌, map, codes, decimal, Some}
use Rattle.serde_json.specs.Data.{Data, array, number, object, string, boolean, unsigned, Members, no_members, member}
use Rattle.serde_json.specs.View.{items_of}
use Rattle.serde_json.specs.Written.{compact_text}
use Rattle.mds_calendar.specs.Calendar.{day_of, moment_of}
use Rattle.mds_quantity.specs.Unit.{unit_text}
use Rattle.mds_marks.specs.Quality.{quality_text}
use Rattle.mds_marks.specs.Reading.{ReadingValue, value_text}
use Rattle.mds_marks.specs.Reason.{code_text}
use Rattle.mds_terms.specs.Event.{EventValue, trans_text}
use Rattle.mds_terms.specs.Parts.{optional}
use Rattle.mds_records.specs.Printed.{code_text as fault_code_text}
use Rattle.mds_statements.specs.declared.periods.Period.{Period}
use Rattle.mds_keeper.specs.Refusals.{code_text as rule_code_text}
use Rattle.mds_keeper.specs.declared.day_book.Version.{Version}
use Rattle.mds_messages.specs.declared.answer.Answer.{Answer}
use Rattle.mds_messages.specs.declared.answer.Answer.TheVariants as told
use Rattle.mds_messages.specs.declared.answer.DayAnswer.{DayAnswer}
use Rattle.mds_messages.specs.declared.answer.PeriodAnswer.{PeriodAnswer}
use Rattle.mds_messages.specs.declared.answer.StreamAnswer.{StreamAnswer}
use Rattle.mds_messages.specs.declared.answer.VersionsAnswer.{VersionsAnswer}

-- a whole number
abbrev pub whole : ℕ → Data
whole n = number (unsigned n)

-- a list of texts
abbrev pub texts : List (List ℕ) → Data
texts parts = array (items_of (map string parts))

-- the data of each thing, in their order
abbrev pub AreEach : {T : Type 0} → (T → Data → Type 0) → List T → List Data → Type 0
AreEach Is [] [] = Unit {0}
AreEach Is (thing ∷ things) (json ∷ more) = Is thing json × AreEach Is things more
AreEach Is things more = ⊥

-- how many were added, and how many were known
abbrev pub counts : ℕ → ℕ → Data
counts added known = object (member (codes "added") (whole added) (member (codes "known") (whole known) no_members))

-- how many intervals a job filled, and whether it was known
abbrev pub filled : ℕ → Bool → Data
filled count is_known =
    object (member (codes "count") (whole count) (member (codes "known") (boolean is_known) no_members))

-- a member with a number, unless that is 0
abbrev pub place : List ℕ → ℕ → Members → Members
place name n rest = if n == 0 then rest else member name (whole n) rest

-- a refusal: its code, and its place
abbrev pub refused : (code : List ℕ) → (field interval line : ℕ) → Data
refused code field interval line =
    object (member (codes "error") (string code)
    (place (codes "field") field (place (codes "interval") interval (place (codes "line") line no_members))))

-- the texts of a reading: the quality, the code, the text of its reason, the value
abbrev pub reading_texts : ReadingValue → List (List ℕ)
reading_texts reading =
    quality_text reading.mark.quality ∷ code_text reading.mark.reason.code ∷ reading.mark.reason.text
    ∷ value_text reading.value ∷ []

-- an event: the transaction code, the service order, the moment of the read, the index read
abbrev pub IsEvent : EventValue → Data → Type 0
IsEvent event json =
    (moment : List ℕ) × (optional moment_of moment ≡ Some event.moment)
    × (json ≡ texts (trans_text event.trans ∷ event.ticket ∷ moment ∷ event.reading ∷ []))

-- a version: its update, its reading, and the minutes of its interval
abbrev pub IsVersion : Version → Data → Type 0
IsVersion version json =
    (update : List ℕ) × (moment_of update ≡ Some version.update)
    × (json ≡ texts (update ∷ (reading_texts version.reading ++ decimal version.length ∷ [])))

-- a known day
abbrev pub IsDayData : DayAnswer → Data → Type 0
IsDayData day json =
    (date : List ℕ) × (update : List ℕ) × (events : List Data) × (day_of date ≡ Some day.day)
    × (moment_of update ≡ Some day.update) × AreEach IsEvent day.events.items events
    × (json ≡ object (member (codes "date") (string date)
    (member (codes "events") (array (items_of events))
    (member (codes "length") (whole day.length)
    (member (codes "nmi") (string day.stream.nmi)
    (member (codes "readings") (array (items_of (map (λ reading. texts (reading_texts reading)) day.readings.items)))
    (member (codes "suffix") (string day.stream.suffix)
    (member (codes "unit") (string (unit_text day.unit))
    (member (codes "update") (string update) no_members)))))))))

-- the versions of an interval
abbrev pub IsVersionsData : VersionsAnswer → Data → Type 0
IsVersionsData answer json =
    (date : List ℕ) × (versions : List Data) × (day_of date ≡ Some answer.day)
    × AreEach IsVersion answer.versions.items versions
    × (json ≡ object (member (codes "date") (string date)
    (member (codes "interval") (whole answer.interval)
    (member (codes "nmi") (string answer.stream.nmi)
    (member (codes "suffix") (string answer.stream.suffix)
    (member (codes "versions") (array (items_of versions)) no_members))))))

-- an accumulation: the kept fields of its 250 record, then its update, no matter who stated it, and its 550 records
abbrev pub IsPeriod : Period → Data → Type 0
IsPeriod period json =
    (update : List ℕ) × (moment_of update ≡ Some period.key.update)
    × (json ≡ object (member (codes "fields") (texts (period.content.fields ++ update ∷ []))
    (member (codes "notes") (array (items_of (map texts period.content.notes))) no_members)))

-- the accumulations of a stream
abbrev pub ArePeriods : PeriodAnswer → Data → Type 0
ArePeriods answer json =
    (periods : List Data) × AreEach IsPeriod answer.periods.items periods
    × (json ≡ object (member (codes "nmi") (string answer.stream.nmi)
    (member (codes "periods") (array (items_of periods))
    (member (codes "suffix") (string answer.stream.suffix) no_members))))

-- a known stream with its current details
abbrev pub IsStream : StreamAnswer → Data → Type 0
IsStream answer json =
    (next : List ℕ) × (optional day_of next ≡ Some answer.details.next)
    × (json ≡ object (member (codes "configuration") (string answer.details.configuration)
    (member (codes "datastream") (string answer.details.datastream)
    (member (codes "meter") (string answer.details.meter)
    (member (codes "next") (string next)
    (member (codes "nmi") (string answer.stream.nmi)
    (member (codes "register") (string answer.details.register)
    (member (codes "suffix") (string answer.stream.suffix) no_members))))))))

-- the known streams
abbrev pub AreStreams : List StreamAnswer → Data → Type 0
AreStreams answers json =
    (streams : List Data) × AreEach IsStream answers streams
    × (json ≡ object (member (codes "streams") (array (items_of streams)) no_members))

-- The JSON data of an answer. The texts of registers and exports are no JSON.
abbrev pub IsData : Answer → Data → Type 0
IsData (told.Imported added known) json = json ≡ counts added known
IsData (told.Substituted count) json = json ≡ filled count false
IsData (told.Known count) json = json ≡ filled count true
IsData (told.HolidaysAdded added known) json = json ≡ counts added known
IsData (told.Day answer) json = IsDayData answer json
IsData (told.Versions answer) json = IsVersionsData answer json
IsData (told.Period answer) json = ArePeriods answer json
IsData (told.Streams answers) json = AreStreams answers.items json
IsData (told.File fault) json = json ≡ refused (fault_code_text fault.code) fault.field 0 fault.line
IsData (told.Refused refusal) json =
    json ≡ refused (rule_code_text refusal.code) refusal.field refusal.interval refusal.line
IsData told.Unavailable json = json ≡ refused (codes "U1") 0 0 0
IsData answer json = ⊥

-- the JSON text of an answer
abbrev pub IsJson : Answer → List ℕ → Type 0
IsJson answer text = (json : Data) × IsData answer json × (text ≡ compact_text json)

-- room for the JSON text of an answer without a list
abbrev pub short_room : ℕ
short_room = 160
