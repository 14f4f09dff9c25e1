-- No answer with a list has a float in it.
use Rattle.std.proofs.Common.{◌≡◌, ℕ, true, false, List, [], ◌∷◌, ◌++◌, map, refl}
use Rattle.serde_json.specs.Data.{Data}
use Rattle.serde_json.specs.View.{items_of}
use Rattle.serde_json.specs.Written.{has_float, items_have_float}
use Rattle.mds_statements.specs.declared.periods.Period.{Period}
use Rattle.mds_terms.specs.Event.{EventValue}
use Rattle.mds_keeper.specs.declared.day_book.Version.{Version}
use Rattle.mds_messages.specs.declared.answer.Answer.{Answer}
use Rattle.mds_messages.specs.declared.answer.Answer.TheVariants as told
use Rattle.mds_messages.specs.declared.answer.DayAnswer.{DayAnswer}
use Rattle.mds_messages.specs.declared.answer.PeriodAnswer.{PeriodAnswer}
use Rattle.mds_messages.specs.declared.answer.StreamAnswer.{StreamAnswer}
use Rattle.mds_messages.specs.declared.answer.VersionsAnswer.{VersionsAnswer}
use Rattle.mds_messages.specs.Answers.{has_list}
use Rattle.mds_answers.specs.Json.{AreEach, ArePeriods, AreStreams, IsData, IsDayData, IsEvent, IsPeriod, IsStream, IsVersion, IsVersionsData, reading_texts, texts}

-- none in a list, where each is told without one
none_in : {T : Type 0} (Is : T → Data → Type 0) → ((thing : T) (one : Data) → Is thing one → has_float one ≡ false)
    → (things : List T) (told : List Data) → AreEach Is things told → items_have_float (items_of told) ≡ false
none_in Is none [] [] are = refl
none_in Is none (x ∷ xs) (d ∷ ds) are = rw (none x d are.0) (none_in Is none xs ds are.1)
none_in Is none [] (d ∷ ds) are = absurd are
none_in Is none (x ∷ xs) [] are = absurd are

none_in_map : {T : Type 0} (f : T → Data) → ((thing : T) → has_float (f thing) ≡ false)
    → (things : List T) → items_have_float (items_of (map f things)) ≡ false
none_in_map f none [] = refl
none_in_map f none (x ∷ xs) = rw (none x) (none_in_map f none xs)

none_in_texts : (parts : List (List ℕ)) → has_float (texts parts) ≡ false
none_in_texts [] = refl
none_in_texts (part ∷ parts) = none_in_texts parts

none_in_event : (event : EventValue) (json : Data) → IsEvent event json → has_float json ≡ false
none_in_event event json (moment, when, is) = rw is

none_in_version : (version : Version) (json : Data) → IsVersion version json → has_float json ≡ false
none_in_version version json (update, when, is) = rw is

none_in_stream : (answer : StreamAnswer) (json : Data) → IsStream answer json → has_float json ≡ false
none_in_stream answer json (next, when, is) = rw is

none_in_period : (period : Period) (json : Data) → IsPeriod period json → has_float json ≡ false
none_in_period period json (update, when, is) =
    rw (
      is,
      none_in_texts (period.content.fields ++ update ∷ []),
      none_in_map texts none_in_texts period.content.notes,
    )

none_in_day : (answer : DayAnswer) (json : Data) → IsDayData answer json → has_float json ≡ false
none_in_day answer json (date, update, events, day, when, are, is) =
    rw (
      is,
      none_in IsEvent none_in_event answer.events.items events are,
      none_in_map (λ reading. texts (reading_texts reading)) (λ reading. none_in_texts (reading_texts reading)) answer.readings.items,
    )

none_in_versions : (answer : VersionsAnswer) (json : Data) → IsVersionsData answer json → has_float json ≡ false
none_in_versions answer json (date, versions, day, are, is) =
    rw (is, none_in IsVersion none_in_version answer.versions.items versions are)

none_in_periods : (answer : PeriodAnswer) (json : Data) → ArePeriods answer json → has_float json ≡ false
none_in_periods answer json (periods, are, is) = rw (is, none_in IsPeriod none_in_period answer.periods.items periods are)

none_in_streams : (answers : List StreamAnswer) (json : Data) → AreStreams answers json → has_float json ≡ false
none_in_streams answers json (streams, are, is) = rw (is, none_in IsStream none_in_stream answers streams are)

pub no_float : (answer : Answer) (json : Data) → has_list answer ≡ true → IsData answer json → has_float json ≡ false
no_float (told.Day answer) json list is = none_in_day answer json is
no_float (told.Versions answer) json list is = none_in_versions answer json is
no_float (told.Period answer) json list is = none_in_periods answer json is
no_float (told.Streams answers) json list is = none_in_streams answers.items json is
no_float (told.Imported added known) json list is = absurd (cc)
no_float (told.Substituted count) json list is = absurd (cc)
no_float (told.Known count) json list is = absurd (cc)
no_float (told.HolidaysAdded added known) json list is = absurd (cc)
no_float (told.Gaps text) json list is = absurd (cc)
no_float (told.Finals text) json list is = absurd (cc)
no_float (told.Missing text) json list is = absurd (cc)
no_float (told.Readings text) json list is = absurd (cc)
no_float (told.Exported text) json list is = absurd (cc)
no_float (told.File fault) json list is = absurd (cc)
no_float (told.Refused refusal) json list is = absurd (cc)
no_float told.Unavailable json list is = absurd (cc)
