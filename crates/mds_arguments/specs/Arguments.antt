-- The queries, the words of their arguments, and what these ask for (profile).
use Rattle.std.specs.Prelude.{◌≡◌, ◌+◌, ◌<◌, ◌++◌, ⊤, ℕ, List, [], ◌∷◌, length, map, take, codes, bytes_eq, Bool, true, if◌then◌else◌, Option, Some, None, is_some, option_map, unwrap_or}
use Rattle.std.specs.List.{list_all, list_any}
use Rattle.mds_calendar.specs.Calendar.{date_time_of, day_of}
use Rattle.mds_marks.specs.Digits.{interval_number_of}
use Rattle.mds_names.specs.Names.{nmi_of, suffix_of}
use Rattle.mds_names.specs.declared.stream.Stream.{Stream}
use Rattle.mds_terms.specs.Printable.{is_printable}
use Rattle.mds_messages.specs.declared.request.Request.{Request}
use Rattle.mds_messages.specs.declared.request.Request.TheVariants as asked
use Rattle.mds_arguments.specs.declared.arguments.Argument.{Argument}
use Rattle.mds_arguments.specs.declared.arguments.Argument.TheVariants.{Nmi, Suffix, Date, Interval, From, To, Since, Moment, Sender, Receiver}
use Rattle.mds_arguments.specs.declared.arguments.ExportArguments.{ExportArguments}
use Rattle.mds_arguments.specs.declared.arguments.QueryName.{QueryName}
use Rattle.mds_arguments.specs.declared.arguments.QueryName.TheVariants as query
use Rattle.mds_arguments.specs.declared.arguments.QueryWords.{QueryWords}
use Rattle.mds_arguments.specs.declared.requests.ArgumentsFault.{ArgumentsFault}
use Rattle.mds_arguments.specs.declared.requests.ArgumentsFault.TheVariants as fault

-- ---- the queries

-- all queries whose arguments take one word each
abbrev pub all_queries : List QueryName
all_queries = query.Streams ∷ query.Day ∷ query.Versions ∷ query.Periods ∷ query.Gaps ∷ query.Finals ∷ query.Missing ∷ query.Readings ∷ []

-- the name of a query, which is that of its command
abbrev pub query_name : QueryName → List ℕ
query_name query.Streams = codes "streams"
query_name query.Day = codes "day"
query_name query.Versions = codes "versions"
query_name query.Periods = codes "periods"
query_name query.Gaps = codes "gaps"
query_name query.Finals = codes "finals"
query_name query.Missing = codes "missing"
query_name query.Readings = codes "readings"

-- some query has this name
abbrev pub is_query_name : List ℕ → Bool
is_query_name name = list_any (λ known. bytes_eq known name) (map query_name all_queries)

-- ---- the words of their arguments

-- the name of an argument in the usage of a command
abbrev pub argument_name : Argument → List ℕ
argument_name Nmi = codes "NMI"
argument_name Suffix = codes "SUFFIX"
argument_name Date = codes "DATE"
argument_name Interval = codes "INTERVAL"
argument_name From = codes "FROM"
argument_name To = codes "TO"
argument_name Since = codes "SINCE"
argument_name Moment = codes "MOMENT"
argument_name Sender = codes "SENDER"
argument_name Receiver = codes "RECEIVER"

-- The texts of arguments. A required one is empty if it isn't there. One that may be left out is an `Option`.
pub record Texts : Type 0 where
  pub nmi : List ℕ
  pub suffix : List ℕ
  pub date : List ℕ
  pub interval : List ℕ
  pub from : List ℕ
  pub to : List ℕ
  pub since : Option (List ℕ)
  pub moment : List ℕ
  pub sender : List ℕ
  pub receiver : List ℕ

-- those that words are
abbrev pub word_texts : QueryWords → Texts
word_texts words = record {
  nmi = words.nmi.now;
  suffix = words.suffix.now;
  date = words.date.now;
  interval = words.interval.now;
  from = words.from.now;
  to = words.to.now;
  since = option_map (λ since. since.now) words.since;
  moment = words.moment.now;
  sender = words.sender.now;
  receiver = words.receiver.now;
}

-- those that are found by the ids of the arguments
abbrev pub found_texts : (List ℕ → Option (List ℕ)) → Texts
found_texts word_of = record {
  nmi = unwrap_or (word_of (codes "nmi")) [];
  suffix = unwrap_or (word_of (codes "suffix")) [];
  date = unwrap_or (word_of (codes "date")) [];
  interval = unwrap_or (word_of (codes "interval")) [];
  from = unwrap_or (word_of (codes "from")) [];
  to = unwrap_or (word_of (codes "to")) [];
  since = word_of (codes "since");
  moment = unwrap_or (word_of (codes "moment")) [];
  sender = unwrap_or (word_of (codes "sender")) [];
  receiver = unwrap_or (word_of (codes "receiver")) [];
}

-- the words are those that are found
abbrev pub AreFound : (List ℕ → Option (List ℕ)) → QueryWords → Type 0
AreFound word_of words = word_texts words ≡ found_texts word_of

-- the arguments of an export are these texts
pub record IsExportOf (texts : Texts) (export : ExportArguments) : Type 0 where
  pub nmi : export.nmi.now ≡ texts.nmi
  pub from : export.from.now ≡ texts.from
  pub to : export.to.now ≡ texts.to
  pub moment : export.moment.now ≡ texts.moment
  pub sender : export.sender.now ≡ texts.sender
  pub receiver : export.receiver.now ≡ texts.receiver

-- ---- which texts are good, in the order of a command's words

-- the first that is bad
abbrev pub first_bad : List (Argument × Bool) → Option Argument
first_bad [] = None
first_bad ((argument, good) ∷ rest) = if good then first_bad rest else Some argument

-- those of a stream,
abbrev pub stream_tests : Texts → List (Argument × Bool)
stream_tests texts = (Nmi, is_some (nmi_of texts.nmi)) ∷ (Suffix, is_some (suffix_of texts.suffix)) ∷ []

-- of a range of its days,
abbrev pub range_tests : Texts → List (Argument × Bool)
range_tests texts = stream_tests texts ++ (From, is_some (day_of texts.from)) ∷ (To, is_some (day_of texts.to)) ∷ []

-- of a day that may be left out,
abbrev pub is_day_if_some : Option (List ℕ) → Bool
is_day_if_some None = true
is_day_if_some (Some text) = is_some (day_of text)

-- of each query,
abbrev pub tests_of : QueryName → Texts → List (Argument × Bool)
tests_of query.Streams texts = []
tests_of query.Day texts = stream_tests texts ++ (Date, is_some (day_of texts.date)) ∷ []
tests_of query.Versions texts =
    stream_tests texts ++ (Date, is_some (day_of texts.date)) ∷ (Interval, is_some (interval_number_of texts.interval)) ∷ []
tests_of query.Periods texts = stream_tests texts
tests_of query.Gaps texts = range_tests texts
tests_of query.Finals texts = range_tests texts
tests_of query.Readings texts = range_tests texts
tests_of query.Missing texts =
    (Since, is_day_if_some texts.since) ∷ (From, is_some (day_of texts.from)) ∷ (To, is_some (day_of texts.to)) ∷ []

-- and of an export
abbrev pub export_tests : (nmi from to moment sender receiver : List ℕ) → List (List ℕ) → List (Argument × Bool)
export_tests nmi from to moment sender receiver suffixes =
    (Nmi, is_some (nmi_of nmi)) ∷ (From, is_some (day_of from)) ∷ (To, is_some (day_of to))
    ∷ (Moment, is_some (date_time_of moment)) ∷ (Sender, is_printable sender) ∷ (Receiver, is_printable receiver)
    ∷ (Suffix, list_all (λ suffix. is_some (suffix_of suffix)) suffixes) ∷ []

-- the first bad one of them
abbrev pub IsFirstBad : List (Argument × Bool) → Argument → Type 0
IsFirstBad tests argument = first_bad tests ≡ Some argument

-- Why there is no request for an export. Memory is needed only for what is copied: the sender, the receiver and the suffixes.
-- No earlier text is bad then.
abbrev pub IsExportFault : (nmi from to moment sender receiver : List ℕ) → List (List ℕ) → ArgumentsFault → Type 0
IsExportFault nmi from to moment sender receiver suffixes (fault.Bad argument) =
    IsFirstBad (export_tests nmi from to moment sender receiver suffixes) argument
IsExportFault nmi from to moment sender receiver suffixes fault.Memory =
    (first_bad (take 4 (export_tests nmi from to moment sender receiver suffixes)) ≡ None)
    × (0 < length sender + length receiver + length suffixes)

-- ---- the requests that texts ask for

-- the texts name a stream
abbrev pub SpellStream : Texts → Stream → Type 0
SpellStream texts stream = (nmi_of texts.nmi ≡ Some stream.nmi) × (suffix_of texts.suffix ≡ Some stream.suffix)

-- and a range of its days
abbrev pub SpellRange : Texts → Stream → (first last : ℕ) → Type 0
SpellRange texts stream first last =
    SpellStream texts stream × (day_of texts.from ≡ Some first) × (day_of texts.to ≡ Some last)

-- a day that may be left out
abbrev pub SpellDayIfSome : Option (List ℕ) → Option ℕ → Type 0
SpellDayIfSome None day = day ≡ None
SpellDayIfSome (Some text) day = (day_of text ≡ day) × (is_some day ≡ true)

-- the request that the texts of a query ask for
abbrev pub AskFor : QueryName → Texts → Request → Type 0
AskFor query.Streams texts asked.Streams = ⊤
AskFor query.Day texts (asked.Day stream day) = SpellStream texts stream × (day_of texts.date ≡ Some day)
AskFor query.Versions texts (asked.Versions stream day number) =
    SpellStream texts stream × (day_of texts.date ≡ Some day) × (interval_number_of texts.interval ≡ Some number)
AskFor query.Periods texts (asked.Period stream) = SpellStream texts stream
AskFor query.Gaps texts (asked.Gaps stream first last) = SpellRange texts stream first last
AskFor query.Finals texts (asked.Finals stream first last) = SpellRange texts stream first last
AskFor query.Readings texts (asked.Readings stream first last) = SpellRange texts stream first last
AskFor query.Missing texts (asked.Missing first last since) =
    SpellDayIfSome texts.since since × (day_of texts.from ≡ Some first) × (day_of texts.to ≡ Some last)
AskFor name texts request = ⊥

-- the request for an export, of the streams in the order of the texts
abbrev pub AskForExport : (nmi from to moment sender receiver : List ℕ) → List (List ℕ) → Request → Type 0
AskForExport nmi from to moment sender receiver suffixes (asked.Export meter streams first last header) =
    (nmi_of nmi ≡ Some meter) × (day_of from ≡ Some first) × (day_of to ≡ Some last)
    × (date_time_of moment ≡ Some header.moment) × (header.sender ≡ sender) × (header.receiver ≡ receiver)
    × (map suffix_of suffixes ≡ map (λ stream. Some stream) streams.items)
AskForExport nmi from to moment sender receiver suffixes request = ⊥
