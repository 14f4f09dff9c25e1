-- What a target and a body ask for, by their route (profile). The parts of a path aren't decoded. A query has each of its
-- names once, and no others. But a kind may be left out, and an export has any number of suffixes.
use Rattle.std.specs.Prelude.{◌≡◌, ◌≢◌, ◌<◌, ◌⊎◌, ℕ, true, if◌then◌else◌, List, [], ◌∷◌, codes, bytes_eq, IsUtf8, length, Option, Some, None}
use Rattle.mds_requests.specs.Holidays.{DiffersFirst, rows_of}
use Rattle.mds_records.specs.declared.file.FileKind.{FileKind}
use Rattle.mds_records.specs.declared.file.FileKind.TheVariants.{Nem12, Nem13}
use Rattle.mds_requests.specs.Asking.{Asks}
use Rattle.mds_requests.specs.declared.files.FileCommand.TheVariants as command
use Rattle.mds_arguments.specs.Arguments.{AskFor, AskForExport, IsFirstBad, export_tests, found_texts}
use Rattle.mds_arguments.specs.declared.arguments.Argument.{Argument}
use Rattle.mds_arguments.specs.declared.arguments.QueryName.{QueryName}
use Rattle.mds_arguments.specs.declared.arguments.QueryName.TheVariants as query
use Rattle.mds_messages.specs.declared.request.Request.{Request}
use Rattle.mds_messages.specs.declared.request.Request.TheVariants as asked
use Rattle.mds_wire.specs.Judging.{path_of, query_of}
use Rattle.mds_wire.specs.Routes.{part}
use Rattle.mds_wire.specs.declared.route.Route.{Route}
use Rattle.mds_wire.specs.declared.route.Route.TheVariants.{Imports, Substitutions, Holidays, Streams, Days, Versions, Periods, Gaps, Finals, Missing, Readings, Exports}
use Rattle.mds_requests.specs.Queries.{has_names, has_only, only, pairs_of, values_named}
use Rattle.mds_requests.specs.declared.targets.TargetFault.{TargetFault}
use Rattle.mds_requests.specs.declared.targets.TargetFault.TheVariants as fault

-- the kind of file that names mean: interval data if there is no name
abbrev pub kind_named : List (List ℕ) → Option FileKind
kind_named [] = Some Nem12
kind_named (name ∷ []) =
    if bytes_eq name (codes "nem12") then Some Nem12
    else if bytes_eq name (codes "nem13") then Some Nem13 else None
kind_named (name ∷ other ∷ names) = None

-- a query has this name, once, with this value
abbrev pub Says : List (List ℕ × List ℕ) → List ℕ → List ℕ → Type 0
Says pairs name value = only (values_named name pairs) ≡ Some value

-- the names of an import, of a range, and of an export
abbrev pub import_names : List (List ℕ)
import_names = codes "kind" ∷ []

abbrev pub range_names : List (List ℕ)
range_names = codes "nmi" ∷ codes "suffix" ∷ codes "from" ∷ codes "to" ∷ []

abbrev pub export_names : List (List ℕ)
export_names =
    codes "nmi" ∷ codes "suffix" ∷ codes "from" ∷ codes "to" ∷ codes "moment" ∷ codes "sender" ∷ codes "receiver" ∷ []

-- the texts of an export that a query says, without its suffixes
abbrev pub SaysExport : List (List ℕ × List ℕ) → (nmi from to moment sender receiver : List ℕ) → Type 0
SaysExport pairs nmi from to moment sender receiver =
    (has_only export_names pairs ≡ true) × Says pairs (codes "nmi") nmi × Says pairs (codes "from") from
    × Says pairs (codes "to") to × Says pairs (codes "moment") moment × Says pairs (codes "sender") sender
    × Says pairs (codes "receiver") receiver

-- the kind of file whose import a query asks for
abbrev pub kind_asked : List (List ℕ × List ℕ) → Option FileKind
kind_asked pairs = if has_only import_names pairs then kind_named (values_named (codes "kind") pairs) else None

-- The request that a query asks for: with a body, for an import of the kind that it names,
abbrev pub AskForImportBy : List (List ℕ × List ℕ) → (body : List ℕ) → Request → Type 0
AskForImportBy pairs body request =
    (kind : FileKind) × (kind_asked pairs ≡ Some kind) × Asks (command.Import kind) body request

-- for a query by name, which has some names once, others at most once, and no more: its words are their values,
abbrev pub AskForQueryBy : QueryName → (required optional : List (List ℕ)) → List (List ℕ × List ℕ) → Request → Type 0
AskForQueryBy name required optional pairs request =
    (has_names required optional pairs ≡ true)
    × AskFor name (found_texts (λ key. only (values_named key pairs))) request

-- for an export
abbrev pub AskForExportBy : List (List ℕ × List ℕ) → Request → Type 0
AskForExportBy pairs request =
    (nmi from to moment sender receiver : List ℕ) × SaysExport pairs nmi from to moment sender receiver
    × AskForExport nmi from to moment sender receiver (values_named (codes "suffix") pairs) request

-- the words of a query that are parts of a path
abbrev pub word_at : (path : List ℕ) → (name : List ℕ) → Option (List ℕ)
word_at path name =
    if bytes_eq name (codes "nmi") then Some (part 3 path)
    else if bytes_eq name (codes "suffix") then Some (part 4 path)
    else if bytes_eq name (codes "date") then Some (part 5 path)
    else if bytes_eq name (codes "interval") then Some (part 6 path) else None

-- the request that a path asks for with a query by name
abbrev pub AskForQueryAt : QueryName → (path : List ℕ) → Request → Type 0
AskForQueryAt name path request = AskFor name (found_texts (word_at path)) request

-- a route with the path, the pairs of the query and the body asks for this request
abbrev pub AsksBy : Route → (path : List ℕ) → List (List ℕ × List ℕ) → (body : List ℕ) → Request → Type 0
AsksBy Imports path pairs body request = AskForImportBy pairs body request
AsksBy Substitutions path pairs body request = (pairs ≡ []) × Asks command.Substitute body request
AsksBy Holidays path pairs body request = (pairs ≡ []) × Asks command.Holidays body request
AsksBy Streams path pairs body request = (pairs ≡ []) × (request ≡ asked.Streams)
AsksBy Days path pairs body request = (pairs ≡ []) × AskForQueryAt query.Day path request
AsksBy Versions path pairs body request = (pairs ≡ []) × AskForQueryAt query.Versions path request
AsksBy Periods path pairs body request = (pairs ≡ []) × AskForQueryAt query.Periods path request
AsksBy Gaps path pairs body request = AskForQueryBy query.Gaps range_names [] pairs request
AsksBy Finals path pairs body request = AskForQueryBy query.Finals range_names [] pairs request
AsksBy Readings path pairs body request = AskForQueryBy query.Readings range_names [] pairs request
AsksBy Missing path pairs body request =
    AskForQueryBy query.Missing (codes "from" ∷ codes "to" ∷ []) (codes "since" ∷ []) pairs request
AsksBy Exports path pairs body request = AskForExportBy pairs request

-- what takes memory: a query with a pair, a job in UTF-8, and a list of holidays; an empty body takes none
abbrev pub TakesMemory : Route → List (List ℕ × List ℕ) → (body : List ℕ) → Type 0
TakesMemory Substitutions pairs body = (pairs ≢ []) ⊎ (IsUtf8 body × (0 < length body))
TakesMemory Holidays pairs body = (pairs ≢ []) ⊎ (0 < length body)
TakesMemory route pairs body = pairs ≢ []

-- Why nothing is asked for. Memory can run out only if some is taken.
abbrev pub AsksNothing : (takes : Type 0) → (Request → Type 0) → TargetFault → Type 0
AsksNothing takes AsksFor fault.Memory = takes
AsksNothing takes AsksFor fault.Bad = (request : Request) → ¬ AsksFor request
AsksNothing takes AsksFor (fault.BadHolidays row) = ⊥

-- A list of holidays differs from some row on, and there is no query.
abbrev pub ListsNothing : List (List ℕ × List ℕ) → (body : List ℕ) → TargetFault → Type 0
ListsNothing pairs body fault.Memory = TakesMemory Holidays pairs body
ListsNothing pairs body fault.Bad = pairs ≢ []
ListsNothing pairs body (fault.BadHolidays row) = (pairs ≡ []) × DiffersFirst (rows_of body) row

-- One text of an export in a query is bad. This is said of texts and not of requests, since the types alone rule out a
-- sender or a receiver that isn't printable.
abbrev pub ExportsNothing : List (List ℕ × List ℕ) → TargetFault → Type 0
ExportsNothing pairs fault.Memory = pairs ≢ []
ExportsNothing pairs fault.Bad =
    (nmi from to moment sender receiver : List ℕ) → SaysExport pairs nmi from to moment sender receiver
    → (argument : Argument)
    × IsFirstBad (export_tests nmi from to moment sender receiver (values_named (codes "suffix") pairs)) argument
ExportsNothing pairs (fault.BadHolidays row) = ⊥

-- why a route with the path, the pairs of the query and the body asks for nothing
abbrev pub IsFaultBy : Route → (path : List ℕ) → List (List ℕ × List ℕ) → (body : List ℕ) → TargetFault → Type 0
IsFaultBy Holidays path pairs body reason = ListsNothing pairs body reason
IsFaultBy Exports path pairs body reason = ExportsNothing pairs reason
IsFaultBy route path pairs body reason = AsksNothing (TakesMemory route pairs body) (AsksBy route path pairs body) reason

-- what a target and a body ask for
abbrev pub AsksAt : Route → (target body : List ℕ) → Request → Type 0
AsksAt route target body request = AsksBy route (path_of target) (pairs_of (query_of target)) body request

-- a target asks for an import of interval data, whatever its body is
abbrev pub ImportsIntervalData : Route → (target : List ℕ) → Type 0
ImportsIntervalData route target = (route ≡ Imports) × (kind_asked (pairs_of (query_of target)) ≡ Some Nem12)

-- and why they ask for nothing
abbrev pub IsFaultAt : Route → (target body : List ℕ) → TargetFault → Type 0
IsFaultAt route target body reason = IsFaultBy route (path_of target) (pairs_of (query_of target)) body reason
