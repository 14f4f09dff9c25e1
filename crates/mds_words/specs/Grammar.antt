-- The words that the commands of the program take, in clap's terms.
use Rattle.std.specs.Prelude.{◌≡◌, ◌++◌, ◌∷◌, List, [], Some, pos, true, false, codes, map}
use Rattle.std.specs.Borrow.{Bor}
use Rattle.clap.specs.Lexer.{usize_max}
use Rattle.clap.specs.Walk.{texts}
use Rattle.clap.specs.Simple.{new_shape}
use Rattle.clap.specs.Words.{App, Rule, Shape, Text, new_rule}
use Rattle.clap.specs.declared.builder.action.ArgAction.TheVariants.{SetTrue}
use Rattle.clap.specs.declared.builder.value_parser.ValueParser.TheVariants.{Names, Signed}
use Rattle.mds_words.specs.declared.names.Name.{Name}
use Rattle.mds_words.specs.declared.names.Name.TheVariants as name
use Rattle.mds_words.specs.declared.names.Word.{Word}
use Rattle.mds_words.specs.declared.names.Word.TheVariants as word

-- ---- the arguments

-- an argument by its place; the help has a name for its value
abbrev pub named : Text → Rule
named id = record (new_rule id) { value_names = 1 }

-- such an argument that is required
abbrev pub placed : Text → Rule
placed id = record (named id) { required = true }

-- such an argument with one value or more
abbrev pub several : Text → Rule
several id = record (placed id) {
  range = Some (record {
    start_inclusive = 1;
    end_inclusive = usize_max;
  });
}

-- the words of a code, which may be left out
abbrev pub code : Rule
code = record (new_rule (codes "code")) {
  value_names = 1;
  range = Some (record {
    start_inclusive = 1;
    end_inclusive = usize_max;
  });
}

-- an argument with a flag, which is its id
abbrev pub flagged : Text → Rule
flagged id = record (new_rule id) { value_names = 1; long = Some id }

abbrev pub store : Rule
store = record (flagged (codes "store")) { required = true }

-- a flag without a value
abbrev pub sums : Rule
sums = record (flagged (codes "sums")) { action = Some SetTrue }

-- the names of the kinds of files, wherever they are in memory
abbrev pub AreKinds : Bor (List (Bor Text)) → Type 0
AreKinds kinds = texts kinds.now ≡ codes "nem12" ∷ codes "nem13" ∷ []

abbrev pub kind : Bor (List (Bor Text)) → Rule
kind kinds = record (flagged (codes "kind")) {
  parser = Some (Names kinds);
  defaults = codes "nem12" ∷ [];
}

abbrev pub port : Rule
port = record (flagged (codes "port")) {
  parser = Some (Signed (pos 1) (pos 65535));
  required = true;
}

abbrev pub count : Rule
count = record (flagged (codes "count")) {
  parser = Some (Signed (pos 1) (pos 1000000));
  defaults = codes "1000000" ∷ [];
}

-- a flag without a value
abbrev pub log : Rule
log = record (flagged (codes "log")) { action = Some SetTrue }

-- a flag with a value, which may be left out
abbrev pub since : Rule
since = flagged (codes "since")

-- a flag without a value
abbrev pub why : Rule
why = record (flagged (codes "why")) { action = Some SetTrue }

-- the id of a word's argument
abbrev pub id_of : Word → Text
id_of word.Store = codes "store"
id_of word.Sums = codes "sums"
id_of word.Kind = codes "kind"
id_of word.File = codes "file"
id_of word.Files = codes "file"
id_of word.Job = codes "file"
id_of word.List = codes "file"
id_of word.Nmi = codes "nmi"
id_of word.Suffix = codes "suffix"
id_of word.Suffixes = codes "suffixes"
id_of word.Date = codes "date"
id_of word.Interval = codes "interval"
id_of word.From = codes "from"
id_of word.To = codes "to"
id_of word.Since = codes "since"
id_of word.Moment = codes "moment"
id_of word.Sender = codes "sender"
id_of word.Receiver = codes "receiver"
id_of word.Port = codes "port"
id_of word.Count = codes "count"
id_of word.Log = codes "log"
id_of word.Why = codes "why"
id_of word.Code = codes "code"

-- the argument of a word
abbrev pub rule_of_word : Bor (List (Bor Text)) → Word → Rule
rule_of_word kinds word.Store = store
rule_of_word kinds word.Sums = sums
rule_of_word kinds word.Kind = kind kinds
rule_of_word kinds word.Files = several (codes "file")
rule_of_word kinds word.Suffixes = several (codes "suffixes")
rule_of_word kinds word.Port = port
rule_of_word kinds word.Count = count
rule_of_word kinds word.Log = log
rule_of_word kinds word.Since = since
rule_of_word kinds word.Why = why
rule_of_word kinds word.Code = code
rule_of_word kinds other = placed (id_of other)

-- ---- the commands

abbrev pub command_of : Text → List Rule → Shape
command_of name rules = record (new_shape name) { rules = rules }

-- ---- the commands on files

abbrev pub check_command : Bor (List (Bor Text)) → Shape
check_command kinds = command_of (codes "check") (kind kinds ∷ why ∷ placed (codes "file") ∷ [])

abbrev pub init_command : Shape
init_command = command_of (codes "init") (store ∷ sums ∷ why ∷ [])

abbrev pub migrate_command : Shape
migrate_command = command_of (codes "migrate") (store ∷ why ∷ [])

abbrev pub import_command : Bor (List (Bor Text)) → Shape
import_command kinds = command_of (codes "import") (store ∷ kind kinds ∷ why ∷ several (codes "file") ∷ [])

abbrev pub substitute_command : Shape
substitute_command = command_of (codes "substitute") (store ∷ why ∷ placed (codes "file") ∷ [])

abbrev pub holidays_command : Shape
holidays_command = command_of (codes "holidays") (store ∷ why ∷ placed (codes "file") ∷ [])

abbrev pub file_commands : Bor (List (Bor Text)) → List Shape
file_commands kinds = check_command kinds ∷ init_command ∷ migrate_command ∷ import_command kinds
    ∷ substitute_command ∷ holidays_command ∷ []

-- ---- the queries of a store

-- a stream
abbrev pub stream : List Rule
stream = store ∷ why ∷ placed (codes "nmi") ∷ placed (codes "suffix") ∷ []

abbrev pub streams_command : Shape
streams_command = command_of (codes "streams") (store ∷ why ∷ [])

abbrev pub day_command : Shape
day_command = command_of (codes "day") (stream ++ placed (codes "date") ∷ [])

abbrev pub versions_command : Shape
versions_command =
    command_of (codes "versions") (stream ++ placed (codes "date") ∷ placed (codes "interval") ∷ [])

abbrev pub periods_command : Shape
periods_command = command_of (codes "periods") stream

-- a range of days of a stream
abbrev pub range : List Rule
range = stream ++ placed (codes "from") ∷ placed (codes "to") ∷ []

abbrev pub gaps_command : Shape
gaps_command = command_of (codes "gaps") range

abbrev pub finals_command : Shape
finals_command = command_of (codes "finals") range

abbrev pub missing_command : Shape
missing_command = command_of (codes "missing") (store ∷ since ∷ why ∷ placed (codes "from") ∷ placed (codes "to") ∷ [])

abbrev pub readings_command : Shape
readings_command = command_of (codes "readings") range

abbrev pub query_commands : List Shape
query_commands =
    streams_command ∷ day_command ∷ versions_command ∷ periods_command ∷ gaps_command ∷ finals_command ∷ missing_command ∷ readings_command ∷ []

-- ---- the other commands on a store

abbrev pub export_command : Shape
export_command = command_of (codes "export")
    (store ∷ why ∷ placed (codes "nmi") ∷ placed (codes "from") ∷ placed (codes "to")
    ∷ placed (codes "moment") ∷ placed (codes "sender") ∷ placed (codes "receiver")
    ∷ several (codes "suffixes") ∷ [])

abbrev pub serve_command : Shape
serve_command = command_of (codes "serve") (store ∷ port ∷ count ∷ log ∷ why ∷ [])

abbrev pub store_commands : List Shape
store_commands = export_command ∷ serve_command ∷ []

-- ---- the command without a store

abbrev pub explain_command : Shape
explain_command = command_of (codes "explain") (code ∷ [])

-- ---- all commands

-- all names, in the order of the help
abbrev pub all_names : List Name
all_names = name.Check ∷ name.Init ∷ name.Migrate ∷ name.Import ∷ name.Substitute ∷ name.Holidays ∷ name.Streams ∷ name.Day
    ∷ name.Versions ∷ name.Periods ∷ name.Gaps ∷ name.Finals ∷ name.Missing ∷ name.Readings ∷ name.Export ∷ name.Serve ∷ name.Explain ∷ []

abbrev pub name_text : Name → Text
name_text name.Check = codes "check"
name_text name.Init = codes "init"
name_text name.Migrate = codes "migrate"
name_text name.Import = codes "import"
name_text name.Substitute = codes "substitute"
name_text name.Holidays = codes "holidays"
name_text name.Streams = codes "streams"
name_text name.Day = codes "day"
name_text name.Versions = codes "versions"
name_text name.Periods = codes "periods"
name_text name.Gaps = codes "gaps"
name_text name.Finals = codes "finals"
name_text name.Missing = codes "missing"
name_text name.Readings = codes "readings"
name_text name.Export = codes "export"
name_text name.Serve = codes "serve"
name_text name.Explain = codes "explain"

-- the words that a command takes
abbrev pub words_of : Name → List Word
words_of name.Check = word.Kind ∷ word.Why ∷ word.File ∷ []
words_of name.Init = word.Store ∷ word.Sums ∷ word.Why ∷ []
words_of name.Migrate = word.Store ∷ word.Why ∷ []
words_of name.Import = word.Store ∷ word.Kind ∷ word.Why ∷ word.Files ∷ []
words_of name.Substitute = word.Store ∷ word.Why ∷ word.Job ∷ []
words_of name.Holidays = word.Store ∷ word.Why ∷ word.List ∷ []
words_of name.Streams = word.Store ∷ word.Why ∷ []
words_of name.Day = word.Store ∷ word.Why ∷ word.Nmi ∷ word.Suffix ∷ word.Date ∷ []
words_of name.Versions = word.Store ∷ word.Why ∷ word.Nmi ∷ word.Suffix ∷ word.Date ∷ word.Interval ∷ []
words_of name.Periods = word.Store ∷ word.Why ∷ word.Nmi ∷ word.Suffix ∷ []
words_of name.Gaps = word.Store ∷ word.Why ∷ word.Nmi ∷ word.Suffix ∷ word.From ∷ word.To ∷ []
words_of name.Finals = word.Store ∷ word.Why ∷ word.Nmi ∷ word.Suffix ∷ word.From ∷ word.To ∷ []
words_of name.Readings = word.Store ∷ word.Why ∷ word.Nmi ∷ word.Suffix ∷ word.From ∷ word.To ∷ []
words_of name.Missing = word.Store ∷ word.Since ∷ word.Why ∷ word.From ∷ word.To ∷ []
words_of name.Export = word.Store ∷ word.Why ∷ word.Nmi ∷ word.From ∷ word.To ∷ word.Moment ∷ word.Sender ∷ word.Receiver ∷ word.Suffixes ∷ []
words_of name.Serve = word.Store ∷ word.Port ∷ word.Count ∷ word.Log ∷ word.Why ∷ []
words_of name.Explain = word.Code ∷ []

-- the command with this name
abbrev pub shape_of : Bor (List (Bor Text)) → Name → Shape
shape_of kinds name = command_of (name_text name) (map (rule_of_word kinds) (words_of name))

-- ---- the program

-- the program: all words are its own, the first names a command, and it has a version
abbrev pub mdstore_app : Bor (List (Bor Text)) → App
mdstore_app kinds = record {
  top = record (new_shape (codes "mdstore")) {
    is_leaf = false;
    no_binary_name = true;
    subcommand_required = true;
    has_version = true;
  };
  subs = file_commands kinds ++ query_commands ++ store_commands ++ explain_command ∷ [];
}

-- the program's commands, wherever the names of the kinds of files are in memory
abbrev pub IsMdstore : App → Type 0
IsMdstore app = (kinds : Bor (List (Bor Text))) × AreKinds kinds × (app ≡ mdstore_app kinds)
