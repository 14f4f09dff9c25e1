-- What the matches of a command ask for.
use Rattle.std.specs.Prelude.{◌≡◌, ◌&&◌, ◌^◌, Bool, ℕ, List, [], ◌∷◌, Option, Some, None, map, codes, unwrap_or, bytes_eq, if◌then◌else◌, nat_lt}
use Rattle.std.specs.Option.{option_map_or}
use Rattle.std.specs.Str.Parse.{digits_value, without_leading_plus}
use Rattle.clap.specs.ValueTests.{is_numeral}
use Rattle.clap.specs.Walk.{texts}
use Rattle.clap.specs.Words.{App, Row, Text, fault_of, subcommand_of, all_of, first_of, one_of}
use Rattle.mds_arguments.specs.Arguments.{AreFound, IsExportOf, found_texts, query_name}
use Rattle.mds_records.specs.declared.file.FileKind.{FileKind}
use Rattle.mds_records.specs.declared.file.FileKind.TheVariants.{Nem12, Nem13}
use Rattle.mds_words.specs.Grammar.{IsMdstore}
use Rattle.mds_words.specs.declared.words.Input.{Input}
use Rattle.mds_words.specs.declared.words.Input.TheVariants.{Standard, File}
use Rattle.mds_words.specs.declared.words.Words.{Words}
use Rattle.mds_words.specs.declared.words.Words.TheVariants.{Check, Init, Migrate, Import, Substitute, Holidays, Query, Export, Serve, Explain}

-- standard input, or a file by its name
abbrev pub input_value : Input → Option Text
input_value Standard = None
input_value (File name) = Some name.now

-- what a word names: `-` is standard input, and any other word a file
abbrev pub input_of : Text → Option Text
input_of word = if bytes_eq word (codes "-") then None else Some word

-- the value of an argument that has one
abbrev pub value_of : Text → List Row → Text
value_of id rows = unwrap_or (first_of id rows) []

-- all values of an argument
abbrev pub values_of : Text → List Row → List Text
values_of id rows = unwrap_or (all_of id rows) []

-- whether a flag is there: clap gives it a value, `true` if it is and `false` if it isn't
abbrev pub has_flag : Text → List Row → Bool
has_flag id rows = bytes_eq (value_of id rows) (codes "true")

-- the kind of file that a name names
abbrev pub kind_of_name : Text → FileKind
kind_of_name name = if bytes_eq name (codes "nem13") then Nem13 else Nem12

-- the number in a text, if it is below a limit
abbrev pub number_below : ℕ → Text → ℕ
number_below limit text =
    let digits = without_leading_plus text in
    if is_numeral digits && nat_lt (digits_value 10 digits) limit then digits_value 10 digits else 0

-- the number that an argument has
abbrev pub number_of : ℕ → Text → List Row → ℕ
number_of limit id rows = option_map_or (number_below limit) (one_of id rows) 0

-- A command, by its name and the matches of its arguments, asks for this.
abbrev pub Asks : Option (Text × List Row) → Words → Type 0
Asks None asked = ⊥
Asks (Some (name, rows)) (Check kind input) = (name ≡ codes "check")
    × (kind ≡ kind_of_name (value_of (codes "kind") rows))
    × (input_value input ≡ input_of (value_of (codes "file") rows))
Asks (Some (name, rows)) (Init store has_sums) = (name ≡ codes "init")
    × (store.now ≡ value_of (codes "store") rows)
    × (has_sums ≡ has_flag (codes "sums") rows)
Asks (Some (name, rows)) (Migrate store) = (name ≡ codes "migrate")
    × (store.now ≡ value_of (codes "store") rows)
Asks (Some (name, rows)) (Import store kind inputs) = (name ≡ codes "import")
    × (store.now ≡ value_of (codes "store") rows)
    × (kind ≡ kind_of_name (value_of (codes "kind") rows))
    × (map input_value inputs.items ≡ map input_of (values_of (codes "file") rows))
Asks (Some (name, rows)) (Substitute store input) = (name ≡ codes "substitute")
    × (store.now ≡ value_of (codes "store") rows)
    × (input_value input ≡ input_of (value_of (codes "file") rows))
Asks (Some (name, rows)) (Holidays store input) = (name ≡ codes "holidays")
    × (store.now ≡ value_of (codes "store") rows)
    × (input_value input ≡ input_of (value_of (codes "file") rows))
Asks (Some (name, rows)) (Query store query words) = (name ≡ query_name query)
    × (store.now ≡ value_of (codes "store") rows)
    × AreFound (λ id. first_of id rows) words
Asks (Some (name, rows)) (Export store arguments) = (name ≡ codes "export")
    × (store.now ≡ value_of (codes "store") rows)
    × IsExportOf (found_texts (λ id. first_of id rows)) arguments
    × (texts arguments.suffixes.items ≡ values_of (codes "suffixes") rows)
Asks (Some (name, rows)) (Serve store port count has_log) = (name ≡ codes "serve")
    × (store.now ≡ value_of (codes "store") rows)
    × (port ≡ number_of (2 ^ 16) (codes "port") rows)
    × (count ≡ number_of (2 ^ 32) (codes "count") rows)
    × (has_log ≡ has_flag (codes "log") rows)
Asks (Some (name, rows)) (Explain code) = (name ≡ codes "explain")
    × (texts code.items ≡ values_of (codes "code") rows)

-- Words ask for this, by the grammar of an app: clap finds no fault in them, and the command that they name asks for
-- it.
abbrev pub IsAskedBy : App → List Text → Words → Type 0
IsAskedBy app words asked = (fault_of app words ≡ []) × Asks (subcommand_of app words) asked

-- What the words of a call ask for: no words ask for the check of a NEM12 file on standard input.
abbrev pub IsAsked : List Text → Words → Type 0
IsAsked [] asked = asked ≡ Check Nem12 Standard
IsAsked (word ∷ words) asked = (app : App) × IsMdstore app × IsAskedBy app (word ∷ words) asked
