-- Steps on the way to a text.
use Rattle.std.specs.Prelude.{◌≡◌, ◌≤◌, ℕ, List, ◌++◌, codes, length, map}
use Rattle.serde.specs.Event.{Log, Logs, Sends, WritesEach, field_key, text as text_event}
use Rattle.serde.specs.declared.name.Case.TheVariants.{AsIs}
use Rattle.serde_json.specs.Data.{Data, array, member, no_members, object, string}
use Rattle.serde_json.specs.Events.{SendsValue}
use Rattle.serde_json.specs.View.{items_of}
use Rattle.serde_json.specs.Written.{compact_text}
use Rattle.mds_statements.specs.Contents.{PeriodContent}
use Rattle.mds_answers.specs.Json.{texts}

-- at most three bytes, which a JSON text has unchanged between its quotation marks
abbrev pub IsPlain : List ℕ → Type 0
IsPlain code = (length code ≤ 3) × (compact_text (string code) ≡ codes "\"" ++ code ++ codes "\"")

-- the data of a thing are sent to a writer
abbrev pub Tells : {T : Type 0} → (T → Data → Type 0) → T → Log → Log → Type 0
Tells Is thing old new = (json : Data) × Is thing json × SendsValue json old new

-- a text is sent
abbrev pub SendsText : List ℕ → Log → Log → Type 0
SendsText text = Sends (text_event text)

-- texts are sent, one after the other
abbrev pub SendsTexts : List (List ℕ) → Log → Log → Type 0
SendsTexts = WritesEach SendsText

-- a member of an object is sent: its name, and then its data
abbrev pub SendsMember : (name : List ℕ) → Data → Log → Log → Type 0
SendsMember name json old new = (named : Log) × Logs old named (field_key name AsIs) × SendsValue json named new

-- the fields and the notes of an accumulation
abbrev pub parts_json : (fields notes : Data) → Data
parts_json fields notes = object (member (codes "fields") fields (member (codes "notes") notes no_members))

-- those of a content
abbrev pub content_json : PeriodContent → Data
content_json content = parts_json (texts content.fields) (array (items_of (map texts content.notes)))
