-- The three shapes of an answer: a text of its own, one with a list in it, and a short one. How an answer is printed, sent or
-- compared goes by its shape.
use Rattle.std.specs.Prelude.{ℕ, List, Bool, true, false, Option, Some, None, is_some}
use Rattle.mds_messages.specs.declared.answer.Answer.{Answer}
use Rattle.mds_messages.specs.declared.answer.Answer.TheVariants as told

-- what a text is: a register, or a NEM12 file
pub data TextKind : Type 0 where
  GapsText : TextKind
  FinalsText : TextKind
  MissingText : TextKind
  ReadingsText : TextKind
  ExportText : TextKind

-- the text that an answer is, if it is one
abbrev pub text_of : Answer → Option (TextKind × List ℕ)
text_of (told.Gaps text) = Some (GapsText, text.items)
text_of (told.Finals text) = Some (FinalsText, text.items)
text_of (told.Missing text) = Some (MissingText, text.items)
text_of (told.Readings text) = Some (ReadingsText, text.items)
text_of (told.Exported text) = Some (ExportText, text.items)
text_of answer = None

abbrev pub has_text : Answer → Bool
has_text answer = is_some (text_of answer)

-- an answer with a list in it, whose text takes memory
abbrev pub has_list : Answer → Bool
has_list (told.Day answer) = true
has_list (told.Versions answer) = true
has_list (told.Period answer) = true
has_list (told.Streams answers) = true
has_list answer = false
