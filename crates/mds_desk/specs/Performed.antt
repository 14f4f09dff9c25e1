-- What a command prints of an answer, and the status that it ends with (profile).
use Rattle.std.specs.Prelude.{◌≡◌, ◌⊎◌, ℕ, List, ◌++◌, codes, decimal, Bool, true, false, Option, Some, None, Result, Ok, Err}
use Rattle.mds_records.specs.Printed.{fault_text}
use Rattle.mds_keeper.specs.Refusals.{refusal_text}
use Rattle.mds_messages.specs.declared.answer.Answer.{Answer}
use Rattle.mds_messages.specs.declared.answer.Answer.TheVariants as told
use Rattle.mds_messages.specs.Answers.{TextKind, has_list, text_of}
use Rattle.mds_answers.specs.Json.{IsJson}
use Rattle.mds_desk.specs.declared.performing.PerformFault.{PerformFault}
use Rattle.mds_desk.specs.declared.performing.PerformFault.TheVariants.{Memory, Write}
use Rattle.mds_desk.specs.declared.outcome.Status.{Status}
use Rattle.mds_desk.specs.declared.outcome.Status.TheVariants as status

-- the JSON text of an answer, as a line
abbrev pub IsJsonLine : Answer → List ℕ → Type 0
IsJsonLine answer text = (json : List ℕ) × IsJson answer json × (text ≡ json ++ codes "\n")

-- a text of its own is printed as it is, and an answer with a list as a line of JSON
abbrev pub IsOwnText : Option (TextKind × List ℕ) → Answer → List ℕ → Type 0
IsOwnText (Some text) answer printed = printed ≡ text.1
IsOwnText None answer printed = IsJsonLine answer printed

-- what is printed of an answer: the line of a short one, else its own text, or its JSON text as a line
abbrev pub IsAnswerText : Answer → List ℕ → Type 0
IsAnswerText (told.Imported added known) text =
    text ≡ codes "added " ++ decimal added ++ codes " known " ++ decimal known ++ codes "\n"
IsAnswerText (told.Substituted count) text = text ≡ codes "substituted " ++ decimal count ++ codes "\n"
IsAnswerText (told.Known count) text = text ≡ codes "known " ++ decimal count ++ codes "\n"
IsAnswerText (told.HolidaysAdded added known) text =
    text ≡ codes "added " ++ decimal added ++ codes " known " ++ decimal known ++ codes "\n"
IsAnswerText (told.File fault) text = text ≡ fault_text fault ++ codes "\n"
IsAnswerText (told.Refused refusal) text = text ≡ refusal_text refusal ++ codes "\n"
IsAnswerText told.Unavailable text = text ≡ codes "U1\n"
IsAnswerText answer text = IsOwnText (text_of answer) answer text

-- An answer is printed as it is. One with a list is printed as Unavailable if there is no memory for
-- its text.
abbrev pub IsToldAs : Answer → Answer → Type 0
IsToldAs answer other = (other ≡ answer) ⊎ ((has_list answer ≡ true) × (other ≡ told.Unavailable))

-- the status after an answer
abbrev pub answer_status : Answer → Status
answer_status (told.File fault) = status.Fault
answer_status (told.Refused refusal) = status.Fault
answer_status told.Unavailable = status.Unavailable
answer_status answer = status.Done

-- the result is that the writer failed
abbrev pub is_write_failure : {T : Type 0} → Result T PerformFault → Bool
is_write_failure (Ok status) = false
is_write_failure (Err Write) = true
is_write_failure (Err Memory) = false
