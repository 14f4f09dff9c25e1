-- How a reason is kept: private.
use Rattle.std.specs.Prelude.{◌<◌, [], IsTrue, length, string_bytes}
use Rattle.mds_marks.specs.Reason.{ReasonValue, is_reason}
use Rattle.mds_marks.specs.declared.reason.Kept.{Kept}
use Rattle.mds_marks.specs.declared.reason.Kept.TheVariants.{Code, Told}

abbrev pub kept_reason : Kept → ReasonValue
kept_reason (Code code) = record { code = code; text = [] }
kept_reason (Told told) = record { code = told.value.code; text = string_bytes told.value.text }

-- it is lawful, and a text that is kept separately isn't empty
abbrev pub IsKept : Kept → Type 0
IsKept (Code code) = IsTrue (is_reason code [])
IsKept (Told told) = IsTrue (is_reason told.value.code (string_bytes told.value.text)) × (0 < length (string_bytes told.value.text))
