-- The body in which an accumulation is kept (profile): the text of its content, with its update after the fields.
use Rattle.std.specs.Prelude.{◌≡◌, ◌-◌, ℕ, List, [], ◌∷◌, ◌++◌, length, take, Some}
use Rattle.mds_calendar.specs.Calendar.{moment_of}
use Rattle.mds_statements.specs.Contents.{PeriodContent, content_of}
use Rattle.mds_statements.specs.declared.periods.Period.{Period}

-- a content with one more text after its fields
abbrev pub with_field : PeriodContent → List ℕ → PeriodContent
with_field content text = record { fields = content.fields ++ text ∷ []; notes = content.notes }

-- a content without its last field
abbrev pub without_last : PeriodContent → PeriodContent
without_last content =
    record { fields = take (length content.fields - 1) content.fields; notes = content.notes }

-- the body has the fields, then the update, whether the record or the header stated it, and then the notes
abbrev pub IsPeriodBody : Period → List ℕ → Type 0
IsPeriodBody period body =
    (update : List ℕ) × (moment_of update ≡ Some period.key.update) × (content_of body ≡ with_field period.content update)

-- the content in a body, whatever is in the place of the update
abbrev pub content_of_body : List ℕ → PeriodContent
content_of_body body = without_last (content_of body)
