-- The result of importing a file that a reader brings (profile).
use Rattle.std.specs.Prelude.{◌≡◌, ◌≢◌, ◌⊎◌, ℕ, Bool, true, false, List, ◌++◌, Option, IfSome, Result, Ok, Err}
use Rattle.std.specs.List.{concat}
use Rattle.mds_lines.specs.Reads.{Reads}
use Rattle.mds_records.specs.declared.file.FileKind.TheVariants.{Nem12}
use Rattle.mds_keeper.specs.Kept.{Kept}
use Rattle.mds_messages.specs.declared.answer.Answer.{Answer}
use Rattle.mds_messages.specs.declared.answer.Answer.TheVariants as told
use Rattle.mds_service.specs.Crashes.{GoesBy}
use Rattle.mds_service.specs.Machine.{ImportStep, TakesIn}
use Rattle.mds_statements.specs.Delivered.{delivery_statements}
use Rattle.mds_statements.specs.declared.delivery.Delivery.{Delivery}
use Rattle.mds_walk.specs.Given.{MeetsEnd}
use Rattle.mds_walk.specs.declared.fault.ReadFault.{ReadFault}
use Rattle.mds_walk.specs.declared.fault.ReadFault.TheVariants as unread
use Rattle.mds_desk.specs.declared.importing.ImportFault.{ImportFault}
use Rattle.mds_desk.specs.declared.importing.ImportFault.TheVariants.{Memory, Read, Write}

-- the result is that the reader failed
abbrev pub is_read_failure : {T : Type 0} → Result T ImportFault → Bool
is_read_failure (Ok status) = false
is_read_failure (Err Read) = true
is_read_failure (Err Write) = false
is_read_failure (Err Memory) = false

-- the result is that the writer failed
abbrev pub is_write_failure : {T : Type 0} → Result T ImportFault → Bool
is_write_failure (Ok status) = false
is_write_failure (Err Read) = false
is_write_failure (Err Write) = true
is_write_failure (Err Memory) = false

-- If the source failed, or memory ran out, that is the result, and nothing was written. A fault of the file has another result.
abbrev pub IsUnread : {T : Type 0} → ReadFault → Result T ImportFault → Type 0 → Type 0
IsUnread unread.Read result Unwritten = (result ≡ Err Read) × Unwritten
IsUnread unread.Memory result Unwritten = (result ≡ Err Memory) × Unwritten
IsUnread fault result Unwritten = (result ≢ Err Read) × (result ≢ Err Memory)

-- the step of an import of a text
abbrev pub GoesByText : Kept → Kept → Answer → List ℕ → Type 0
GoesByText old new answer text = GoesBy old new (λ w. ImportStep w Nem12 text) answer

-- What was read is imported, whatever its text. Or its fault is the answer.
abbrev pub GoesByRead : Kept → Kept → Answer → Result Delivery ReadFault → Type 0
GoesByRead old new answer (Ok delivery) = GoesBy old new (λ w. TakesIn w (delivery_statements delivery)) answer
GoesByRead old new answer (Err (unread.File fault)) = answer ≡ told.File fault
GoesByRead old new answer (Err reason) = ⊥

-- The step of an import of all that the calls brought, up to the end. Or that of every text that begins so, if they stopped before.
abbrev pub IsImportOf : Kept → Kept → Answer → List (List ℕ) → Type 0
IsImportOf old new answer given =
    (MeetsEnd given × GoesByText old new answer (concat given))
    ⊎ ((more : List ℕ) → GoesByText old new answer (concat given ++ more))

-- The step of an import of what a source had, if that is known. Whatever it brings, it is the step for what its calls brought.
abbrev pub IsImportFrom : {S : Type 0} → (S → Option (List ℕ)) → (S → List ℕ → S → Type 0) → S → S → Kept → Kept → Answer → Type 0
IsImportFrom remaining gives begin end old new answer =
    IfSome (remaining begin) (GoesByText old new answer)
    × ((given : List (List ℕ)) × Reads gives begin given end × IsImportOf old new answer given)
