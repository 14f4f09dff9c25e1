-- A reader of lines, and the source that it owns.
use Rattle.std.specs.Prelude.{◌≡◌, ◌≢◌, ℕ, ◌+◌, List, Bool, true, false, Option, None, Some, IfSome, MatchOption, Result, Ok, Err, IfOk, IfErr}
use Rattle.mds_lines.specs.declared.line.Line.{Line}
use Rattle.mds_lines.specs.declared.reader.LineFault.{LineFault}
use Rattle.mds_lines.specs.declared.reader.LineFault.TheVariants.{Read, TooLarge}
use Rattle.mds_lines.specs.declared.reader.LineReader.{LineReader}
use Rattle.mds_lines.specs.Buffered.{Buffered, text_left, FindsLine, FindsEnd, IsTooLarge, Takes}
use Rattle.mds_lines.specs.Lines.{line_text}
use Rattle.mds_lines.specs.Numbered.{number_of, text_of}

-- the source that it reads from
abbrev pub reader_source : {R : Type 0} → LineReader R → R
reader_source reader = reader.source

-- what it has in hand
abbrev pub reader_lines : {R : Type 0} → LineReader R → Buffered
reader_lines reader = reader.lines

-- the rest of the text, if the source's bytes are known
abbrev pub reader_left : {R : Type 0} → (R → Option (List ℕ)) → LineReader R → Option (List ℕ)
reader_left remaining reader = text_left (reader_lines reader) (remaining (reader_source reader))

-- the result is a line
abbrev pub is_line : Result (Option Line) LineFault → Bool
is_line (Ok (Some line)) = true
is_line (Ok None) = false
is_line (Err fault) = false

-- What a call for the next line returns, and leaves of a reader: the line that it moved on to, or why there is
-- none.
pub record GoesOn {R : Type 0} (remaining : R → Option (List ℕ)) (failures : R → ℕ)
    (gives : R → List ℕ → R → Type 0) (old new : LineReader R) (result : Result (Option Line) LineFault) : Type 0 where
  pub next : IfOk result (λ found. MatchOption found
      (FindsEnd (reader_lines old) (reader_lines new) (reader_left remaining old) (reader_left remaining new))
      (λ line. FindsLine (reader_lines old) (reader_lines new) (reader_left remaining old) (reader_left remaining new)
      × (number_of line ≡ (reader_lines new).number)
      × (text_of line ≡ line_text (reader_lines new).piece)))
  -- after `TooLarge` a line is too large, and after `Read` the source has failed
  pub too_large : (number : ℕ) → result ≡ Err (TooLarge number) → (reader_lines old).fault ≡ None
      → IsTooLarge (reader_lines old) (reader_lines new) (reader_left remaining old) (reader_left remaining new) number
  pub read : result ≡ Err Read → (reader_lines old).fault ≡ None
      → failures (reader_source new) ≡ failures (reader_source old) + 1
  pub no_failure : result ≢ Err Read → failures (reader_source new) ≡ failures (reader_source old)
  -- each read of the source was needed, and the bytes it brought are part of the line, or in hand
  pub takes : Takes gives (reader_source old) (reader_source new) (reader_lines old) (reader_lines new) (is_line result)
  -- a fault leaves the number, and is returned again
  pub kept : IfErr result (λ fault. ((reader_lines new).fault ≡ Some fault)
      × ((reader_lines new).number ≡ (reader_lines old).number))
  pub again : IfSome (reader_lines old).fault (λ fault. (result ≡ Err fault)
      × (reader_lines new ≡ reader_lines old) × (reader_source new ≡ reader_source old))
