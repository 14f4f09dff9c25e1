-- The private steps of a reader of lines.
use Rattle.std.specs.Prelude.{◌≡◌, ◌≢◌, ℕ, ◌+◌, ◌<◌, ◌≤◌, Bool, true, false, ◌==◌, ◌⊎◌, List, ◌++◌, length, take, drop, slice_index, All, MatchBool, Option, Result, Ok, Err, IfOk}
use Rattle.std.specs.Io.KnownBytes.{Keeps}
use Rattle.std.specs.List.{concat}
use Rattle.mds_lines.specs.declared.reader.LineFault.{LineFault}
use Rattle.mds_lines.specs.Buffered.{Buffered, text_left, FindsLine, FindsEnd}
use Rattle.mds_lines.specs.Lines.{line_feed, longest_line, most_lines}
use Rattle.mds_lines.specs.Reads.{Reads, AreNeeded, block}

-- a line was found
abbrev pub is_found : Result Bool LineFault → Bool
is_found (Ok found) = found
is_found (Err fault) = false

-- the next line was found, or there are no more
abbrev pub Finds : Result Bool LineFault → Buffered → Buffered → Option (List ℕ) → Option (List ℕ) → Type 0
Finds result old new known_old known_new = IfOk result (λ found. MatchBool found
    (FindsLine old new (text_left old known_old) (text_left new known_new))
    (FindsEnd old new (text_left old known_old) (text_left new known_new)))

-- the rest of the text is unchanged
abbrev pub KeepsLeft : Buffered → Buffered → Option (List ℕ) → Option (List ℕ) → Type 0
KeepsLeft old new known_old known_new = Keeps (text_left old known_old) (text_left new known_new)

-- the first n pending bytes are the next piece, or too long a part of one
pub record Reaches (buffered : Buffered) (n : ℕ) : Type 0 where
  pub within : n ≤ length buffered.pending
  pub apart : All (λ byte. byte ≢ line_feed) (take n buffered.pending)
  pub stops : n < length buffered.pending → slice_index buffered.pending n ≡ line_feed
  pub ends : n ≡ length buffered.pending → (longest_line < n) ⊎ (buffered.is_ended ≡ true)

-- the first n pending bytes were taken as a line's piece, and the line feed after them
pub record TakesPiece (old new : Buffered) (n : ℕ) : Type 0 where
  pub piece : new.piece ≡ take n old.pending
  pub pending : new.pending ≡ drop (n + 1) old.pending
  pub is_ended : new.is_ended ≡ old.is_ended
  pub number : new.number ≡ old.number + 1
  pub fault : new.fault ≡ old.fault
  pub short : n ≤ longest_line
  pub few : new.number ≤ most_lines

-- the source was read once, and its bytes were added after the pending ones: if there were none, it has ended or
-- failed
pub record Fills {S : Type 0} (gives : S → List ℕ → S → Type 0) (source_old source_new : S)
    (old new : Buffered) (is_read : Bool) : Type 0 where
  pub bytes : List ℕ
  pub gave : gives source_old bytes source_new
  pub more : new.pending ≡ old.pending ++ bytes
  pub ended : is_read ≡ true → new.is_ended ≡ (length bytes == 0)

-- the source was read as often as needed, and all its bytes were added after the pending ones
pub record Gathers {S : Type 0} (gives : S → List ℕ → S → Type 0) (source_old source_new : S)
    (old new : Buffered) : Type 0 where
  pub given : List (List ℕ)
  pub reads : Reads gives source_old given source_new
  pub needed : AreNeeded old.pending old.is_ended given
  pub more : new.pending ≡ old.pending ++ concat given
  pub held : length new.pending ≤ block
