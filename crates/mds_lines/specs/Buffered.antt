-- What a reader of lines has in hand (profile).
use Rattle.std.specs.Prelude.{◌≡◌, ℕ, ◌+◌, ◌*◌, ◌<◌, ◌≤◌, Bool, true, false, ◌⊎◌, if◌then◌else◌, List, [], ◌∷◌, ◌++◌, length, MatchBool, Option, Some, None, option_map, IfSome}
use Rattle.std.specs.Io.KnownBytes.{Keeps}
use Rattle.std.specs.List.{concat}
use Rattle.mds_lines.specs.declared.reader.LineFault.{LineFault}
use Rattle.mds_lines.specs.declared.reader.LineFault.TheVariants.{TooLarge}
use Rattle.mds_lines.specs.Lines.{line_feed, line_pieces, longest_line, most_lines}
use Rattle.mds_lines.specs.Reads.{Reads, AreNeeded, block}

pub record Buffered : Type 0 where
  -- bytes that came from the source and weren't returned yet
  pub pending : List ℕ
  -- whether the source has ended
  pub is_ended : Bool
  -- the piece of the last line that was returned
  pub piece : List ℕ
  -- the number of that line, 0 before the first
  pub number : ℕ
  -- the fault that was returned, if any
  pub fault : Option LineFault

-- before the first read
abbrev pub nothing_read : Buffered
nothing_read = record { pending = []; is_ended = false; piece = []; number = 0; fault = None }

-- the rest of the text, if the source's bytes are known
abbrev pub text_left : Buffered → Option (List ℕ) → Option (List ℕ)
text_left buffered remaining =
    if buffered.is_ended then Some buffered.pending else option_map (λ more. buffered.pending ++ more) remaining

-- Both texts are known, and related like this.
abbrev pub BothKnown : Option (List ℕ) → Option (List ℕ) → (List ℕ → List ℕ → Type 0) → Type 0
BothKnown old new R = IfSome old (λ a. (b : List ℕ) × (new ≡ Some b) × R a b)

-- the next line was found: its piece is the first of those that were left
pub record FindsLine (old new : Buffered) (left_old left_new : Option (List ℕ)) : Type 0 where
  pub pieces : BothKnown left_old left_new (λ a b. line_pieces a ≡ new.piece ∷ line_pieces b)
  pub short : length new.piece ≤ longest_line
  pub number : new.number ≡ old.number + 1
  pub few : new.number ≤ most_lines
  pub faultless : new.fault ≡ None

-- there are no more lines
pub record FindsEnd (old new : Buffered) (left_old left_new : Option (List ℕ)) : Type 0 where
  pub pieces : BothKnown left_old left_new (λ a b. (a ≡ []) × (b ≡ []))
  pub number : new.number ≡ old.number
  pub ended : new.is_ended ≡ true
  pub faultless : new.fault ≡ None

-- a text's first line has too many bytes, or too great a number
abbrev pub IsOverLimit : ℕ → List ℕ → Type 0
IsOverLimit number text = (piece : List ℕ) × (rest : List (List ℕ)) × (line_pieces text ≡ piece ∷ rest)
    × ((longest_line < length piece) ⊎ (most_lines < number))

-- the next line has too many bytes, or too great a number, which the fault names; the line is still to come
pub record IsTooLarge (old new : Buffered) (left_old left_new : Option (List ℕ)) (number : ℕ) : Type 0 where
  pub next : number ≡ old.number + 1
  pub pieces : IfSome left_old (IsOverLimit number)
  pub left : Keeps left_old left_new
  pub kept : new.fault ≡ Some (TooLarge number)

-- What a call reads from the source, and what becomes of it. If a line is found, its piece and its line feed are
-- taken, and otherwise nothing. What isn't taken is in hand, at most one block.
pub record Takes {S : Type 0} (gives : S → List ℕ → S → Type 0) (source_old source_new : S)
    (old new : Buffered) (is_line : Bool) : Type 0 where
  pub given : List (List ℕ)
  pub reads : Reads gives source_old given source_new
  pub needed : AreNeeded old.pending old.is_ended given
  pub taken : List ℕ
  pub all : old.pending ++ concat given ≡ taken ++ new.pending
  pub line : MatchBool is_line ((taken ≡ new.piece) ⊎ (taken ≡ new.piece ++ line_feed ∷ [])) (taken ≡ [])
  pub held : length new.pending ≤ block

-- What a reader of lines took from a source since a given state. It is at most its lines, each with a line feed, and
-- one block.
pub record HasTaken {S : Type 0} (gives : S → List ℕ → S → Type 0) (begin now : S) (buffered : Buffered)
    : Type 0 where
  pub given : List (List ℕ)
  pub reads : Reads gives begin given now
  pub few : length (concat given) ≤ buffered.number * (longest_line + 1) + length buffered.pending
  pub lines : buffered.number ≤ most_lines
  pub held : length buffered.pending ≤ block
