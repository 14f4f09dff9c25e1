-- What a feeder of lines has done (profile).
use Rattle.std.specs.Prelude.{◌≡◌, ◌≢◌, ◌⊎◌, ℕ, List, [], ◌∷◌, ◌++◌, length, map, Option, None, MatchOption}
use Rattle.std.specs.List.{concat}
use Rattle.mds_lines.specs.Lines.{line_feed, line_text}
use Rattle.mds_records.specs.declared.file.FileFault.{FileFault}
use Rattle.mds_walk.specs.Answers.{HasWalked, IsRefusal}
use Rattle.mds_walk.specs.Faults.{Judge, text_fault}
use Rattle.mds_walk.specs.SoFar.{fault_so_far, open_piece, whole_pieces}
use Rattle.mds_walk.specs.declared.fault.TakeFault.{TakeFault}
use Rattle.mds_walk.specs.declared.feeder.LineFeeder.{LineFeeder}

-- the fault that a feeder has returned, if any
abbrev pub fault_answered : {T : Type 0} → LineFeeder T → Option TakeFault
fault_answered feeder = feeder.walk.fault

-- A feeder was fed a text, in whatever pieces, and met no fault. Its walk has taken the whole lines, and what follows them is in
-- hand.
pub record HasFed {T : Type 0} (judge : Judge) (taken : T → List (List ℕ) → Type 0) (text : List ℕ) (feeder : LineFeeder T) : Type 0 where
  pub none : fault_so_far judge text ≡ None
  pub walked : HasWalked taken feeder.walk (map line_text (whole_pieces text))
  pub rest : feeder.rest.items ≡ open_piece text
  pub lines : feeder.lines ≡ length (whole_pieces text)

-- A feeder was fed a text, in whatever pieces: if it has returned a fault, it is that of the text so far.
abbrev pub WasFed : {T : Type 0} → Judge → (T → List (List ℕ) → Type 0) → List ℕ → LineFeeder T → Type 0
WasFed judge taken text feeder =
    MatchOption feeder.walk.fault (HasFed judge taken text feeder) (IsRefusal (fault_so_far judge text))

-- Memory may run out for the line that isn't whole yet, if it ends here. No line before it has a fault.
abbrev pub MayLackHere : (List (List ℕ) → List ℕ → Option FileFault → Type 0) → Judge → List ℕ → Type 0
MayLackHere may_lack judge text =
    let before = map line_text (whole_pieces text) in
    let line = line_text (open_piece text) in
    (fault_so_far judge text ≡ None) × may_lack before line (text_fault judge before line)

-- Memory may run out for a piece after a text. A line in hand is copied if there is one. If no line has a fault, a line that the
-- piece doesn't end is copied, too. Each line that ends in the piece is taken.
abbrev pub MayLackFor : (List (List ℕ) → List ℕ → Option FileFault → Type 0) → Judge → List ℕ → List ℕ → Type 0
MayLackFor may_lack judge text piece = (piece ≢ []) × ((open_piece text ≢ [])
    ⊎ ((open_piece (text ++ piece) ≢ []) × (fault_so_far judge (text ++ piece) ≡ None))
    ⊎ ((front : List ℕ) × (behind : List ℕ) × (piece ≡ (front ++ line_feed ∷ []) ++ behind) × MayLackHere may_lack judge (text ++ front)))

-- Memory may run out for one of these pieces after a text: the text before that piece has no fault.
abbrev pub MayLackForOne : (List (List ℕ) → List ℕ → Option FileFault → Type 0) → Judge → List ℕ → List (List ℕ) → Type 0
MayLackForOne may_lack judge text pieces =
    (before : List (List ℕ)) × (piece : List ℕ) × (behind : List (List ℕ)) × (pieces ≡ before ++ piece ∷ behind)
    × (fault_so_far judge (text ++ concat before) ≡ None) × MayLackFor may_lack judge (text ++ concat before) piece

-- Memory may run out for these pieces: for one of them, or at their end for a last line without its line feed.
abbrev pub MayLackForAll : (List (List ℕ) → List ℕ → Option FileFault → Type 0) → Judge → List (List ℕ) → Type 0
MayLackForAll may_lack judge pieces = MayLackForOne may_lack judge [] pieces
    ⊎ ((open_piece (concat pieces) ≢ []) × MayLackHere may_lack judge (concat pieces))
