-- Fields of a row, one by one. No public contract cites it.
use Rattle.std.specs.Prelude.{◌≡◌, ◌≤◌, ℕ, List, ◌++◌, codes}
use Rattle.std.specs.List.{All}
use Rattle.csv.specs.Writing.{default_writer, field_text}

-- a field as it is written, with the comma after it
abbrev pub closed : List ℕ → List ℕ
closed field = field_text default_writer field ++ codes ","

-- each byte is above the comma, as those of digits and letters are, so the text needs no quotation marks
pub record IsPlain (text : List ℕ) : Type 0 where
  pub high : All (λ c. 45 ≤ c) text

-- what was there is still there, with something after it
abbrev pub Begins : List ℕ → List ℕ → Type 0
Begins old new = (more : List ℕ) × (new ≡ old ++ more)
