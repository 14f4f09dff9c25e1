-- How a list of parts is written, and a part that may be absent (profile).
use Rattle.std.specs.Prelude.{ℕ, ◌==◌, if◌then◌else◌, List, length, Option, Some, None, option_map}
use Rattle.std.specs.List.{join_with_byte}
use Rattle.mds_names.specs.Names.{comma}

-- the texts joined by commas
abbrev pub joined : List (List ℕ) → List ℕ
joined texts = join_with_byte comma texts

-- An absent part is the empty text; any other text is what it denotes.
abbrev pub optional : (List ℕ → Option ℕ) → List ℕ → Option (Option ℕ)
optional read text = if length text == 0 then Some None else option_map Some (read text)
