-- The first line of a text.
use Rattle.std.specs.Prelude.{◌≡◌, ◌⊎◌, ℕ, false, List, [], ◌∷◌, ◌++◌}
use Rattle.std.specs.List.{All}
use Rattle.mds_statements.specs.Contents.{is_line_feed}

-- a text is a line, followed by nothing, or by a line feed and more
pub record IsFirstLine (text line rest : List ℕ) : Type 0 where
  pub whole : text ≡ line ++ rest
  pub plain : All (λ c. is_line_feed c ≡ false) line
  pub ends : (rest ≡ []) ⊎ ((more : List ℕ) × (rest ≡ 10 ∷ more))
