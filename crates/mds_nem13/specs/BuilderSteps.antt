-- How accumulations are made: private steps.
use Rattle.std.specs.Prelude.{◌≡◌, ℕ, Bool, false, ◌||◌, ◌==◌, List, [], ◌∷◌, ◌++◌, string_bytes}
use Rattle.std.specs.List.{All, flat_map}
use Rattle.mds_lines.specs.Lines.{comma, line_feed}
use Rattle.mds_statements.specs.Statements.{Statement}
use Rattle.mds_statements.specs.Statements.Statement.{HeaderOf}
use Rattle.mds_terms.specs.Parts.{joined}
use Rattle.mds_nem13.specs.Accumulations.{periods_of}
use Rattle.mds_nem13.specs.declared.accumulation.Accumulation.{Accumulation}
use Rattle.mds_nem13.specs.declared.builder.AccumulationBuilder.{AccumulationBuilder}

-- a byte that ends a text or a line
abbrev pub is_separator : ℕ → Bool
is_separator c = (c == comma) || (c == line_feed)

-- a text without such a byte
abbrev pub IsApart : List ℕ → Type 0
IsApart text = All (λ c. is_separator c ≡ false) text

-- texts, each after a comma
abbrev pub led : List (List ℕ) → List ℕ
led texts = flat_map (λ text. comma ∷ text) texts

-- these texts were appended, each after a comma, and none has a separator
pub record AppendsEach (old new : List ℕ) (texts : List (List ℕ)) : Type 0 where
  pub bytes : new ≡ old ++ led texts
  pub apart : All IsApart texts

-- these texts were appended after some bytes, joined by commas, and none has a separator
pub record AppendsLine (front old new : List ℕ) (texts : List (List ℕ)) : Type 0 where
  pub bytes : new ≡ old ++ front ++ joined texts
  pub apart : All IsApart texts

-- the statements have a header first, and then these accumulations
abbrev pub AreTold : List Accumulation → List Statement → Type 0
AreTold accumulations [] = accumulations ≡ []
AreTold accumulations (HeaderOf header ∷ more) = periods_of accumulations ≡ more
AreTold accumulations (statement ∷ more) = ⊥

-- a builder received these statements, and no others
abbrev pub IsTold : AccumulationBuilder → List Statement → Type 0
IsTold builder statements = AreTold builder.accumulations.items statements

-- The last of a list, if there is one, became another that is related to it by `R`.
abbrev pub LastBecomes : {T : Type 0} → (T → T → Type 0) → List T → List T → Type 0
LastBecomes {T = T} R old new = (front : List T) (last : T) → old ≡ front ++ last ∷ []
    → (next : T) × (new ≡ front ++ next ∷ []) × R last next

-- an accumulation got one more line
abbrev pub GainsLine : List (List ℕ) → Accumulation → Accumulation → Type 0
GainsLine texts old new =
    (new ≡ record old { content = new.content })
    × AppendsLine (line_feed ∷ []) (string_bytes old.content) (string_bytes new.content) texts
