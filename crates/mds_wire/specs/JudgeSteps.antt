-- What is kept of the values of the fields with a name.
use Rattle.std.specs.Prelude.{◌≡◌, ℕ, ◌<◌, List, [], ◌∷◌, length}
use Rattle.mds_wire.specs.declared.judge.Values.{Values}
use Rattle.mds_wire.specs.declared.judge.Values.TheVariants as values

-- none, the only value, or that there are several
abbrev pub IsValues : List (List ℕ) → Values → Type 0
IsValues found values.None = found ≡ []
IsValues found (values.One value) = found ≡ value.now ∷ []
IsValues found values.Several = 1 < length found
