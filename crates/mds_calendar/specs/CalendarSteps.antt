-- What private steps of writing a day or a moment do.
use Rattle.std.specs.Prelude.{ℕ, ◌+◌}

-- the character of a decimal digit, from 48 for `0`
abbrev pub digit : ℕ → ℕ
digit n = 48 + n
