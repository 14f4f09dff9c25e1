-- The texts that are kept as they are in a record. MDFF Specification: fields of CHAR and VARCHAR. Which characters
-- they may have, and the limit of 240, are this project's profile.
use Rattle.std.specs.Prelude.{ℕ, Bool, ◌&&◌, not, nat_le, List, length}
use Rattle.std.specs.List.{list_all}
use Rattle.mds_names.specs.Names.{is_comma}

-- the first of the printable ASCII characters
abbrev pub space : ℕ
space = 32

-- the last printable ASCII character
abbrev pub tilde : ℕ
tilde = 126

-- printable ASCII other than the comma
abbrev pub is_printable_char : ℕ → Bool
is_printable_char c = nat_le space c && nat_le c tilde && not (is_comma c)

-- at most 240 such characters
abbrev pub is_printable : List ℕ → Bool
is_printable text = nat_le (length text) 240 && list_all is_printable_char text
