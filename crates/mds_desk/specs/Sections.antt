-- The sections of a text, each under a heading with number signs, that begins with a name and a colon (profile).
use Rattle.std.specs.Prelude.{◌==◌, ℕ, List, Bool, Option}
use Rattle.std.specs.List.{before_first, find, slice_split}
use Rattle.std.specs.Str.{str_eq_ignore_ascii_case, trim_start}

abbrev pub is_number_sign : ℕ → Bool
is_number_sign c = c == 35

abbrev pub is_colon : ℕ → Bool
is_colon c = c == 58

-- the beginning of a section, up to its first colon, without the blank before it
abbrev pub name_of : List ℕ → List ℕ
name_of section = trim_start (before_first is_colon section)

-- it begins with a name, in letters of either case
abbrev pub is_named : List ℕ → List ℕ → Bool
is_named name section = str_eq_ignore_ascii_case (name_of section) name

-- The section of a name: a text is cut at each number sign, and the first piece that begins with the name is its section.
abbrev pub section_of : List ℕ → List ℕ → Option (List ℕ)
section_of name text = find (is_named name) (slice_split is_number_sign text)
