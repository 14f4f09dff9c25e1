-- The names of what is metered. MDFF Specification, the 200 record: NMI, CHAR(10), and NMISuffix, CHAR(2). By this
-- project's profile both consist of capital letters and digits.
use Rattle.std.specs.Prelude.{ℕ, Bool, ◌&&◌, ◌||◌, ◌==◌, if◌then◌else◌, List, ◌++◌, length, codes, Option, Some, None}
use Rattle.std.specs.Char.{is_ascii_digit, is_ascii_uppercase}
use Rattle.std.specs.List.{list_all}

-- a capital letter or a digit
abbrev pub is_name_char : ℕ → Bool
is_name_char c = is_ascii_uppercase c || is_ascii_digit c

-- exactly this many capital letters and digits
abbrev pub is_name : ℕ → List ℕ → Bool
is_name n text = (length text == n) && list_all is_name_char text

-- the NMI that a text denotes
abbrev pub nmi_of : List ℕ → Option (List ℕ)
nmi_of text = if is_name 10 text then Some text else None

-- the suffix that a text denotes
abbrev pub suffix_of : List ℕ → Option (List ℕ)
suffix_of text = if is_name 2 text then Some text else None

-- the character that joins the two, as it joins the fields of a record
abbrev pub comma : ℕ
comma = 44

abbrev pub is_comma : ℕ → Bool
is_comma c = c == comma

-- a stream's written text: its NMI and its suffix, joined by a comma (profile)
abbrev pub stream_text : List ℕ → List ℕ → List ℕ
stream_text nmi suffix = nmi ++ codes "," ++ suffix
