-- The number of an interval as text (MDFF Specification, 400 record; the digits are the profile's).
use Rattle.std.specs.Prelude.{ℕ, ◌&&◌, nat_le, List, length, if◌then◌else◌, Option, Some, None}
use Rattle.std.specs.Char.{is_ascii_digit}
use Rattle.std.specs.List.{list_all}
use Rattle.std.specs.Str.Parse.{digits_value}

-- the number of an interval that a text of one to four digits denotes
unfoldable pub interval_number_of : List ℕ → Option ℕ
interval_number_of text =
    if nat_le 1 (length text) && nat_le (length text) 4 && list_all is_ascii_digit text
    then Some (digits_value 10 text) else None
