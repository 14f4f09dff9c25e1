-- The ids of substitution jobs (profile).
use Rattle.std.specs.Prelude.{ℕ, Bool, ◌&&◌, ◌||◌, ◌==◌, nat_le, if◌then◌else◌, List, length, Option, Some, None}
use Rattle.std.specs.Char.{is_ascii_digit, is_ascii_lowercase, is_ascii_uppercase}
use Rattle.std.specs.List.{list_all}

-- a letter, a digit or a hyphen
abbrev pub is_id_char : ℕ → Bool
is_id_char c = is_ascii_uppercase c || is_ascii_lowercase c || is_ascii_digit c || (c == 45)

-- 1 to 36 of these characters
abbrev pub is_job_id : List ℕ → Bool
is_job_id text = nat_le 1 (length text) && nat_le (length text) 36 && list_all is_id_char text

-- the id that a text denotes
abbrev pub job_id_of : List ℕ → Option (List ℕ)
job_id_of text = if is_job_id text then Some text else None
