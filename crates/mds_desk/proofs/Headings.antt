-- The headings of sections.
use Rattle.std.proofs.Common.{◌≡◌, ◌↔◌, ℕ, Bool, true, List}
use Rattle.std.specs.Str.{str_eq_ignore_ascii_case, str_to_ascii_lowercase}
use Rattle.std.proofs.lemmas.Slice.Eq.{bytes_eq-Decides}
use Rattle.std.proofs.lemmas.Bool.Decides.{same_from_decides}

-- a comparison is that of the definition
pub named_is : (a b : List ℕ) (t : Bool) → ((t ≡ true) ↔ (str_to_ascii_lowercase a ≡ str_to_ascii_lowercase b)) → t ≡ str_eq_ignore_ascii_case a b
named_is a b t h = same_from_decides t (str_eq_ignore_ascii_case a b) h (bytes_eq-Decides (str_to_ascii_lowercase a) (str_to_ascii_lowercase b))
