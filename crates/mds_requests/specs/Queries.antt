-- The pairs of a query, in the words of the library `form_urlencoded` (URL Standard, section 5).
use Rattle.std.specs.Prelude.{ℕ, Bool, ◌&&◌, ◌==◌, ◌++◌, nat_lt, if◌then◌else◌, List, [], ◌∷◌, length, map, bytes_eq, Option, Some, None}
use Rattle.std.specs.List.{list_all, list_any}
use Rattle.std.specs.Str.Lossy.{utf8_lossy}
use Rattle.form_urlencoded.specs.Form.{decode, raw_pairs}

-- the decoded bytes of a name or a value; what isn't UTF-8 is replaced
abbrev pub decoded : List ℕ → List ℕ
decoded bytes = utf8_lossy (decode bytes)

-- the names and values of a query, in order
abbrev pub pairs_of : List ℕ → List (List ℕ × List ℕ)
pairs_of query = map (λ pair. (decoded pair.0, decoded pair.1)) (raw_pairs query)

-- the values of a name
abbrev pub values_named : List ℕ → List (List ℕ × List ℕ) → List (List ℕ)
values_named name [] = []
values_named name (pair ∷ pairs) =
    if bytes_eq pair.0 name then pair.1 ∷ values_named name pairs else values_named name pairs

-- the value, if there is just one
abbrev pub only : List (List ℕ) → Option (List ℕ)
only [] = None
only (value ∷ []) = Some value
only (value ∷ other ∷ values) = None

-- every pair has one of these names
abbrev pub has_only : List (List ℕ) → List (List ℕ × List ℕ) → Bool
has_only names pairs = list_all (λ pair. list_any (λ name. bytes_eq pair.0 name) names) pairs

-- A query has each required name once, each optional name at most once, and no other name.
abbrev pub has_names : (required optional : List (List ℕ)) → List (List ℕ × List ℕ) → Bool
has_names required optional pairs =
    has_only (required ++ optional) pairs
    && list_all (λ name. length (values_named name pairs) == 1) required
    && list_all (λ name. nat_lt (length (values_named name pairs)) 2) optional
