-- What an object says at a key (profile). A value and its members are those that the library serde_json reads of a text.
use Rattle.std.specs.Prelude.{ℕ, nat_le, List, [], ◌∷◌, ◌==◌, if◌then◌else◌, codes, Option, Some, None, option_and_then, option_map}
use Rattle.std.specs.List.{list_any}
use Rattle.serde_json.specs.Data.{Data, Members, no_members, member}
use Rattle.serde_json.specs.Find.{as_number, as_object, as_str, as_u64, get}

-- the keys of an object, in the order of their bytes
abbrev pub member_keys : Members → List (List ℕ)
member_keys no_members = []
member_keys (member key value rest) = key ∷ member_keys rest

abbrev pub keys_of : Data → Option (List (List ℕ))
keys_of value = option_map member_keys (as_object value)

-- the text at a key
abbrev pub text_at : List ℕ → Data → Option (List ℕ)
text_at key value = option_and_then as_str (get key value)

-- the whole number at a key, up to a greatest one
abbrev pub number_at : List ℕ → ℕ → Data → Option ℕ
number_at key most value =
    option_and_then (λ n. if nat_le n most then Some n else None)
    (option_and_then as_u64 (option_and_then as_number (get key value)))

-- the quality flag that a text of one character names
abbrev pub flag_of : List ℕ → Option ℕ
flag_of [] = None
flag_of (flag ∷ []) = if list_any (λ known. flag == known) (codes "AEFNSV") then Some flag else None
flag_of (flag ∷ next ∷ rest) = None
