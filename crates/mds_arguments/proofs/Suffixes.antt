-- The suffixes that texts are.
use Rattle.std.proofs.Common.{◌≡◌, ℕ, ◌<◌, ◌≤◌, false, Bor, List, length, map, take, get_or, Some, None, is_some, sym, ◌∙◌, ap}
use Rattle.std.proofs.lemmas.List.{take_all}
use Rattle.std.proofs.lemmas.List.Folds.{list_all-map, list_all_at}
use Rattle.std.proofs.lemmas.Simd.{map-map}
use Rattle.std.specs.List.{list_all}
use Rattle.mds_names.specs.Names.{suffix_of}

-- one text is none
pub one_is_none : (texts : List (Bor (List ℕ))) (i : ℕ) (other : Bor (List ℕ)) → i < length texts → suffix_of (get_or texts i other).now ≡ None
    → list_all (λ text. is_some (suffix_of text)) (map (λ text. text.now) texts) ≡ false
one_is_none texts i other within none =
    list_all-map (λ text. is_some (suffix_of text)) (λ (text : Bor (List ℕ)). text.now) texts
    ∙ list_all_at (λ (text : Bor (List ℕ)). is_some (suffix_of text.now)) texts i other within (ap is_some none)

-- all texts were read
pub all_are_read : (texts : List (Bor (List ℕ))) (n : ℕ) (suffixes : List (List ℕ)) → length texts ≤ n
    → map (λ text. suffix_of text.now) (take n texts) ≡ map (λ suffix. Some suffix) suffixes
    → map suffix_of (map (λ text. text.now) texts) ≡ map (λ suffix. Some suffix) suffixes
all_are_read texts n suffixes le e =
    map-map suffix_of (λ (text : Bor (List ℕ)). text.now) texts
    ∙ ap (map (λ (text : Bor (List ℕ)). suffix_of text.now)) (sym (take_all n texts le)) ∙ e
