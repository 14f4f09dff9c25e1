-- The pairs of a query, one after the other.
use Rattle.std.proofs.Common.{◌≡◌, ◌≢◌, ◌||◌, ℕ, Bor, List, [], ◌∷◌, ◌++◌, bytes_eq, map, Option, Some, None, append_assoc, sym}
use Rattle.std.specs.List.{list_any}
use Rattle.std.proofs.lemmas.List.{map-append}
use Rattle.std.proofs.lemmas.List.Folds.{list_any-append}
use Rattle.std.specs.declared.borrow.CowStr.{CowStr}
use Rattle.std.specs.Cow.{cow_str_bytes}
use Rattle.form_urlencoded.specs.Form.{DecodesTo}
use Rattle.mds_requests.specs.Queries.{decoded}
use Rattle.mds_requests.specs.QuerySteps.{texts_in}

-- a value that was found, or none
abbrev pub held : Option (Bor (List ℕ)) → List (List ℕ)
held None = []
held (Some value) = value.now ∷ []

-- a name is among these or those
pub among_either : (name : List ℕ) (names others : List (Bor (List ℕ)))
    → (list_any (bytes_eq name) (map (λ known. known.now) names) || list_any (bytes_eq name) (map (λ known. known.now) others))
    ≡ list_any (bytes_eq name) (map (λ known. known.now) names ++ map (λ known. known.now) others)
among_either name names others =
    sym (list_any-append (bytes_eq name) (map (λ (known : Bor (List ℕ)). known.now) names) (map (λ (known : Bor (List ℕ)). known.now) others))

-- pairs, decoded
abbrev pub decoded_all : List (List ℕ × List ℕ) → List (List ℕ × List ℕ)
decoded_all pairs = map (λ pair. (decoded pair.0, decoded pair.1)) pairs

-- a list with an element behind others isn't empty
not_empty : (before behind : List (List ℕ × List ℕ)) (pair : List ℕ × List ℕ) → before ++ (pair ∷ behind) ≢ []
not_empty [] behind pair = λ none. cc
not_empty (x ∷ before) behind pair = λ none. cc

-- where a pair is left, there are some
pub some_pair : (all before left rest : List (List ℕ × List ℕ)) (name value : List ℕ) → all ≡ before ++ decoded_all left
    → left ≡ (name, value) ∷ rest → all ≢ []
some_pair all before left rest name value so_far is = rw (so_far, is) (not_empty before (decoded_all rest) (decoded name, decoded value))

-- one pair more was read
pub one_more : {A : Type 0} (all : List (List ℕ × List ℕ)) (old new : List (CowStr A × CowStr A)) (pair : CowStr A × CowStr A)
    (left rest : List (List ℕ × List ℕ)) (name value : List ℕ) → all ≡ texts_in old ++ decoded_all left → left ≡ (name, value) ∷ rest
    → DecodesTo name (cow_str_bytes pair.0) × DecodesTo value (cow_str_bytes pair.1) → new ≡ old ++ pair ∷ []
    → all ≡ texts_in new ++ decoded_all rest
one_more {A} all old new pair left rest name value so_far is (reads, says) put =
    let text : CowStr A × CowStr A → List ℕ × List ℕ = λ p. (cow_str_bytes p.0, cow_str_bytes p.1) in
    rw (put, map-append {B = List ℕ × List ℕ} text old (pair ∷ []), append_assoc, reads.2, says.2) (rw is at so_far)
