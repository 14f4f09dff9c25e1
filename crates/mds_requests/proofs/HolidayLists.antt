-- Where the rows of a text first differ from a list of holidays.
use Rattle.std.proofs.Common.{◌≡◌, ◌≢◌, ℕ, ◌+◌, List, [], ◌∷◌, ◌++◌, length, map, Some, None, refl, ◌<◌, Bool, true, nat_lt, inl, inr, arith}
use Rattle.std.proofs.lemmas.List.{length-append, map-append}
use Rattle.std.proofs.lemmas.Bool.Decides.{nat_tests}
use Rattle.std.specs.List.{position_or_len}
use Rattle.std.specs.Prelude.{is_none, position}
use Rattle.mds_requests.specs.Holidays.{DiffersFirst, day_in, head_row}

-- no row, or another than the head row
pub no_head : (rows : List (List (List ℕ))) → rows ≡ [] → DiffersFirst rows 1
no_head rows e = rw e (inl (refl, λ same. cc))

pub other_head : (rows later : List (List (List ℕ))) (row : List (List ℕ)) → rows ≡ row ∷ later → row ≢ head_row → DiffersFirst rows 1
other_head rows later row e other = rw e (inl (refl, λ same. other (cc)))

-- says no day
abbrev is_bad : List (List ℕ) → Bool
is_bad row = is_none (day_in row)

-- behind a row for each of some days stands the first that says no day
bad_place : (others later : List (List (List ℕ))) (days : List ℕ) (row : List (List ℕ)) → map day_in others ≡ map Some days → day_in row ≡ None
    → position_or_len is_bad ((others ++ row ∷ []) ++ later) ≡ length others
bad_place [] later days row named bad = rw bad refl
bad_place (first ∷ others) later [] row named bad = absurd (cc)
bad_place (first ∷ others) later (day ∷ days) row named bad =
    let says : day_in first ≡ Some day = cc in
    let rest : map day_in others ≡ map Some days = cc in
    rw (says, bad_place others later days row rest bad) (omega arith)

first_bad : (others later : List (List (List ℕ))) (days : List ℕ) (row : List (List ℕ)) → map day_in others ≡ map Some days → day_in row ≡ None
    → position is_bad ((others ++ row ∷ []) ++ later) ≡ Some (length others)
first_bad others later days row named bad =
    let place = bad_place others later days row named bad in
    let long : length others < length ((others ++ row ∷ []) ++ later) = simp length-append (omega arith) in
    let within : nat_lt (length others) (length ((others ++ row ∷ []) ++ later)) ≡ true = grind (arith, nat_tests) in
    rw (place, within) refl

pub bad_row : (rows others later : List (List (List ℕ))) (days : List ℕ) (row : List (List ℕ)) (number : ℕ) → rows ≡ (head_row ∷ others ++ row ∷ []) ++ later
    → map day_in others ≡ map Some days → day_in row ≡ None → number ≡ 1 + length others → DiffersFirst rows (number + 1)
bad_row rows others later days row number e named bad counted =
    rw e (inr ((others ++ row ∷ []) ++ later, refl, length others, first_bad others later days row named bad, omega arith))

-- one more row and its day
pub named_more : (others : List (List (List ℕ))) (days : List ℕ) (row : List (List ℕ)) (day : ℕ) → map day_in others ≡ map Some days → day_in row ≡ Some day
    → map day_in (others ++ row ∷ []) ≡ map Some (days ++ day ∷ [])
named_more others days row day named says = rw (map-append day_in others (row ∷ []), map-append Some days (day ∷ []), named, says) refl
