-- The kind of file whose import a query asks for, by the value of its one name.
use Rattle.std.proofs.Common.{◌≡◌, ◌≢◌, ℕ, Bool, true, false, ◌||◌, ◌&&◌, List, [], ◌∷◌, codes, bytes_eq, Some, None, refl, ap}
use Rattle.mds_requests.specs.Queries.{has_only, only, values_named}
use Rattle.mds_requests.specs.Targets.{import_names, kind_asked, kind_named}

-- a list with one value
pub only_one : (values : List (List ℕ)) (value : List ℕ) → only values ≡ Some value → values ≡ value ∷ []
only_one [] value is = absurd (cc)
only_one (one ∷ []) value is = cc
only_one (one ∷ other ∷ values) value is = absurd (cc)

-- where all pairs have the name, its value says the kind
pub one_kind : (pairs : List (List ℕ × List ℕ)) (name : List ℕ) → has_only import_names pairs ≡ true
    → only (values_named (codes "kind") pairs) ≡ Some name → kind_asked pairs ≡ kind_named (name ∷ [])
one_kind pairs name all is = rw all (ap kind_named (only_one (values_named (codes "kind") pairs) name is))

-- a test of one name
named : (one : Bool) → (one || false) ≡ true → one ≡ true
named true is = refl
named false is = absurd (cc)

left : (a b : Bool) → (a && b) ≡ true → a ≡ true
left true b is = refl
left false b is = absurd (cc)

-- some pair has the name, so without one value it has two
no_kind : (values : List (List ℕ)) (value : List ℕ) → only (value ∷ values) ≡ None → kind_named (value ∷ values) ≡ None
no_kind [] value is = absurd (cc)
no_kind (other ∷ values) value is = refl

pub several_kinds : (pairs : List (List ℕ × List ℕ)) → has_only import_names pairs ≡ true → pairs ≢ []
    → only (values_named (codes "kind") pairs) ≡ None → kind_asked pairs ≡ None
several_kinds [] all some is = absurd (some refl)
several_kinds (pair ∷ pairs) all some is =
    let first : bytes_eq pair.0 (codes "kind") ≡ true = named (bytes_eq pair.0 (codes "kind")) (left (bytes_eq pair.0 (codes "kind") || false) (has_only import_names pairs) all) in
    let none : only (pair.1 ∷ values_named (codes "kind") pairs) ≡ None = rw first at is in
    rw (all, first) (no_kind (values_named (codes "kind") pairs) pair.1 none)
