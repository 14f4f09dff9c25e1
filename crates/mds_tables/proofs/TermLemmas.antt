-- What rows of VALUES are made of, however many there are: the parameters, cut into rows.
use Rattle.std.proofs.Common.{◌≡◌, ℕ, zero, suc, ◌+◌, ◌*◌, List, [], ◌∷◌, ◌++◌, drop, take, length, map, refl, ap, subst, ◌∙◌, arith}
use Rattle.std.specs.List.{AllByRecursion, range_with_len}
use Rattle.std.proofs.lemmas.List.{append_assoc, length-append, length-map}
use Rattle.sqlite.specs.Effect.{value_rows}
use Rattle.sqlite.specs.Term.{Term, col, eval, lit}
use Rattle.sqlite.specs.declared.types.Value.{Value}
use Rattle.sqlite.specs.declared.types.Value.TheVariants.{Null}
use Rattle.sqlite_value.specs.Order.{Row, column}
use Rattle.mds_tables.specs.Refusals.{all_cells, terms_from}
use Rattle.mds_tables.proofs.ManyLemmas.{sources}
use Rattle.mds_tables.specs.Tabling.{terms_of}

-- the value at a place, and what lies behind it
at_place : (params : Row) (from : ℕ) (v : Value) (more : Row) → drop from params ≡ v ∷ more → column params from ≡ v
at_place [] zero v more e = absurd cc
at_place [] (suc n) v more e = absurd cc
at_place (p ∷ ps) zero v more e = cc
at_place (p ∷ ps) (suc n) v more e = at_place ps n v more e

behind_place : (params : Row) (from : ℕ) (v : Value) (more : Row) → drop from params ≡ v ∷ more → drop (suc from) params ≡ more
behind_place [] zero v more e = absurd cc
behind_place [] (suc n) v more e = absurd cc
behind_place (p ∷ ps) zero v more e = cc
behind_place (p ∷ ps) (suc n) v more e = behind_place ps n v more e

-- the columns that are the parameters from a place on
cells_are : (params cells more : Row) (from : ℕ) → drop from params ≡ cells ++ more
    → map (λ t. eval t (params ∷ [])) (map (col 0) (range_with_len from (length cells))) ≡ cells
cells_are params [] more from e = refl
cells_are params (v ∷ cells) more from e =
    let next : from + 1 ≡ suc from = omega arith in
    let behind : drop (from + 1) params ≡ cells ++ more = rw next (behind_place params from v (cells ++ more) e) in
    λ i. at_place params from v (cells ++ more) e i ∷ cells_are params cells more (from + 1) behind i

behind_cells : (params cells more : Row) (from : ℕ) → drop from params ≡ cells ++ more → drop (from + length cells) params ≡ more
behind_cells params [] more from e = let same : from + 0 ≡ from = omega arith in rw same e
behind_cells params (v ∷ cells) more from e =
    let next : suc from + length cells ≡ from + suc (length cells) = omega arith in
    subst (λ n. drop n params ≡ more) next (behind_cells params cells more (suc from) (behind_place params from v (cells ++ more) e))

length_range : (from n : ℕ) → length (range_with_len from n) ≡ n
length_range from zero = refl
length_range from (suc n) = ap suc (length_range (from + 1) n)

take_front : {X : Type 0} (xs ys : List X) (n : ℕ) → length xs ≡ n → take n (xs ++ ys) ≡ xs
take_front [] ys zero e = refl
take_front [] ys (suc n) e = absurd (omega (arith, e))
take_front (x ∷ xs) ys zero e = absurd (omega (arith, e))
take_front (x ∷ xs) ys (suc n) e = ap (λ l. x ∷ l) (take_front xs ys n (omega (arith, e)))

drop_front : {X : Type 0} (xs ys : List X) (n : ℕ) → length xs ≡ n → drop n (xs ++ ys) ≡ ys
drop_front [] ys zero e = refl
drop_front [] ys (suc n) e = absurd (omega (arith, e))
drop_front (x ∷ xs) ys zero e = absurd (omega (arith, e))
drop_front (x ∷ xs) ys (suc n) e = drop_front xs ys n (omega (arith, e))

abbrev columns_from : ℕ → ℕ → List Term
columns_from from width = map (col 0) (range_with_len from width)

length_columns : (from width : ℕ) → length (columns_from from width) ≡ width
length_columns from width = length-map (range_with_len from width) (col 0) ∙ length_range from width

abbrev pub AreWide : ℕ → List Row → Type 0
AreWide width = AllByRecursion (λ (row : Row). length row ≡ width)

-- the rows of VALUES are the parameters
pub rows_are : (params : Row) (width : ℕ) (rows : List Row) (from : ℕ) (more : Row) → AreWide width rows
    → drop from params ≡ all_cells rows ++ more
    → value_rows params (suc width) (length rows) (terms_of from width (length rows)) ≡ sources rows
rows_are params width [] from more wide e = refl
rows_are params width (row ∷ rows) from more wide e =
    let here : drop from params ≡ row ++ (all_cells rows ++ more) = e ∙ append_assoc row (all_cells rows) more in
    let rest = terms_of (from + width) width (length rows) in
    let front : take width (columns_from from width ++ rest) ≡ columns_from from width =
    take_front (columns_from from width) rest width (length_columns from width) in
    let back : drop width (columns_from from width ++ rest) ≡ rest = drop_front (columns_from from width) rest width (length_columns from width) in
    let cells : map (λ t. eval t (params ∷ [])) (columns_from from width) ≡ row =
    subst (λ n. map (λ t. eval t (params ∷ [])) (columns_from from n) ≡ row) (wide.0) (cells_are params row (all_cells rows ++ more) from here) in
    let behind : drop (from + width) params ≡ all_cells rows ++ more =
    subst (λ n. drop (from + n) params ≡ all_cells rows ++ more) (wide.0) (behind_cells params row (all_cells rows ++ more) from here) in
    rw (front, back) (λ i. (Null ∷ cells i) ∷ rows_are params width rows (from + width) more wide.1 behind i)

-- as many terms as there are columns, and as many rows
pub length_terms : (from width n : ℕ) → length (terms_of from width n) ≡ n * suc width
length_terms from width zero = omega arith
length_terms from width (suc n) =
    let one : length (columns_from from width) ≡ width = length_columns from width in
    let all = length-append (columns_from from width) (terms_of (from + width) width n) in
    let rest = length_terms (from + width) width n in
    omega (arith, one, all, rest)

-- the terms are those that a refusal speaks of
pub terms_are : (width : ℕ) (rows : List Row) (from : ℕ) → AreWide width rows → terms_from from rows ≡ terms_of from width (length rows)
terms_are width [] from wide = refl
terms_are width (row ∷ rows) from wide =
    rw (wide.0) (ap (λ ts. (lit Null ∷ columns_from from width) ++ ts) (terms_are width rows (from + width) wide.1))

pub length_all : (width : ℕ) (rows : List Row) → AreWide width rows → length (all_cells rows) ≡ length rows * width
length_all width [] wide = omega arith
length_all width (row ∷ rows) wide =
    let all = length-append row (all_cells rows) in
    let rest = length_all width rows wide.1 in
    omega (arith, wide.0, all, rest)
