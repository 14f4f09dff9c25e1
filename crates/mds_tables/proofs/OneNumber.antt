-- Whether mds_schema says a number, by the rows that a query of it shows.
use Rattle.std.specs.Prelude.{◌≡◌, ◌≢◌, ℤ, List, [], ◌∷◌, map, Bool, true, false, refl}
use Rattle.std.proofs.Common.{ap, subst, inl, ◌∙◌, arith}
use Rattle.std.specs.Bool.{MatchBool}
use Rattle.std.specs.List.{AllByRecursion}
use Rattle.std.specs.List.Sorted.{IsPermutation}
use Rattle.std.proofs.lemmas.List.Sorted.{IsPermutation-sym, length_permutation}
use Rattle.sqlite.specs.declared.types.Value.TheVariants.{Int}
use Rattle.sqlite_catalog.specs.Listing.{IsSound}
use Rattle.sqlite_rules.specs.Edit.{id_in}
use Rattle.sqlite_schema.specs.declared.schema.Constraint.TheVariants.{Datatype, NotNull}
use Rattle.sqlite_schema.specs.Rules.{passes}
use Rattle.sqlite_trees.specs.Tree.{Trees}
use Rattle.sqlite_trees.proofs.ListLemmas.{all-permutation}
use Rattle.sqlite_value.specs.Order.{Row, column}
use Rattle.mds_world.specs.Lists.{Member}
use Rattle.mds_tables.specs.RowFacts.{int_at}
use Rattle.mds_tables.specs.Stores.{SelectsAll}
use Rattle.mds_tables.specs.Tables.{More, schema_table, schema_with}
use Rattle.mds_tables.proofs.MemberLemmas.{all_has}
use Rattle.mds_tables.proofs.TypedRows.{int_typed}

-- a list of one has one order
one_order : {X : Type 0} (x : X) (ys : List X) → IsPermutation (x ∷ []) ys → ys ≡ x ∷ []
one_order x [] p = let n = length_permutation (x ∷ []) [] p in absurd (omega (arith, n))
one_order x (y ∷ []) p =
    let it : AllByRecursion (λ z. z ≡ x) (y ∷ []) = all-permutation (λ z. z ≡ x) (x ∷ []) (y ∷ []) p (refl, tt) in
    ap (λ z. z ∷ []) it.0
one_order x (y ∷ z ∷ more) p = let n = length_permutation (x ∷ []) (y ∷ z ∷ more) p in absurd (omega (arith, n))

abbrev shown_in : List Row → List Row
shown_in rows = map (λ row. map (column row) (1 ∷ [])) rows

number_row : (more : More) (trees : Trees) → IsSound (schema_with more) trees → (r : Row) → Member r (trees 0) → column r 1 ≡ Int (int_at r 1)
number_row more trees sound r m =
    let fits : passes Datatype (schema_with more) trees schema_table r ≡ true =
    all_has _ (trees 0) r (sound.obeys.rules Datatype).0 m in
    let there : passes NotNull (schema_with more) trees schema_table r ≡ true =
    all_has _ (trees 0) r (sound.obeys.rules NotNull).0 m in
    int_typed more schema_table.name 0 schema_table.columns [] (1 ∷ []) [] _ trees r 0 refl fits there

says_one : (number : ℤ) (rows : List Row) → shown_in rows ≡ (Int number ∷ []) ∷ [] → map (λ row. int_at row 1) rows ≡ number ∷ []
says_one number [] e = absurd (cc)
says_one number (r ∷ []) e = let is : column r 1 ≡ Int number = cc in ap (λ v. id_in v ∷ []) is
says_one number (r ∷ t ∷ others) e = absurd (cc)

one_says : (number : ℤ) (rows : List Row) → ((r : Row) → Member r rows → column r 1 ≡ Int (int_at r 1))
    → map (λ row. int_at row 1) rows ≡ number ∷ [] → shown_in rows ≡ (Int number ∷ []) ∷ []
one_says number [] typed e = absurd (cc)
one_says number (r ∷ []) typed e =
    let is : int_at r 1 ≡ number = cc in ap (λ v. (v ∷ []) ∷ []) (typed r (inl refl) ∙ ap Int is)
one_says number (r ∷ t ∷ others) typed e = absurd (cc)

pub finds_number : (more : More) (number : ℤ) (trees : Trees) → IsSound (schema_with more) trees → (rows : List Row) → SelectsAll 0 (1 ∷ []) trees rows
    → (b : Bool) → MatchBool b (rows ≡ (Int number ∷ []) ∷ []) (rows ≢ (Int number ∷ []) ∷ [])
    → MatchBool b (map (λ row. int_at row 1) (trees 0) ≡ number ∷ []) (map (λ row. int_at row 1) (trees 0) ≢ number ∷ [])
finds_number more number trees sound rows sel true is =
    says_one number (trees 0) (one_order (Int number ∷ []) (shown_in (trees 0))
    (subst (λ rs. IsPermutation rs (shown_in (trees 0))) is (IsPermutation-sym (shown_in (trees 0)) rows sel)))
finds_number more number trees sound rows sel false differs = λ e.
    let whole = one_says number (trees 0) (number_row more trees sound) e in
    differs (one_order (Int number ∷ []) rows (subst (λ rs. IsPermutation rs rows) whole sel))
