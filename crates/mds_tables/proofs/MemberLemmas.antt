-- The rows of an answer, by membership.
use Rattle.std.proofs.Common.{◌≡◌, ◌↔◌, ◌<◌, inl, inr, suc, ℕ, List, [], ◌∷◌, length, map, Bool, true, false, cond, refl, sym, ap, subst, ◌∙◌, arith}
use Rattle.std.specs.Prelude.{slice_index_or}
use Rattle.std.specs.List.{AllByRecursion, filter}
use Rattle.std.specs.List.Sorted.{IsPermutation}
use Rattle.std.proofs.lemmas.List.Sorted.{IsPermutation-map, IsPermutation-sym}
use Rattle.sqlite_trees.proofs.ListLemmas.{all-permutation}
use Rattle.sqlite_value.specs.declared.keys.Key.{Key}
use Rattle.sqlite_value.specs.Order.{Row, column}
use Rattle.sqlite_trees.specs.Tree.{Trees}
use Rattle.sqlite_sql.specs.Term.{Term, eval_all}
use Rattle.sqlite.specs.Query.{Output}
use Rattle.sqlite_schema.specs.declared.schema.Column.{Column}
use Rattle.mds_world.proofs.Lists.{in_map, map_in}
use Rattle.mds_world.specs.Lists.{Member}
use Rattle.mds_tables.specs.Stores.{Begins, Selects, SelectsAll}
use Rattle.mds_tables.proofs.KeyLemmas.{tests, begins, passes_key}
use Rattle.mds_tables.proofs.SelectLemmas.{Picks, passes, shows}
use Rattle.mds_tables.proofs.SelectTexts.{columns_at}
use Rattle.mds_tables.proofs.TypedLemmas.{AreFor, AreTyped, alike}

pub all_has : {X : Type 0} (P : X → Type 0) (xs : List X) (x : X) → AllByRecursion P xs → Member x xs → P x
all_has P [] x all has = absurd has
all_has P (y ∷ ys) x all (inl is) = subst P (sym is) all.0
all_has P (y ∷ ys) x all (inr has) = all_has P ys x all.1 has

pub all_of : {X : Type 0} (P : X → Type 0) (xs : List X) → ((x : X) → Member x xs → P x) → AllByRecursion P xs
all_of P [] each = tt
all_of P (x ∷ xs) each = (each x (inl refl), all_of P xs (λ y m. each y (inr m)))

-- the place of a member
pub place_of : {X : Type 0} (xs : List X) (x d : X) → Member x xs
    → (j : ℕ) × (j < length xs) × (slice_index_or xs j d ≡ x)
place_of [] x d m = absurd m
place_of (y ∷ ys) x d (inl e) = (0, omega arith, sym e)
place_of (y ∷ ys) x d (inr m) = let r = place_of ys x d m in (suc r.0, omega (arith, r.1), r.2)

-- a permutation has no other members
pub moved : {X : Type 0} (xs ys : List X) → IsPermutation xs ys → (x : X) → Member x ys → Member x xs
moved xs ys same x m =
    let within = all_of (λ y. Member y xs) xs (λ y n. n) in
    all_has (λ y. Member y xs) ys x (all-permutation (λ y. Member y xs) xs ys same within) m

pub filter_in : {X : Type 0} (p : X → Bool) (xs : List X) (x : X) → Member x (filter p xs) → Member x xs × (p x ≡ true)
filter_in p [] x m = absurd m
filter_in p (y ∷ ys) x m =
    elim (p y) as (λ b. p y ≡ b → Member x (cond b (y ∷ filter p ys) (filter p ys))
    → Member x (y ∷ ys) × (p x ≡ true)) [
      | true ↦ λ is m. elim m [
        | inl e ↦ (inl e, ap p e ∙ is)
        | inr n ↦ let it = filter_in p ys x n in (inr it.0, it.1)
      ]
      | false ↦ λ is m. let it = filter_in p ys x m in (inr it.0, it.1)
    ] refl m

in_filter : {X : Type 0} (p : X → Bool) (xs : List X) (x : X) → Member x xs → p x ≡ true → Member x (filter p xs)
in_filter p [] x m h = absurd m
in_filter p (y ∷ ys) x m h =
    elim (p y) as (λ b. p y ≡ b → Member x (cond b (y ∷ filter p ys) (filter p ys))) [
      | true ↦ λ is. elim m [ inl e ↦ inl e | inr n ↦ inr (in_filter p ys x n h) ]
      | false ↦ λ is. elim m [
        | inl e ↦ absurd (let here : p x ≡ p y = ap p e in cc)
        | inr n ↦ in_filter p ys x n h
      ]
    ] refl

shown_is : (places : List ℕ) (params row : Row)
    → eval_all (columns_at places) (params ∷ row ∷ []) ≡ map (column row) places
shown_is [] params row = refl
shown_is (at ∷ more) params row = ap (λ xs. column row at ∷ xs) (shown_is more params row)

-- what an output shows
abbrev pub second : Output → Row
second o = o.1

module _ (tree : ℕ) (test : List Term) (places : List ℕ) (order : List (Term × Key)) (db : Trees) (params : Row) where
  abbrev show : Row → Output
  show = shows tree test (columns_at places) order db params

  abbrev pass : Row → Bool
  pass = passes tree test (columns_at places) order db params

  -- the rows that pass a test, by membership, where the test says what is chosen
  module _ (Chosen : Row → Type 0) (chosen : (row : Row) → Member row (db tree) → (pass row ≡ true) → Chosen row)
      (passing : (row : Row) → Member row (db tree) → Chosen row → pass row ≡ true)
      (rows : List Row) (p : Picks tree test (columns_at places) order db params rows) (x : Row) where
    selected : Member x rows → (row : Row) × Member row (db tree) × Chosen row × (x ≡ map (column row) places)
    selected m =
        let o = in_map second p.ordered x (subst (Member x) p.shown m) in
        let r = in_map show (filter pass (db tree)) o.0 (moved _ p.ordered p.same o.0 o.1) in
        let it = filter_in pass (db tree) r.0 r.1 in
        (r.0, it.0, chosen r.0 it.0 it.1, o.2 ∙ ap second r.2 ∙ shown_is places params r.0)

    has_all : (row : Row) → Member row (db tree) → Chosen row → x ≡ map (column row) places → Member x rows
    has_all row m chose is =
        let found = in_filter pass (db tree) row m (passing row m chose) in
        let mapped = map_in show (filter pass (db tree)) row found in
        let there = moved p.ordered _ (IsPermutation-sym _ p.ordered p.same) (show row) mapped in
        let out = map_in second p.ordered (show row) there in
        let back = sym (is ∙ sym (shown_is places params row)) in
        subst (Member x) (sym p.shown) (subst (λ y. Member y (map second p.ordered)) back out)

    pub selects_by : Member x rows ↔ ((row : Row) × Member row (db tree) × Chosen row × (x ≡ map (column row) places))
    selects_by = (selected, λ it. has_all it.0 it.1 it.2 it.3)

-- the rows that pass the test of a key
pub selects : (tree : ℕ) (places : List ℕ) (order : List (Term × Key)) (db : Trees) (key : Row) (cs : List Column) → AreFor cs key
    → ((row : Row) → Member row (db tree) → AreTyped cs row)
    → (rows : List Row) → Picks tree (tests 0 key) (columns_at places) order db key rows → Selects tree key places db rows
selects tree places order db key cs of typed rows p x =
    selects_by tree (tests 0 key) places order db key (Begins key)
    (λ row m passed. begins key row (alike cs key row of (typed row m)) passed)
    (λ row m begin. passes_key key row (alike cs key row of (typed row m)) begin) rows p x

all_pass : {X : Type 0} (xs : List X) → filter (λ x. true) xs ≡ xs
all_pass [] = refl
all_pass (x ∷ xs) = ap (λ ys. x ∷ ys) (all_pass xs)

module _ (tree : ℕ) (places : List ℕ) (db : Trees) where
  abbrev whole : Row → Output
  whole = shows tree [] (columns_at places) [] db []

  seconds : (rows : List Row) → map second (map whole rows) ≡ map (λ row. map (column row) places) rows
  seconds [] = refl
  seconds (r ∷ rs) =
      ap (λ x. x ∷ map second (map whole rs)) (shown_is places [] r)
      ∙ ap (λ xs. map (column r) places ∷ xs) (seconds rs)

  -- all rows of a table, where nothing is tested
  pub selects_all : (rows : List Row) → Picks tree [] (columns_at places) [] db [] rows → SelectsAll tree places db rows
  selects_all rows p =
      let same = IsPermutation-map second _ p.ordered p.same in
      let outs = ap (λ rs. map second (map whole rs)) (all_pass (db tree)) ∙ seconds (db tree) in
      subst (λ xs. IsPermutation xs rows) outs (subst (IsPermutation _) (sym p.shown) same)
