-- The test of a key: that the first columns of a row equal its cells.
use Rattle.std.proofs.Common.{◌≡◌, ℕ, ℤ, pos, suc, zero, List, [], ◌∷◌, length, take, drop, Bool, true, false, ◌&&◌, Some, refl, sym, ap, subst, ◌∙◌, arith}
use Rattle.std.proofs.lemmas.Int.{ints}
use Rattle.std.specs.declared.cmp.Ordering.{Ordering}
use Rattle.std.specs.declared.cmp.Ordering.TheVariants.{Less, Equal, Greater}
use Rattle.std.specs.Ordering.{nat_cmp, int_cmp, is_eq}
use Rattle.std.specs.Cmp.{int_cmp_total, tied_itself}
use Rattle.std.specs.Cmp.Lexicographic.{slice_cmp, nat_list_cmp_total}
use Rattle.std.specs.List.{list_all}
use Rattle.std.specs.FinSet.{IsAntisymmetric, int_cmp-IsAntisymmetric, nat_cmp-IsAntisymmetric, slice_cmp-IsAntisymmetric}
use Rattle.sqlite.specs.declared.types.Value.{Value}
use Rattle.sqlite.specs.declared.types.Value.TheVariants.{Null, Int, Real, Text, Blob}
use Rattle.sqlite_value.specs.Order.{Row, column, bytes}
use Rattle.sqlite_value.proofs.OrderLemmas.{value_cmp-Int, value_cmp-Text}
use Rattle.sqlite_value.specs.declared.keys.Collation.TheVariants.{Binary}
use Rattle.sqlite_sql.specs.Ops.{binary, is_true, is_null, from_truth}
use Rattle.sqlite_sql.specs.Term.{Term, holds}
use Rattle.sqlite_sql.specs.declared.ops.BinaryOp.TheVariants.{Compare}
use Rattle.sqlite_sql.specs.declared.ops.CompareOp.TheVariants.{Eq}
use Rattle.sqlite_rules.specs.Edit.{id_in}
use Rattle.mds_tables.proofs.SelectTexts.{equals}
use Rattle.mds_tables.proofs.TypedLemmas.{AreAlike, IsAlike, both, reaches}

-- the tests of the cells from this place on
abbrev pub tests : ℕ → Row → List Term
tests at [] = []
tests at (k ∷ ks) = equals (suc at) at ∷ tests (suc at) ks

pub truth_of : (b : Bool) → is_true (from_truth (Some b)) ≡ b
truth_of true = refl
truth_of false = refl

equal_texts : (a b : List ℕ)
    → is_true (binary (Compare Eq Binary) (Text a) (Text b)) ≡ is_eq (slice_cmp nat_cmp a b)
unfolding binary
equal_texts a b = truth_of _ ∙ ap is_eq (value_cmp-Text a b)

equal_ints : (a b : ℤ) → is_true (binary (Compare Eq Binary) (Int a) (Int b)) ≡ is_eq (int_cmp a b)
unfolding binary
equal_ints a b = truth_of _ ∙ ap is_eq (value_cmp-Int a b)

-- the order of two counts
pub counted : (a b : ℕ) → int_cmp (pos a) (pos b) ≡ nat_cmp a b
counted a b = let same : nat_cmp a b ≡ int_cmp (pos a) (pos b) = grind (arith, ints) in sym same

tied : (o : Ordering) → is_eq o ≡ true → o ≡ Equal
tied Less h = absurd (cc)
tied Equal h = refl
tied Greater h = absurd (cc)

same_text : IsAntisymmetric (slice_cmp nat_cmp)
same_text = slice_cmp-IsAntisymmetric nat_cmp-IsAntisymmetric

-- SQL's equality, of a value and a cell of one kind, is equality
pub equal_cells : (k v : Value) → IsAlike k v → is_true (binary (Compare Eq Binary) v k) ≡ true → v ≡ k
equal_cells Null v of h = absurd of
equal_cells (Int n) v of h =
    let e = subst (λ x. is_true (binary (Compare Eq Binary) x (Int n)) ≡ true) of h in
    of ∙ ap Int (int_cmp-IsAntisymmetric _ _ (tied _ (sym (equal_ints (id_in v) n) ∙ e)))
equal_cells (Real x) v of h = absurd of
equal_cells (Text t) v of h =
    let e = subst (λ x. is_true (binary (Compare Eq Binary) x (Text t)) ≡ true) of h in
    of ∙ ap Text (same_text _ _ (tied _ (sym (equal_texts (bytes v) t) ∙ e)))
equal_cells (Blob b) v of h = absurd of

pub cells_equal : (k v : Value) → IsAlike k v → v ≡ k → is_true (binary (Compare Eq Binary) v k) ≡ true
cells_equal Null v of h = absurd of
cells_equal (Int n) v of h =
    ap (λ x. is_true (binary (Compare Eq Binary) x (Int n))) h ∙ equal_ints n n ∙ ap is_eq (tied_itself int_cmp_total n)
cells_equal (Real x) v of h = absurd of
cells_equal (Text t) v of h =
    ap (λ x. is_true (binary (Compare Eq Binary) x (Text t))) h ∙ equal_texts t t
    ∙ ap is_eq (tied_itself nat_list_cmp_total t)
cells_equal (Blob b) v of h = absurd of

some_alike : (k v : Value) → IsAlike k v → is_null v ≡ false
some_alike Null v of = absurd of
some_alike (Int n) v of = subst (λ x. is_null x ≡ false) (sym of) refl
some_alike (Real x) v of = absurd of
some_alike (Text t) v of = subst (λ x. is_null x ≡ false) (sym of) refl
some_alike (Blob b) v of = absurd of

-- the cells of a row from a place on
here : (row : Row) (at : ℕ) (k : Value) (ks : Row) → drop at row ≡ k ∷ ks → column row at ≡ k
here [] zero k ks is = absurd (cc)
here [] (suc at) k ks is = absurd (cc)
here (v ∷ vs) zero k ks is = cc
here (v ∷ vs) (suc at) k ks is = here vs at k ks is

behind : (row : Row) (at : ℕ) (k : Value) (ks : Row) → drop at row ≡ k ∷ ks → drop (suc at) row ≡ ks
behind [] zero k ks is = absurd (cc)
behind [] (suc at) k ks is = absurd (cc)
behind (v ∷ vs) zero k ks is = cc
behind (v ∷ vs) (suc at) k ks is = behind vs at k ks is

taken_here : (row : Row) (at n : ℕ) (k : Value) (ks : Row) → take (suc n) (drop at row) ≡ k ∷ ks → column row at ≡ k
taken_here [] zero n k ks is = absurd (cc)
taken_here [] (suc at) n k ks is = absurd (cc)
taken_here (v ∷ vs) zero n k ks is = cc
taken_here (v ∷ vs) (suc at) n k ks is = taken_here vs at n k ks is

taken_behind : (row : Row) (at n : ℕ) (k : Value) (ks : Row) → take (suc n) (drop at row) ≡ k ∷ ks
    → take n (drop (suc at) row) ≡ ks
taken_behind [] zero n k ks is = absurd (cc)
taken_behind [] (suc at) n k ks is = absurd (cc)
taken_behind (v ∷ vs) zero n k ks is = cc
taken_behind (v ∷ vs) (suc at) n k ks is = taken_behind vs at n k ks is

module _ (params row : Row) where
  begins_from : (at : ℕ) (ks : Row) → drop at params ≡ ks → AreAlike at ks row
      → list_all (holds (params ∷ row ∷ [])) (tests at ks) ≡ true → take (length ks) (drop (suc at) row) ≡ ks
  begins_from at [] same alike h = refl
  begins_from at (k ∷ ks) same alike h =
      let p : column params at ≡ k = here params at k ks same in
      let h0 = subst (λ x. is_true (binary (Compare Eq Binary) (column row (suc at)) x) ≡ true) p (both _ _ h).0 in
      let e : column row (suc at) ≡ k = equal_cells k (column row (suc at)) alike.0 h0 in
      let more = begins_from (suc at) ks (behind params at k ks same) alike.1 (both _ _ h).1 in
      ap (take (suc (length ks))) (reaches row (suc at) (some_alike k _ alike.0))
      ∙ ap (λ x. x ∷ take (length ks) (drop (suc (suc at)) row)) e ∙ ap (λ xs. k ∷ xs) more

  passes_from : (at : ℕ) (ks : Row) → drop at params ≡ ks → AreAlike at ks row
      → take (length ks) (drop (suc at) row) ≡ ks → list_all (holds (params ∷ row ∷ [])) (tests at ks) ≡ true
  passes_from at [] same alike h = refl
  passes_from at (k ∷ ks) same alike h =
      let p : column params at ≡ k = here params at k ks same in
      let e : column row (suc at) ≡ k = taken_here row (suc at) (length ks) k ks h in
      let h0 = subst (λ x. is_true (binary (Compare Eq Binary) (column row (suc at)) x) ≡ true) (sym p)
      (cells_equal k (column row (suc at)) alike.0 e) in
      let more = passes_from (suc at) ks (behind params at k ks same) alike.1
      (taken_behind row (suc at) (length ks) k ks h) in
      ap (λ b. b && list_all (holds (params ∷ row ∷ [])) (tests (suc at) ks)) h0 ∙ more

-- The test of a whole key says that the row begins with it.
pub begins : (key row : Row) → AreAlike 0 key row → list_all (holds (key ∷ row ∷ [])) (tests 0 key) ≡ true
    → take (length key) (drop 1 row) ≡ key
begins key row alike h = begins_from key row 0 key refl alike h

pub passes_key : (key row : Row) → AreAlike 0 key row → take (length key) (drop 1 row) ≡ key
    → list_all (holds (key ∷ row ∷ [])) (tests 0 key) ≡ true
passes_key key row alike h = passes_from key row 0 key refl alike h
