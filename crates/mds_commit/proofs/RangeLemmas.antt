-- Which rows pass the test of a range of days, and what its queries find.
use Rattle.std.specs.Prelude.{◌≡◌, ◌≤◌, ◌<◌, ◌&&◌, ℕ, ℤ, pos, negsuc, Bool, true, false, List, [], ◌∷◌, IfOk, Result, refl}
use Rattle.std.proofs.Common.{sym, ap, subst, ◌∙◌, arith}
use Rattle.std.specs.List.{list_all}
use Rattle.std.specs.Ordering.{MatchOrdering, int_cmp, is_ge, is_le}
use Rattle.std.specs.declared.cmp.Ordering.{Ordering}
use Rattle.std.specs.declared.cmp.Ordering.TheVariants.{Less, Equal, Greater}
use Rattle.std.proofs.lemmas.Cmp.{ranked}
use Rattle.sqlite.specs.Listing.{reads_listing, understood}
use Rattle.sqlite.specs.Program.{overlay}
use Rattle.sqlite.specs.State.{Shown, State}
use Rattle.sqlite.specs.Term.{Term}
use Rattle.sqlite.specs.declared.error.Error.{Error}
use Rattle.sqlite.specs.declared.types.Value.TheVariants.{Int, Text}
use Rattle.sqlite.proofs.Callers.{IsPlain}
use Rattle.sqlite_catalog.specs.Listing.{IsSound}
use Rattle.sqlite_sql.specs.Ops.{binary, is_true}
use Rattle.sqlite_sql.specs.Term.{holds}
use Rattle.sqlite_sql.specs.declared.ops.BinaryOp.TheVariants.{Compare}
use Rattle.sqlite_sql.specs.declared.ops.CompareOp.TheVariants.{Ge, Le}
use Rattle.sqlite_trees.specs.Tree.{Trees}
use Rattle.sqlite_value.proofs.OrderLemmas.{value_cmp-Int}
use Rattle.sqlite_value.specs.Order.{Row, column}
use Rattle.sqlite_value.specs.declared.keys.Collation.TheVariants.{Binary}
use Rattle.sqlite_value.specs.declared.keys.Key.{Key}
use Rattle.mds_names.specs.declared.stream.Stream.{Stream}
use Rattle.mds_world.specs.Lists.{Member}
use Rattle.mds_tables.specs.Cells.{day_cells, number_cell, range_cells}
use Rattle.mds_tables.specs.Layouts.{Layout}
use Rattle.mds_tables.specs.RowFacts.{int_at}
use Rattle.mds_tables.specs.Stores.{FindsOf}
use Rattle.mds_tables.specs.Tables.{schema_with}
use Rattle.mds_tables.proofs.KeyLemmas.{cells_equal, counted, equal_cells, truth_of}
use Rattle.mds_tables.proofs.MemberLemmas.{selects_by}
use Rattle.mds_tables.proofs.QueryLemmas.{AsksFor, finds}
use Rattle.mds_tables.proofs.SelectTexts.{columns_at}
use Rattle.mds_tables.proofs.TypedLemmas.{both}
use Rattle.mds_tables.proofs.TypedRows.{HasKeyCells, begins_at, begins_by}
use Rattle.mds_commit.specs.Ranges.{IsInRange, SelectsRange}
use Rattle.mds_commit.proofs.FormTexts.{range_tests}

at_least_is : (a b : ℤ) → is_true (binary (Compare Ge Binary) (Int a) (Int b)) ≡ is_ge (int_cmp a b)
unfolding binary
at_least_is a b = truth_of _ ∙ ap is_ge (value_cmp-Int a b)

at_most_is : (a b : ℤ) → is_true (binary (Compare Le Binary) (Int a) (Int b)) ≡ is_le (int_cmp a b)
unfolding binary
at_most_is a b = truth_of _ ∙ ap is_le (value_cmp-Int a b)

from_ge : (a b : ℕ) (r : Ordering) → MatchOrdering r (a < b) (a ≡ b) (b < a) → is_ge r ≡ true → b ≤ a
from_ge a b Less m h = absurd (cc)
from_ge a b Equal m h = omega (arith, m)
from_ge a b Greater m h = omega (arith, m)

from_le : (a b : ℕ) (r : Ordering) → MatchOrdering r (a < b) (a ≡ b) (b < a) → is_le r ≡ true → a ≤ b
from_le a b Less m h = omega (arith, m)
from_le a b Equal m h = omega (arith, m)
from_le a b Greater m h = absurd (cc)

to_ge : (a b : ℕ) (r : Ordering) → MatchOrdering r (a < b) (a ≡ b) (b < a) → b ≤ a → is_ge r ≡ true
to_ge a b Less m h = absurd (omega (arith, m))
to_ge a b Equal m h = refl
to_ge a b Greater m h = refl

to_le : (a b : ℕ) (r : Ordering) → MatchOrdering r (a < b) (a ≡ b) (b < a) → a ≤ b → is_le r ≡ true
to_le a b Less m h = refl
to_le a b Equal m h = refl
to_le a b Greater m h = absurd (omega (arith, m))

-- a number that is at least one that isn't below 0 isn't either
number_from : (z : ℤ) (first last : ℕ) → is_ge (int_cmp z (pos first)) ≡ true → is_le (int_cmp z (pos last)) ≡ true
    → (day : ℕ) × (first ≤ day) × (day ≤ last) × (z ≡ pos day)
number_from (pos n) first last low high = (
  n,
  from_ge n first _ (ranked n first _ refl) (ap is_ge (sym (counted n first)) ∙ low),
  from_le n last _ (ranked n last _ refl) (ap is_le (sym (counted n last)) ∙ high),
  refl,
)
number_from (negsuc n) first last low high = absurd (cc)

all_four : (a b c d : Bool) → a ≡ true → b ≡ true → c ≡ true → d ≡ true → (a && (b && (c && (d && true)))) ≡ true
all_four a b c d p q r s = λ i. p i && (q i && (r i && (s i && true)))

module _ (s : Stream) (first last : ℕ) (row : Row) (it : HasKeyCells row) where
  abbrev pub Passes : Type 0
  Passes = list_all (holds (range_cells s first last ∷ row ∷ [])) range_tests ≡ true

  pub chosen : Passes → IsInRange s first last row
  chosen h =
      let one = both _ _ h in
      let two = both _ _ one.1 in
      let three = both _ _ two.1 in
      let four = both _ _ three.1 in
      let nmi : column row 1 ≡ Text s.nmi = equal_cells (Text s.nmi) (column row 1) it.nmi one.0 in
      let suffix : column row 2 ≡ Text s.suffix = equal_cells (Text s.suffix) (column row 2) it.suffix two.0 in
      let low : is_ge (int_cmp (int_at row 3) (pos first)) ≡ true =
      sym (at_least_is (int_at row 3) (pos first))
      ∙ subst (λ v. is_true (binary (Compare Ge Binary) v (Int (pos first))) ≡ true) it.number three.0 in
      let high : is_le (int_cmp (int_at row 3) (pos last)) ≡ true =
      sym (at_most_is (int_at row 3) (pos last))
      ∙ subst (λ v. is_true (binary (Compare Le Binary) v (Int (pos last))) ≡ true) it.number four.0 in
      let n = number_from (int_at row 3) first last low high in
      let day : column row 3 ≡ number_cell n.0 = it.number ∙ ap Int n.3 in (
        n.0,
        n.1,
        n.2,
        begins_by (day_cells s n.0) row (nmi, (λ e. cc), (suffix, (λ e. cc), (day, (λ e. cc), tt))),
      )

  pub passing : IsInRange s first last row → Passes
  passing in_range =
      let day = in_range.0 in
      let at = begins_at (day_cells s day) row in_range.3 in
      let nmi : column row 1 ≡ Text s.nmi = at 0 (omega arith) in
      let suffix : column row 2 ≡ Text s.suffix = at 1 (omega arith) in
      let number : column row 3 ≡ Int (pos day) = at 2 (omega arith) in
      let low : is_true (binary (Compare Ge Binary) (column row 3) (Int (pos first))) ≡ true =
      ap (λ v. is_true (binary (Compare Ge Binary) v (Int (pos first)))) number ∙ at_least_is (pos day) (pos first)
      ∙ ap is_ge (counted day first) ∙ to_ge day first _ (ranked day first _ refl) in_range.1 in
      let high : is_true (binary (Compare Le Binary) (column row 3) (Int (pos last))) ≡ true =
      ap (λ v. is_true (binary (Compare Le Binary) v (Int (pos last)))) number ∙ at_most_is (pos day) (pos last)
      ∙ ap is_le (counted day last) ∙ to_le day last _ (ranked day last _ refl) in_range.2 in
      all_four _ _ _ _ (cells_equal (Text s.nmi) (column row 1) it.nmi nmi) (cells_equal (Text s.suffix) (column row 2) it.suffix suffix)
      low high

-- a query of a range finds its rows
module _ (layout : Layout) (sql : List ℕ) (plain : IsPlain (understood (schema_with layout.more) sql) × (reads_listing (schema_with layout.more) sql ≡ false)) (tree : ℕ)
    (places : List ℕ) (order : List (Term × Key)) (names : List (List ℕ))
    (is : AsksFor layout.more sql tree range_tests (columns_at places) order names) (low : (db : Trees) → overlay db [] tree ≡ db tree)
    (keyed : (db : Trees) → IsSound (schema_with layout.more) db → (row : Row) → Member row (db tree) → HasKeyCells row) where
  pub finds_range : {V : Type 0} (s : Stream) (first last : ℕ) (old new : State) (items : V → List Row) (r : Result V Error)
      → IfOk r (λ v. Shown sql (range_cells s first last) old new (items v))
      → IfOk r (λ v. FindsOf layout old new (λ trees. SelectsRange tree s first last places trees (items v)))
  finds_range s first last old new items r h =
      finds layout sql plain tree range_tests (columns_at places) order names is low old new (range_cells s first last) items
      (λ rows trees. SelectsRange tree s first last places trees rows)
      (λ db sound rows p x.
      selects_by tree range_tests places order db (range_cells s first last) (IsInRange s first last)
      (λ row m. chosen s first last row (keyed db sound row m)) (λ row m. passing s first last row (keyed db sound row m))
      rows p x) r h
