-- What is shown of the details of a range of days, and its order.
use Rattle.std.proofs.Common.{◌≡◌, ◌≤◌, ◌<◌, ℕ, pos, List, [], ◌∷◌, ◌&&◌, length, map, get_or, Bool, true, false, All, IfOk, Result, refl, sym, ap, subst, ◌∙◌, arith}
use Rattle.std.specs.Cmp.{ranks}
use Rattle.std.specs.List.{AllByRecursion, filter, list_all}
use Rattle.std.specs.List.Sorted.{IsSorted}
use Rattle.std.specs.Ordering.{MatchOrdering, int_cmp, is_ge, is_le, is_lt, nat_cmp, ordering_then}
use Rattle.std.specs.declared.cmp.Ordering.{Ordering}
use Rattle.std.specs.declared.cmp.Ordering.TheVariants.{Less, Equal, Greater}
use Rattle.std.proofs.lemmas.List.{get_or-map, length-map}
use Rattle.std.proofs.lemmas.List.Sorted.{ranks_by, sorted_far}
use Rattle.sqlite.specs.Query.{Output, output_cmp}
use Rattle.sqlite.specs.State.{Shown, State}
use Rattle.sqlite.specs.declared.error.Error.{Error}
use Rattle.sqlite.specs.declared.types.Value.TheVariants.{Int, Text}
use Rattle.sqlite_catalog.specs.Listing.{IsSound}
use Rattle.sqlite_rules.specs.Edit.{id_in}
use Rattle.sqlite_sql.proofs.QueryLemmas.{output_cmp_total}
use Rattle.sqlite_sql.specs.Ops.{binary, is_true}
use Rattle.sqlite_sql.specs.Term.{holds}
use Rattle.sqlite_sql.specs.declared.ops.BinaryOp.TheVariants.{Compare}
use Rattle.sqlite_sql.specs.declared.ops.CompareOp.TheVariants.{Ge, Le}
use Rattle.sqlite_trees.specs.Tree.{Trees}
use Rattle.sqlite_value.proofs.OrderLemmas.{then-Equal, value_cmp-Int, value_cmp-Text}
use Rattle.sqlite_value.specs.Order.{Row, column}
use Rattle.sqlite_value.specs.declared.keys.Collation.TheVariants.{Binary}
use Rattle.mds_names.specs.declared.stream.Stream.{Stream}
use Rattle.mds_terms.specs.Details.{details_cmp}
use Rattle.mds_world.proofs.Lists.{in_map}
use Rattle.mds_world.specs.Lists.{Member}
use Rattle.mds_tables.specs.Cells.{day_cells, number_cell, range_cells}
use Rattle.mds_tables.specs.RowFacts.{int_at, natural, natural_at, text_at}
use Rattle.mds_tables.specs.Stores.{FindsOf}
use Rattle.mds_tables.specs.Tables.{daydetail_tree}
use Rattle.mds_tables.proofs.KeyLemmas.{cells_equal, counted, equal_cells}
use Rattle.mds_tables.proofs.MemberLemmas.{all_of, filter_in, moved, second, selects_by}
use Rattle.mds_tables.proofs.QueryLemmas.{finds}
use Rattle.mds_tables.proofs.SelectLemmas.{Picks, passes, shows}
use Rattle.mds_tables.proofs.SelectTexts.{columns_at}
use Rattle.mds_tables.proofs.TypedLemmas.{both}
use Rattle.mds_tables.proofs.TypedRows.{HasKeyCells, begins_at, begins_by}
use Rattle.mds_pack_rows.specs.Current.{current_layout, current_schema}
use Rattle.mds_commit.specs.Shown.{AreByDay, IsDetailRow, IsInRange, ShowsRange, range_columns}
use Rattle.mds_commit.proofs.DetailCells.{row_cells}
use Rattle.mds_commit.proofs.DetailOrder.{all_at, moment_order, next_order, shown_cmp, shown_total, turned, two}
use Rattle.mds_commit.proofs.DetailTexts.{day_rises, range_query, range_tests, select_range, select_range_is, select_range_plain}
use Rattle.mds_commit.proofs.Numbers.{at_least_is, at_most_is, between, to_ge, to_le}

-- ---- which rows pass

all_four : (a b c d : Bool) → a ≡ true → b ≡ true → c ≡ true → d ≡ true → (a && (b && (c && (d && true)))) ≡ true
all_four a b c d p q r s = λ i. p i && (q i && (r i && (s i && true)))

module _ (s : Stream) (first last : ℕ) (row : Row) (it : HasKeyCells row) where
  abbrev Passes : Type 0
  Passes = list_all (holds (range_cells s first last ∷ row ∷ [])) range_tests ≡ true

  chosen : Passes → IsInRange s first last row
  chosen h =
      let one = both _ _ h in
      let two = both _ _ one.1 in
      let three = both _ _ two.1 in
      let four = both _ _ three.1 in
      let nmi : column row 1 ≡ Text s.nmi = equal_cells (Text s.nmi) (column row 1) it.nmi one.0 in
      let suffix : column row 2 ≡ Text s.suffix = equal_cells (Text s.suffix) (column row 2) it.suffix two.0 in
      let low : is_ge (int_cmp (int_at row 3) (pos first)) ≡ true =
      sym (at_least_is (int_at row 3) (pos first))
      ∙ subst (λ v. is_true (binary (Compare Ge Binary) v (Int (pos first))) ≡ true) it.number three.0 in
      let high : is_le (int_cmp (int_at row 3) (pos last)) ≡ true =
      sym (at_most_is (int_at row 3) (pos last))
      ∙ subst (λ v. is_true (binary (Compare Le Binary) v (Int (pos last))) ≡ true) it.number four.0 in
      let n = between (int_at row 3) first last low high in
      let day : column row 3 ≡ number_cell n.0 = it.number ∙ ap Int n.3 in (
        n.0,
        n.1,
        n.2,
        begins_by (day_cells s n.0) row (nmi, (λ e. cc), (suffix, (λ e. cc), (day, (λ e. cc), tt))),
      )

  passing : IsInRange s first last row → Passes
  passing in_range =
      let day = in_range.0 in
      let at = begins_at (day_cells s day) row in_range.3 in
      let number : column row 3 ≡ number_cell day = at 2 (omega arith) in
      let low : is_true (binary (Compare Ge Binary) (column row 3) (Int (pos first))) ≡ true =
      ap (λ v. is_true (binary (Compare Ge Binary) v (Int (pos first)))) number ∙ at_least_is (pos day) (pos first) ∙ to_ge day first in_range.1 in
      let high : is_true (binary (Compare Le Binary) (column row 3) (Int (pos last))) ≡ true =
      ap (λ v. is_true (binary (Compare Le Binary) v (Int (pos last)))) number ∙ at_most_is (pos day) (pos last) ∙ to_le day last in_range.2 in
      all_four _ _ _ _ (cells_equal (Text s.nmi) (column row 1) it.nmi (at 0 (omega arith)))
      (cells_equal (Text s.suffix) (column row 2) it.suffix (at 1 (omega arith))) low high

-- ---- an output, and what it is sorted by

abbrev IsRangeKeyed : Output → Type 0
IsRangeKeyed o =
    o.0 ≡ number_cell (natural_at o.1 6) ∷ Int (int_at o.1 0) ∷ Text (text_at o.1 1) ∷ Text (text_at o.1 2) ∷ Text (text_at o.1 3)
    ∷ Text (text_at o.1 4) ∷ Int (int_at o.1 5) ∷ []

same_order : (a b : Output) → IsRangeKeyed a → IsRangeKeyed b → IsDetailRow a.1 → IsDetailRow b.1
    → output_cmp range_query a b ≡ ordering_then (nat_cmp (natural_at a.1 6) (natural_at b.1 6)) (shown_cmp b.1 a.1)
unfolding details_cmp
same_order a b p q of og =
    rw (p, q) (two _ _ _ _ (value_cmp-Int (pos (natural_at a.1 6)) (pos (natural_at b.1 6)) ∙ counted (natural_at a.1 6) (natural_at b.1 6))
    (two _ _ _ _ (value_cmp-Int (int_at b.1 0) (int_at a.1 0) ∙ moment_order (int_at b.1 0) (int_at a.1 0) og.0 of.0)
    (two _ _ _ _ (value_cmp-Text (text_at b.1 1) (text_at a.1 1))
    (two _ _ _ _ (value_cmp-Text (text_at b.1 2) (text_at a.1 2))
    (two _ _ _ _ (value_cmp-Text (text_at b.1 3) (text_at a.1 3))
    (two _ _ _ _ (value_cmp-Text (text_at b.1 4) (text_at a.1 4))
    (then-Equal _ ∙ value_cmp-Int (int_at b.1 5) (int_at a.1 5) ∙ next_order (int_at b.1 5) (int_at a.1 5) og.1 of.1)))))))

-- what isn't less by its day, and then by its rest, is of no earlier day
no_earlier : (m n : ℕ) (rest : Ordering) (o : Ordering) → MatchOrdering o (m < n) (m ≡ n) (n < m)
    → is_lt (ordering_then o rest) ≡ false → (n ≤ m) × (n ≡ m → is_lt rest ≡ false)
no_earlier m n rest Less r h = absurd (cc)
no_earlier m n rest Equal r h = (omega (arith, r), λ e. h)
no_earlier m n rest Greater r h = (omega (arith, r), λ e. absurd (omega (arith, r, e)))

by_day : (os : List Output) → AllByRecursion IsRangeKeyed os → IsSorted (output_cmp range_query) os
    → All (λ row. IsDetailRow row) (map second os) → AreByDay (map second os)
by_day os keyed up of i j d low high =
    let e : Output = ([], []) in
    let later : j < length os = omega (arith, length-map os second) in
    let before : i < length os = omega arith in
    let there : get_or (map second os) j d ≡ second (get_or os j e) = get_or-map second os j e d later in
    let here : get_or (map second os) i d ≡ second (get_or os i e) = get_or-map second os i e d before in
    let inside : i < length (map second os) = omega arith in
    let a = get_or os i e in
    let b = get_or os j e in
    let far : is_lt (output_cmp range_query b a) ≡ false =
    sorted_far _ (ranks_by (output_cmp_total range_query) (λ (y : Output). y)) os up i j e (omega arith) later in
    let same = same_order b a (all_at IsRangeKeyed os j e keyed later) (all_at IsRangeKeyed os i e keyed before)
    (subst IsDetailRow there (of j d high)) (subst IsDetailRow here (of i d inside)) in
    let it = no_earlier (natural_at b.1 6) (natural_at a.1 6) (shown_cmp a.1 b.1) _ (ranks (natural_at b.1 6) (natural_at a.1 6))
    (ap is_lt (sym same) ∙ far) in
    rw (there, here) (it.0, (λ e. ap is_le (shown_total.antisymm b.1 a.1) ∙ turned _ (it.1 e)))

-- ---- the query

module _ (s : Stream) (first last : ℕ) (db : Trees) (sound : IsSound current_schema db) where
  abbrev show : Row → Output
  show = shows daydetail_tree range_tests (columns_at range_columns) day_rises db (range_cells s first last)

  abbrev pass : Row → Bool
  pass = passes daydetail_tree range_tests (columns_at range_columns) day_rises db (range_cells s first last)

  abbrev PicksRange : List Row → Type 0
  PicksRange = Picks daydetail_tree range_tests (columns_at range_columns) day_rises db (range_cells s first last)

  shown_keyed : (row : Row) → Member row (db daydetail_tree) → pass row ≡ true → IsRangeKeyed (show row)
  shown_keyed row m passed =
      let it = row_cells db sound row m in
      let at = chosen s first last row it.keyed passed in
      let day : column row 3 ≡ number_cell at.0 = begins_at (day_cells s at.0) row at.3 2 (omega arith) in
      let cell : column row 3 ≡ number_cell (natural_at row 3) = day ∙ ap number_cell (sym (ap (λ v. natural (id_in v)) day)) in
      λ i. cell i ∷ it.moment i ∷ it.configuration i ∷ it.register i ∷ it.datastream i ∷ it.meter i ∷ it.next i ∷ []

  says_by_day : (rows : List Row) → PicksRange rows → All (λ row. IsDetailRow row) rows → AreByDay rows
  says_by_day rows p of =
      let each = all_of IsRangeKeyed p.ordered (λ o m.
      let r = in_map show (filter pass (db daydetail_tree)) o (moved _ p.ordered p.same o m) in
      let it = filter_in pass (db daydetail_tree) r.0 r.1 in
      subst IsRangeKeyed (sym r.2) (shown_keyed r.0 it.0 it.1)) in
      let sound_rows = subst (All (λ row. IsDetailRow row)) p.shown of in
      subst AreByDay (sym p.shown) (by_day p.ordered each p.sorted sound_rows)

  says_range : (rows : List Row) → PicksRange rows → ShowsRange s first last db rows
  says_range rows p = (
    (λ x. selects_by daydetail_tree range_tests range_columns day_rises db (range_cells s first last) (IsInRange s first last)
        (λ row m. chosen s first last row (row_cells db sound row m).keyed)
        (λ row m. passing s first last row (row_cells db sound row m).keyed) rows p x),
    says_by_day rows p,
  )

pub finds_range : {V : Type 0} (s : Stream) (first last : ℕ) (old new : State) (items : V → List Row) (r : Result V Error)
    → IfOk r (λ v. Shown select_range (range_cells s first last) old new (items v))
    → IfOk r (λ v. FindsOf current_layout old new (λ trees. ShowsRange s first last trees (items v)))
finds_range s first last old new items r h =
    finds current_layout select_range select_range_plain daydetail_tree range_tests (columns_at range_columns) day_rises _ select_range_is
    (λ db. refl) old new (range_cells s first last) items
    (λ rows trees. ShowsRange s first last trees rows) (λ db sound rows p. says_range s first last db sound rows p) r h
