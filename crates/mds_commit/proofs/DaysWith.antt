-- What is shown of the days that have some details.
use Rattle.std.proofs.Common.{◌≡◌, ◌≤◌, ℕ, pos, List, [], ◌∷◌, ◌&&◌, Bool, Option, Some, None, true, Result, IfOk, refl, sym, ap, subst, ◌∙◌, arith}
use Rattle.std.specs.List.{list_all}
use Rattle.std.specs.Ordering.{int_cmp, is_ge, is_le}
use Rattle.sqlite.specs.State.{Shown, State}
use Rattle.sqlite.specs.declared.error.Error.{Error}
use Rattle.sqlite.specs.declared.types.Value.TheVariants.{Int, Text}
use Rattle.sqlite_catalog.specs.Listing.{IsSound}
use Rattle.sqlite_sql.specs.Ops.{binary, is_true}
use Rattle.sqlite_sql.specs.Term.{holds}
use Rattle.sqlite_sql.specs.declared.ops.BinaryOp.TheVariants.{Compare}
use Rattle.sqlite_sql.specs.declared.ops.CompareOp.TheVariants.{Ge, Le}
use Rattle.sqlite_trees.specs.Tree.{Trees}
use Rattle.sqlite_value.specs.Order.{Row, column}
use Rattle.sqlite_value.specs.declared.keys.Collation.TheVariants.{Binary}
use Rattle.mds_keeper.specs.Content.{detail_on}
use Rattle.mds_keeper.specs.declared.additions.DetailDays.{DetailDays}
use Rattle.mds_tables.specs.Cells.{detail_cells, number_cell, optional_cell}
use Rattle.mds_tables.specs.RowFacts.{int_at}
use Rattle.mds_tables.specs.Stores.{Begins, FindsOf}
use Rattle.mds_tables.specs.Tables.{daydetail_tree}
use Rattle.mds_tables.proofs.KeyLemmas.{cells_equal, equal_cells}
use Rattle.mds_tables.proofs.MemberLemmas.{selects_by}
use Rattle.mds_tables.proofs.QueryLemmas.{finds}
use Rattle.mds_tables.proofs.SelectLemmas.{Picks}
use Rattle.mds_tables.proofs.SelectTexts.{columns_at}
use Rattle.mds_tables.proofs.TypedLemmas.{IsAlike, both}
use Rattle.mds_tables.proofs.TypedRows.{begins_at, begins_by, some_cell}
use Rattle.mds_pack_rows.specs.Current.{current_layout, current_schema}
use Rattle.mds_commit.specs.Shown.{ShowsDaysWith, days_cells}
use Rattle.mds_commit.proofs.DetailCells.{HasCells, row_cells}
use Rattle.mds_commit.proofs.DetailTexts.{select_days_with, select_days_with_is, select_days_with_plain, with_tests}
use Rattle.mds_commit.proofs.Numbers.{at_least_is, at_most_is, between, to_ge, to_le}

all_ten : (a b c d e f g h i j : Bool) → a ≡ true → b ≡ true → c ≡ true → d ≡ true → e ≡ true → f ≡ true → g ≡ true → h ≡ true
    → i ≡ true → j ≡ true → (a && (b && (c && (d && (e && (f && (g && (h && (i && (j && true)))))))))) ≡ true
all_ten a b c d e f g h i j aa bb cc dd ee ff gg hh ii jj =
    λ k. aa k && (bb k && (cc k && (dd k && (ee k && (ff k && (gg k && (hh k && (ii k && (jj k && true)))))))))

next_alike : (o : Option ℕ) (r : Row) → column r 9 ≡ Int (int_at r 9) → IsAlike (optional_cell o) (column r 9)
next_alike None r is = is
next_alike (Some n) r is = is

module _ (d : DetailDays) (first last : ℕ) (row : Row) where
  -- it is of the details, on a day of the range
  abbrev IsWithin : Type 0
  IsWithin = (day : ℕ) × (first ≤ day) × (day ≤ last) × Begins (detail_cells (detail_on d day)) row

  abbrev Passes : Type 0
  Passes = list_all (holds (days_cells d first last ∷ row ∷ [])) with_tests ≡ true

  module _ (it : HasCells row) where
    chosen : Passes → IsWithin
    chosen h =
        let t1 = both _ _ h in
        let t2 = both _ _ t1.1 in
        let t3 = both _ _ t2.1 in
        let t4 = both _ _ t3.1 in
        let t5 = both _ _ t4.1 in
        let t6 = both _ _ t5.1 in
        let t7 = both _ _ t6.1 in
        let t8 = both _ _ t7.1 in
        let t9 = both _ _ t8.1 in
        let t10 = both _ _ t9.1 in
        let low : is_ge (int_cmp (int_at row 3) (pos first)) ≡ true =
        sym (at_least_is (int_at row 3) (pos first))
        ∙ subst (λ v. is_true (binary (Compare Ge Binary) v (Int (pos first))) ≡ true) it.keyed.number t3.0 in
        let high : is_le (int_cmp (int_at row 3) (pos last)) ≡ true =
        sym (at_most_is (int_at row 3) (pos last))
        ∙ subst (λ v. is_true (binary (Compare Le Binary) v (Int (pos last))) ≡ true) it.keyed.number t4.0 in
        let n = between (int_at row 3) first last low high in
        let day : column row 3 ≡ number_cell n.0 = it.keyed.number ∙ ap Int n.3 in (
          n.0,
          n.1,
          n.2,
          begins_by (detail_cells (detail_on d n.0)) row (
            equal_cells (Text d.stream.nmi) (column row 1) it.keyed.nmi t1.0,
            (λ e. cc),
            (
              equal_cells (Text d.stream.suffix) (column row 2) it.keyed.suffix t2.0,
              (λ e. cc),
              (
                day,
                (λ e. cc),
                (
                  equal_cells (number_cell d.moment) (column row 4) it.moment t5.0,
                  (λ e. cc),
                  (
                    equal_cells (Text d.details.configuration) (column row 5) it.configuration t6.0,
                    (λ e. cc),
                    (
                      equal_cells (Text d.details.register) (column row 6) it.register t7.0,
                      (λ e. cc),
                      (
                        equal_cells (Text d.details.datastream) (column row 7) it.datastream t8.0,
                        (λ e. cc),
                        (
                          equal_cells (Text d.details.meter) (column row 8) it.meter t9.0,
                          (λ e. cc),
                          (
                            equal_cells (optional_cell d.details.next) (column row 9) (next_alike d.details.next row it.next) t10.0,
                            (λ e. some_cell d.details.next e),
                            tt,
                          ),
                        ),
                      ),
                    ),
                  ),
                ),
              ),
            ),
          ),
        )

    passing : IsWithin → Passes
    passing within =
        let day = within.0 in
        let at = begins_at (detail_cells (detail_on d day)) row within.3 in
        let number : column row 3 ≡ number_cell day = at 2 (omega arith) in
        let low : is_true (binary (Compare Ge Binary) (column row 3) (Int (pos first))) ≡ true =
        ap (λ v. is_true (binary (Compare Ge Binary) v (Int (pos first)))) number ∙ at_least_is (pos day) (pos first) ∙ to_ge day first within.1 in
        let high : is_true (binary (Compare Le Binary) (column row 3) (Int (pos last))) ≡ true =
        ap (λ v. is_true (binary (Compare Le Binary) v (Int (pos last)))) number ∙ at_most_is (pos day) (pos last) ∙ to_le day last within.2 in
        all_ten _ _ _ _ _ _ _ _ _ _
        (cells_equal (Text d.stream.nmi) (column row 1) it.keyed.nmi (at 0 (omega arith)))
        (cells_equal (Text d.stream.suffix) (column row 2) it.keyed.suffix (at 1 (omega arith)))
        low high
        (cells_equal (number_cell d.moment) (column row 4) it.moment (at 3 (omega arith)))
        (cells_equal (Text d.details.configuration) (column row 5) it.configuration (at 4 (omega arith)))
        (cells_equal (Text d.details.register) (column row 6) it.register (at 5 (omega arith)))
        (cells_equal (Text d.details.datastream) (column row 7) it.datastream (at 6 (omega arith)))
        (cells_equal (Text d.details.meter) (column row 8) it.meter (at 7 (omega arith)))
        (cells_equal (optional_cell d.details.next) (column row 9) (next_alike d.details.next row it.next) (at 8 (omega arith)))

module _ (d : DetailDays) (first last : ℕ) (db : Trees) (sound : IsSound current_schema db) where
  says_days : (rows : List Row) → Picks daydetail_tree with_tests (columns_at (3 ∷ [])) [] db (days_cells d first last) rows
      → ShowsDaysWith d first last db rows
  says_days rows p x =
      let it = selects_by daydetail_tree with_tests (3 ∷ []) [] db (days_cells d first last) (IsWithin d first last)
      (λ row m. chosen d first last row (row_cells db sound row m)) (λ row m. passing d first last row (row_cells db sound row m))
      rows p x in (
        (λ m.
            let r = it.0 m in
            let day = r.2.0 in
            let cell : column r.0 3 ≡ number_cell day = begins_at (detail_cells (detail_on d day)) r.0 r.2.3 2 (omega arith) in
            (day, r.2.1, r.2.2, (r.0, r.1, r.2.3), r.3 ∙ ap (λ v. v ∷ []) cell)),
        (λ n.
            let r = n.3 in
            let cell : column r.0 3 ≡ number_cell n.0 = begins_at (detail_cells (detail_on d n.0)) r.0 r.2 2 (omega arith) in
            it.1 (r.0, r.1, (n.0, n.1, n.2, r.2), n.4 ∙ ap (λ v. v ∷ []) (sym cell))),
      )

pub finds_days : {V : Type 0} (d : DetailDays) (first last : ℕ) (old new : State) (items : V → List Row) (r : Result V Error)
    → IfOk r (λ v. Shown select_days_with (days_cells d first last) old new (items v))
    → IfOk r (λ v. FindsOf current_layout old new (λ trees. ShowsDaysWith d first last trees (items v)))
finds_days d first last old new items r h =
    finds current_layout select_days_with select_days_with_plain daydetail_tree with_tests (columns_at (3 ∷ [])) [] _ select_days_with_is
    (λ db. refl) old new (days_cells d first last) items
    (λ rows trees. ShowsDaysWith d first last trees rows) (λ db sound rows p. says_days d first last db sound rows p) r h
