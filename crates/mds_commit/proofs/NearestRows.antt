-- What is shown of the nearest day.
use Rattle.std.proofs.Common.{◌≡◌, ◌↔◌, ◌≤◌, inl, ℕ, pos, List, [], ◌∷◌, ◌&&◌, Bool, true, false, map, take, Result, IfOk, refl, sym, ap, subst, ◌∙◌, arith}
use Rattle.std.proofs.lemmas.List.Sorted.{ranks_by, sorted_far}
use Rattle.std.specs.List.{filter, list_all}
use Rattle.std.specs.List.Sorted.{IsSorted}
use Rattle.std.specs.Ordering.{int_cmp, is_le, is_lt, ordering_then}
use Rattle.std.specs.declared.cmp.Ordering.TheVariants.{Equal}
use Rattle.sqlite.specs.Query.{Output, output_cmp}
use Rattle.sqlite.specs.Program.{IsProgramAnswer}
use Rattle.sqlite.specs.State.{Shown, State}
use Rattle.sqlite.specs.declared.error.Error.{Error}
use Rattle.sqlite.specs.declared.types.Value.TheVariants.{Int, Text}
use Rattle.sqlite_catalog.specs.Listing.{IsSound}
use Rattle.sqlite_rules.specs.Edit.{id_in}
use Rattle.sqlite_sql.proofs.QueryLemmas.{output_cmp_total}
use Rattle.sqlite_sql.specs.Ops.{binary, is_true}
use Rattle.sqlite_sql.specs.Term.{holds}
use Rattle.sqlite_sql.specs.declared.ops.BinaryOp.TheVariants.{Compare}
use Rattle.sqlite_sql.specs.declared.ops.CompareOp.TheVariants.{Le}
use Rattle.sqlite_trees.specs.Tree.{Trees}
use Rattle.sqlite_value.proofs.OrderLemmas.{then-Equal, value_cmp-Int}
use Rattle.sqlite_value.specs.Keys.{by_key}
use Rattle.sqlite_value.specs.Order.{Row, column}
use Rattle.sqlite_value.specs.declared.keys.Collation.TheVariants.{Binary}
use Rattle.mds_names.specs.declared.stream.Stream.{Stream}
use Rattle.mds_world.proofs.Lists.{in_map}
use Rattle.mds_world.specs.Lists.{Member}
use Rattle.mds_tables.specs.Cells.{day_cells, number_cell, stream_cells}
use Rattle.mds_tables.specs.RowFacts.{int_at}
use Rattle.mds_tables.specs.Stores.{Begins, FindsOf}
use Rattle.mds_tables.specs.Tables.{daydetail_tree}
use Rattle.mds_tables.specs.Shown.{falling}
use Rattle.mds_tables.proofs.KeyLemmas.{cells_equal, equal_cells}
use Rattle.mds_tables.proofs.MemberLemmas.{moved, place_of, second, selects_by}
use Rattle.mds_tables.proofs.QueryLemmas.{finds_by}
use Rattle.mds_tables.proofs.SelectLemmas.{Picks, passes, picks_first, shows}
use Rattle.mds_tables.proofs.SelectTexts.{columns_at}
use Rattle.mds_tables.proofs.TypedLemmas.{both}
use Rattle.mds_tables.proofs.TypedRows.{HasKeyCells, begins_at, begins_by}
use Rattle.mds_pack_rows.specs.Current.{current_layout, current_schema}
use Rattle.mds_commit.specs.Shown.{HasRow, ShowsNearest}
use Rattle.mds_commit.proofs.DetailCells.{row_cells}
use Rattle.mds_commit.proofs.DetailTexts.{day_falls, nearest_query, select_nearest, select_nearest_is, select_nearest_plain, upto_tests}
use Rattle.mds_commit.proofs.Numbers.{at_most_is, from_le, not_less, to_le}

-- ---- which rows pass

all_three : (a b c : Bool) → a ≡ true → b ≡ true → c ≡ true → (a && (b && (c && true))) ≡ true
all_three a b c p q r = λ i. p i && (q i && (r i && true))

module _ (s : Stream) (day : ℕ) (row : Row) where
  -- it is of the stream, and of a day up to this one, which may be below 0
  abbrev IsUpto : Type 0
  IsUpto = Begins (stream_cells s) row × (is_le (int_cmp (int_at row 3) (pos day)) ≡ true)

  abbrev Passes : Type 0
  Passes = list_all (holds (day_cells s day ∷ row ∷ [])) upto_tests ≡ true

  module _ (it : HasKeyCells row) where
    chosen : Passes → IsUpto
    chosen h =
        let one = both _ _ h in
        let two = both _ _ one.1 in
        let three = both _ _ two.1 in
        let nmi : column row 1 ≡ Text s.nmi = equal_cells (Text s.nmi) (column row 1) it.nmi one.0 in
        let suffix : column row 2 ≡ Text s.suffix = equal_cells (Text s.suffix) (column row 2) it.suffix two.0 in (
          begins_by (stream_cells s) row (nmi, (λ e. cc), (suffix, (λ e. cc), tt)),
          sym (at_most_is (int_at row 3) (pos day))
              ∙ subst (λ v. is_true (binary (Compare Le Binary) v (Int (pos day))) ≡ true) it.number three.0,
        )

    passing : IsUpto → Passes
    passing upto =
        let at = begins_at (stream_cells s) row upto.0 in
        let to : is_true (binary (Compare Le Binary) (column row 3) (Int (pos day))) ≡ true =
        ap (λ v. is_true (binary (Compare Le Binary) v (Int (pos day)))) it.number ∙ at_most_is (int_at row 3) (pos day) ∙ upto.1 in
        all_three _ _ _ (cells_equal (Text s.nmi) (column row 1) it.nmi (at 0 (omega arith)))
        (cells_equal (Text s.suffix) (column row 2) it.suffix (at 1 (omega arith))) to

-- ---- the first of them

-- none of a sorted list is less than the first
first_least : (o : Output) (os : List Output) → IsSorted (output_cmp nearest_query) (o ∷ os) → (x : Output)
    → Member x (o ∷ os) → is_lt (output_cmp nearest_query x o) ≡ false
first_least o os up x m =
    let at = place_of (o ∷ os) x o m in
    subst (λ y. is_lt (output_cmp nearest_query y o) ≡ false) at.2
    (sorted_far _ (ranks_by (output_cmp_total nearest_query) (λ (y : Output). y)) (o ∷ os) up 0 at.0 o (omega arith) at.1)

by_column : (x o : Output) (a b : Row) → x.0 ≡ a → o.0 ≡ b → is_lt (output_cmp nearest_query x o) ≡ false
    → is_lt (by_key falling (column a 0) (column b 0)) ≡ false
by_column x o a b p q least =
    ap is_lt (sym (then-Equal (by_key falling (column a 0) (column b 0))))
    ∙ (λ i. is_lt (ordering_then (by_key falling (column (sym p i) 0) (column (sym q i) 0)) Equal)) ∙ least

module _ (s : Stream) (day : ℕ) (db : Trees) (sound : IsSound current_schema db) where
  abbrev PicksDays : List Row → Type 0
  PicksDays = Picks daydetail_tree upto_tests (columns_at (3 ∷ [])) day_falls db (day_cells s day)

  -- what is shown is what is sorted by
  keyed : (all : List Row) (p : PicksDays all) (o : Output) → Member o p.ordered → o.0 ≡ o.1
  keyed all p o m =
      let show = shows daydetail_tree upto_tests (columns_at (3 ∷ [])) day_falls db (day_cells s day) in
      let pass = passes daydetail_tree upto_tests (columns_at (3 ∷ [])) day_falls db (day_cells s day) in
      let r = in_map show (filter pass (db daydetail_tree)) o (moved _ p.ordered p.same o m) in
      ap (λ (x : Output). x.0) r.2 ∙ sym (ap second r.2)

  selected : (all : List Row) → PicksDays all → (x : Row)
      → Member x all ↔ ((row : Row) × Member row (db daydetail_tree) × IsUpto s day row × (x ≡ column row 3 ∷ []))
  selected all p =
      selects_by daydetail_tree upto_tests (3 ∷ []) day_falls db (day_cells s day) (IsUpto s day)
      (λ row m. chosen s day row (row_cells db sound row m).keyed) (λ row m. passing s day row (row_cells db sound row m).keyed)
      all p

  -- a day that has a row is among those shown
  shown_of : (all : List Row) → PicksDays all → (of : ℕ) → of ≤ day → HasRow db (day_cells s of) → Member (number_cell of ∷ []) all
  shown_of all p of to has =
      let row = has.0 in
      let at = begins_at (day_cells s of) row has.2 in
      let nmi : column row 1 ≡ Text s.nmi = at 0 (omega arith) in
      let suffix : column row 2 ≡ Text s.suffix = at 1 (omega arith) in
      let cell : column row 3 ≡ number_cell of = at 2 (omega arith) in
      let begins = begins_by (stream_cells s) row (nmi, (λ e. cc), (suffix, (λ e. cc), tt)) in
      let upto = subst (λ z. is_le (int_cmp z (pos day)) ≡ true) (sym (ap id_in cell)) (to_le of day to) in
      (selected all p (number_cell of ∷ [])).1 (row, has.1, (begins, upto), ap (λ v. v ∷ []) (sym cell))

  of_all : (all rows : List Row) (p : PicksDays all) → rows ≡ take 1 all → (os : List Output) → p.ordered ≡ os
      → ShowsNearest s day db rows
  of_all all rows p first [] none =
      let bare : all ≡ [] = p.shown ∙ ap (map second) none in
      subst (ShowsNearest s day db) (sym (first ∙ ap (take 1) bare))
      (λ of to has. subst (Member (number_cell of ∷ [])) bare (shown_of all p of to has))
  of_all all rows p first (o ∷ os) is =
      let shown : all ≡ map second (o ∷ os) = p.shown ∙ ap (map second) is in
      let up : IsSorted (output_cmp nearest_query) (o ∷ os) = subst (IsSorted (output_cmp nearest_query)) is p.sorted in
      let here : Member o p.ordered = subst (Member o) (sym is) (inl refl) in
      subst (ShowsNearest s day db) (sym (first ∙ ap (take 1) shown)) (λ of says.
      let r = (selected all p (second o)).0 (subst (Member (second o)) (sym shown) (inl refl)) in
      let cell : column r.0 3 ≡ number_cell of = sym (ap (λ x. column x 0) r.3) ∙ says in
      let at = begins_at (stream_cells s) r.0 r.2.0 in
      let nmi : column r.0 1 ≡ Text s.nmi = at 0 (omega arith) in
      let suffix : column r.0 2 ≡ Text s.suffix = at 1 (omega arith) in (
        from_le of day (subst (λ z. is_le (int_cmp z (pos day)) ≡ true) (ap id_in cell) r.2.1),
        (r.0, r.1, begins_by (day_cells s of) r.0 (nmi, (λ e. cc), (suffix, (λ e. cc), (cell, (λ e. cc), tt)))),
        (λ other to has.
            let x = number_cell other ∷ [] in
            let out = in_map second p.ordered x (subst (Member x) p.shown (shown_of all p other to has)) in
            let least = by_column out.0 o x (second o) (keyed all p out.0 out.1 ∙ sym out.2) (keyed all p o here)
            (first_least o os up out.0 (subst (Member out.0) is out.1)) in
            not_less of other (sym (ap is_lt (value_cmp-Int (pos of) (pos other))) ∙ (rw says at least))),
      ))

  says_nearest : (rows : List Row) → IsProgramAnswer [] nearest_query db (day_cells s day) rows → ShowsNearest s day db rows
  says_nearest rows answer =
      let p = picks_first daydetail_tree upto_tests (columns_at (3 ∷ [])) day_falls db (day_cells s day) rows refl answer in
      of_all p.0 rows p.1 p.2 p.1.ordered refl

pub finds_nearest : {V : Type 0} (s : Stream) (day : ℕ) (old new : State) (items : V → List Row) (r : Result V Error)
    → IfOk r (λ v. Shown select_nearest (day_cells s day) old new (items v))
    → IfOk r (λ v. FindsOf current_layout old new (λ trees. ShowsNearest s day trees (items v)))
finds_nearest s day old new items =
    finds_by current_layout select_nearest select_nearest_plain nearest_query _ select_nearest_is old new (day_cells s day) items
    (λ rows trees. ShowsNearest s day trees rows) (λ db sound rows answer. says_nearest s day db sound rows answer)
