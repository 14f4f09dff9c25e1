-- What is shown of the details of a day, and its order.
use Rattle.std.proofs.Common.{◌≡◌, ◌<◌, ◌+◌, ◌^◌, ℕ, ℤ, zero, suc, pos, negsuc, List, [], ◌∷◌, length, map, get_or, Bool, true, false, All, IfSome, IfOk, Result, refl, sym, ap, subst, ◌∙◌, arith}
use Rattle.std.specs.declared.cmp.Ordering.{Ordering}
use Rattle.std.specs.declared.cmp.Ordering.TheVariants.{Less, Equal, Greater}
use Rattle.std.specs.Cmp.{IsStrictWeakOrder, IsTotalOrder, nat_cmp_total, on_total, then_total}
use Rattle.std.specs.List.{AllByRecursion, filter}
use Rattle.std.specs.List.Sorted.{IsSorted, IsSortedBy}
use Rattle.std.specs.Option.{option_cmp}
use Rattle.std.specs.Ordering.{int_cmp, is_le, is_lt, nat_cmp, on, ordering_reverse, ordering_then, then_cmp}
use Rattle.std.proofs.lemmas.List.{get_or-map, length-map}
use Rattle.std.proofs.lemmas.List.Sorted.{IsStrictWeakOrder-flip, ranks_by, sorted_far}
use Rattle.sqlite.specs.declared.types.Value.TheVariants.{Int, Text}
use Rattle.sqlite_value.specs.Order.{Row}
use Rattle.sqlite_value.proofs.OrderLemmas.{then-Equal, value_cmp-Int, value_cmp-Text}
use Rattle.sqlite_catalog.specs.Listing.{IsSound}
use Rattle.sqlite_trees.specs.Tree.{Trees}
use Rattle.sqlite_sql.specs.Term.{Term}
use Rattle.sqlite.specs.Query.{Output, output_cmp}
use Rattle.sqlite.specs.State.{Shown, State}
use Rattle.sqlite.specs.declared.error.Error.{Error}
use Rattle.mds_names.specs.declared.stream.Stream.{Stream}
use Rattle.mds_terms.specs.Details.{details_cmp}
use Rattle.mds_terms.specs.TermOrder.{details_total}
use Rattle.mds_world.proofs.Lists.{in_map}
use Rattle.mds_world.specs.Lists.{Member}
use Rattle.mds_tables.specs.Cells.{day_cells}
use Rattle.mds_tables.specs.RowFacts.{int_at, natural, natural_at, optional, text_at}
use Rattle.mds_tables.specs.Stores.{FindsOf}
use Rattle.mds_tables.specs.Tables.{daydetail_tree}
use Rattle.mds_tables.proofs.KeyLemmas.{counted, tests}
use Rattle.mds_tables.proofs.MemberLemmas.{all_of, filter_in, moved, second, selects}
use Rattle.mds_tables.proofs.QueryLemmas.{finds}
use Rattle.mds_tables.proofs.SelectLemmas.{Picks, passes, shows}
use Rattle.mds_tables.proofs.SelectTexts.{columns_at}
use Rattle.mds_pack_rows.specs.Current.{current_layout, current_schema}
use Rattle.mds_pack_rows.specs.DailyTables.{daydetail_table}
use Rattle.mds_commit.specs.Shown.{AreLatestFirst, IsDetailRow, ShowsDetails, details_columns, shown_details}
use Rattle.mds_commit.proofs.DetailCells.{day_for, row_cells, row_typed}
use Rattle.mds_commit.proofs.DetailTexts.{details_fall, details_query, select_details, select_details_is, select_details_plain}

-- ---- SQL's order of the columns

no_less : (most n : ℕ) → most + n < most → ⊥
no_less most n h = omega arith

pub moment_order : (m n : ℤ) → natural m < 2 ^ 63 → natural n < 2 ^ 63 → int_cmp m n ≡ nat_cmp (natural m) (natural n)
moment_order (pos a) (pos b) p q = counted a b
moment_order (pos a) (negsuc b) p q = absurd (no_less (2 ^ 63) b q)
moment_order (negsuc a) n p q = absurd (no_less (2 ^ 63) a p)

-- -1, which stands for none, is below all days
pub next_order : (m n : ℤ) → IfSome (optional m) (λ day. day < 2 ^ 63) → IfSome (optional n) (λ day. day < 2 ^ 63)
    → int_cmp m n ≡ option_cmp nat_cmp (optional m) (optional n)
next_order (pos a) (pos b) p q = counted a b
next_order (pos a) (negsuc zero) p q = refl
next_order (pos a) (negsuc (suc b)) p q = absurd (no_less (2 ^ 63) b q)
next_order (negsuc zero) (pos b) p q = refl
next_order (negsuc zero) (negsuc zero) p q = refl
next_order (negsuc zero) (negsuc (suc b)) p q = absurd (no_less (2 ^ 63) b q)
next_order (negsuc (suc a)) n p q = absurd (no_less (2 ^ 63) a p)

-- the order of rows that are shown, the greatest last
abbrev pub shown_cmp : Row → Row → Ordering
shown_cmp = then_cmp (on (λ row. natural_at row 0) nat_cmp) (on shown_details details_cmp)

pub shown_total : IsTotalOrder shown_cmp
shown_total = then_total (on_total (λ row. natural_at row 0) nat_cmp_total) (on_total shown_details details_total)

-- ---- an output, and what it is sorted by

pub record IsKeyed (o : Output) : Type 0 where
  pub keys : o.0 ≡ Int (int_at o.1 0) ∷ Text (text_at o.1 1) ∷ Text (text_at o.1 2) ∷ Text (text_at o.1 3)
      ∷ Text (text_at o.1 4) ∷ Int (int_at o.1 5) ∷ []

pub two : (x xx y yy : Ordering) → x ≡ xx → y ≡ yy → ordering_then x y ≡ ordering_then xx yy
two x xx y yy p q = ap (λ o. ordering_then o y) p ∙ ap (ordering_then xx) q

same_order : (a b : Output) → IsKeyed a → IsKeyed b → IsDetailRow a.1 → IsDetailRow b.1
    → output_cmp details_query a b ≡ shown_cmp b.1 a.1
unfolding details_cmp
same_order a b p q of og =
    rw (p.keys, q.keys) (two _ _ _ _ (value_cmp-Int (int_at b.1 0) (int_at a.1 0) ∙ moment_order (int_at b.1 0) (int_at a.1 0) og.0 of.0)
    (two _ _ _ _ (value_cmp-Text (text_at b.1 1) (text_at a.1 1))
    (two _ _ _ _ (value_cmp-Text (text_at b.1 2) (text_at a.1 2))
    (two _ _ _ _ (value_cmp-Text (text_at b.1 3) (text_at a.1 3))
    (two _ _ _ _ (value_cmp-Text (text_at b.1 4) (text_at a.1 4))
    (then-Equal _ ∙ value_cmp-Int (int_at b.1 5) (int_at a.1 5) ∙ next_order (int_at b.1 5) (int_at a.1 5) og.1 of.1))))))

pub all_at : {X : Type 0} (P : X → Type 0) (xs : List X) (k : ℕ) (d : X) → AllByRecursion P xs → k < length xs
    → P (get_or xs k d)
all_at P [] k d all low = absurd (omega arith)
all_at P (x ∷ xs) zero d all low = all.0
all_at P (x ∷ xs) (suc k) d all low = all_at P xs k d all.1 (omega arith)

pub turned : (r : Ordering) → is_lt r ≡ false → is_le (ordering_reverse r) ≡ true
turned Less h = absurd (cc)
turned Equal h = refl
turned Greater h = refl

-- an order of outputs that is the turned one of what they show
module _ (cmp : Output → Output → Ordering)
    (same : (a b : Output) → IsKeyed a → IsKeyed b → IsDetailRow a.1 → IsDetailRow b.1 → cmp a b ≡ shown_cmp b.1 a.1) where
  rises : (os : List Output) → AllByRecursion IsKeyed os → IsSorted cmp os
      → All (λ row. IsDetailRow row) (map second os) → IsSortedBy (λ x y. is_lt (shown_cmp y x)) (map second os)
  rises os keyed up of k d low high =
      let e : Output = ([], []) in
      let within : k + 1 < length os = omega (arith, length-map os second) in
      let before : k < length os = omega arith in
      let next : get_or (map second os) (k + 1) d ≡ second (get_or os (k + 1) e) =
      get_or-map second os (k + 1) e d within in
      let here : get_or (map second os) k d ≡ second (get_or os k e) = get_or-map second os k e d before in
      let inside : k < length (map second os) = omega arith in
      let of_next = subst IsDetailRow next (of (k + 1) d high) in
      let of_here = subst IsDetailRow here (of k d inside) in
      let as_shown = same (get_or os (k + 1) e) (get_or os k e) (all_at IsKeyed os (k + 1) e keyed within)
      (all_at IsKeyed os k e keyed before) of_next of_here in
      ap (λ x. is_lt (shown_cmp (get_or (map second os) k d) x)) next
      ∙ ap (λ x. is_lt (shown_cmp x (second (get_or os (k + 1) e)))) here ∙ ap is_lt (sym as_shown) ∙ up k e low within

  pub latest : (os : List Output) → AllByRecursion IsKeyed os → IsSorted cmp os
      → All (λ row. IsDetailRow row) (map second os) → AreLatestFirst (map second os)
  latest os keyed up of i j d low high =
      let order : IsStrictWeakOrder (λ x y. is_lt (shown_cmp x y)) = ranks_by shown_total (λ (row : Row). row) in
      let back = IsStrictWeakOrder-flip (λ x y. is_lt (shown_cmp x y)) order in
      let up_to = rises os keyed up of in
      let far = sorted_far (λ x y. is_lt (shown_cmp y x)) back (map second os) up_to i j d (omega arith) high in
      ap is_le (shown_total.antisymm (get_or (map second os) j d) (get_or (map second os) i d)) ∙ turned _ far

-- ---- the query

module _ (s : Stream) (day : ℕ) (db : Trees) (sound : IsSound current_schema db) where
  abbrev key_tests : List Term
  key_tests = tests 0 (day_cells s day)

  abbrev show : Row → Output
  show = shows daydetail_tree key_tests (columns_at details_columns) details_fall db (day_cells s day)

  abbrev pass : Row → Bool
  pass = passes daydetail_tree key_tests (columns_at details_columns) details_fall db (day_cells s day)

  abbrev PicksDetails : List Row → Type 0
  PicksDetails = Picks daydetail_tree key_tests (columns_at details_columns) details_fall db (day_cells s day)

  shown_keyed : (row : Row) → Member row (db daydetail_tree) → IsKeyed (show row)
  shown_keyed row m =
      let it = row_cells db sound row m in
      record { keys = λ i. it.moment i ∷ it.configuration i ∷ it.register i ∷ it.datastream i ∷ it.meter i ∷ it.next i ∷ [] }

  says_latest : (rows : List Row) → PicksDetails rows → All (λ row. IsDetailRow row) rows → AreLatestFirst rows
  says_latest rows p of =
      let each = all_of IsKeyed p.ordered (λ o m.
      let r = in_map show (filter pass (db daydetail_tree)) o (moved _ p.ordered p.same o m) in
      subst IsKeyed (sym r.2) (shown_keyed r.0 (filter_in pass (db daydetail_tree) r.0 r.1).0)) in
      let sound_rows = subst (All (λ row. IsDetailRow row)) p.shown of in
      subst AreLatestFirst (sym p.shown) (latest (output_cmp details_query) same_order p.ordered each p.sorted sound_rows)

  says_details : (rows : List Row) → PicksDetails rows → ShowsDetails s day db rows
  says_details rows p = (
    selects daydetail_tree details_columns details_fall db (day_cells s day) daydetail_table.columns (day_for s day)
        (row_typed db sound) rows p,
    says_latest rows p,
  )

pub finds_details : {V : Type 0} (s : Stream) (day : ℕ) (old new : State) (items : V → List Row) (r : Result V Error)
    → IfOk r (λ v. Shown select_details (day_cells s day) old new (items v))
    → IfOk r (λ v. FindsOf current_layout old new (λ trees. ShowsDetails s day trees (items v)))
finds_details s day old new items r h =
    finds current_layout select_details select_details_plain daydetail_tree (tests 0 (day_cells s day)) (columns_at details_columns)
    details_fall _ select_details_is (λ db. refl) old new (day_cells s day) items
    (λ rows trees. ShowsDetails s day trees rows) (λ db sound rows p. says_details s day db sound rows p) r h
