-- The first row of a query in the order of a column.
use Rattle.std.proofs.Common.{◌≡◌, inl, ℕ, List, [], ◌∷◌, map, take, false, Result, IfOk, refl, sym, ap, subst, ◌∙◌, arith}
use Rattle.std.proofs.lemmas.List.Sorted.{ranks_by, sorted_far}
use Rattle.std.specs.List.{filter}
use Rattle.std.specs.List.Sorted.{IsSorted}
use Rattle.std.specs.Ordering.{is_lt, ordering_then}
use Rattle.std.specs.declared.cmp.Ordering.TheVariants.{Equal}
use Rattle.sqlite_catalog.specs.Listing.{IsSound}
use Rattle.sqlite_schema.specs.declared.schema.Column.{Column}
use Rattle.sqlite_sql.proofs.QueryLemmas.{output_cmp_total}
use Rattle.sqlite_sql.specs.Term.{Term, col}
use Rattle.sqlite_trees.specs.Tree.{Trees}
use Rattle.sqlite_value.proofs.OrderLemmas.{then-Equal}
use Rattle.sqlite_value.specs.Keys.{by_key}
use Rattle.sqlite_value.specs.Order.{Row, column}
use Rattle.sqlite_value.specs.declared.keys.Key.{Key}
use Rattle.sqlite.proofs.Callers.{IsPlain, command_of}
use Rattle.sqlite.specs.Command.TheVariants.{Select}
use Rattle.sqlite.specs.Listing.{reads_listing, understood}
use Rattle.sqlite.specs.Program.{IsProgramAnswer, overlay}
use Rattle.sqlite.specs.Query.{Output, Query, output_cmp}
use Rattle.sqlite.specs.State.{Shown, State}
use Rattle.sqlite.specs.declared.error.Error.{Error}
use Rattle.mds_names.specs.declared.stream.Stream.{Stream}
use Rattle.mds_world.proofs.Lists.{in_map}
use Rattle.mds_world.specs.Lists.{Member}
use Rattle.mds_tables.specs.Cells.{stream_cells}
use Rattle.mds_tables.specs.Layouts.{Layout}
use Rattle.mds_tables.specs.Stores.{FindsOf, Selects}
use Rattle.mds_tables.specs.Tables.{schema_with}
use Rattle.mds_tables.specs.Shown.{SelectsFirst}
use Rattle.mds_tables.proofs.KeyLemmas.{tests}
use Rattle.mds_tables.proofs.MemberLemmas.{moved, place_of, second, selects}
use Rattle.mds_tables.proofs.QueryLemmas.{finds_by}
use Rattle.mds_tables.proofs.SelectLemmas.{Picks, passes, picks_first, shows}
use Rattle.mds_tables.proofs.SelectTexts.{columns_at, first_by}
use Rattle.mds_tables.proofs.TypedLemmas.{AreFor, AreTyped}

-- none of a sorted list is less than the first
first_least : (query : Query) (o : Output) (os : List Output) → IsSorted (output_cmp query) (o ∷ os) → (x : Output)
    → Member x (o ∷ os) → is_lt (output_cmp query x o) ≡ false
first_least query o os up x m =
    let at = place_of (o ∷ os) x o m in
    subst (λ y. is_lt (output_cmp query y o) ≡ false) at.2
    (sorted_far _ (ranks_by (output_cmp_total query) (λ (y : Output). y)) (o ∷ os) up 0 at.0 o (omega arith) at.1)

module _ (by : Key) (tree at : ℕ) (s : Stream) (db : Trees) where
  abbrev order : List (Term × Key)
  order = (col 1 at, by) ∷ []

  abbrev key : Row
  key = stream_cells s

  abbrev PicksDays : List Row → Type 0
  PicksDays = Picks tree (tests 0 key) (columns_at (at ∷ [])) order db key

  -- what is shown is what is sorted by
  keyed : (all : List Row) (p : PicksDays all) (o : Output) → Member o p.ordered → o.0 ≡ o.1
  keyed all p o m =
      let show = shows tree (tests 0 key) (columns_at (at ∷ [])) order db key in
      let r = in_map show (filter (passes tree (tests 0 key) (columns_at (at ∷ [])) order db key) (db tree)) o
      (moved _ p.ordered p.same o m) in
      ap (λ (x : Output). x.0) r.2 ∙ sym (ap second r.2)

  by_column : (x o : Output) (a b : Row) → x.0 ≡ a → o.0 ≡ b → is_lt (output_cmp (first_by by tree at) x o) ≡ false
      → is_lt (by_key by (column a 0) (column b 0)) ≡ false
  by_column x o a b p q least =
      ap is_lt (sym (then-Equal (by_key by (column a 0) (column b 0))))
      ∙ (λ i. is_lt (ordering_then (by_key by (column (sym p i) 0) (column (sym q i) 0)) Equal)) ∙ least

  of_all : (all rows : List Row) (p : PicksDays all) → rows ≡ take 1 all → Selects tree key (at ∷ []) db all
      → (os : List Output) → p.ordered ≡ os → SelectsFirst by tree key at db rows
  of_all all rows p first sel [] none =
      let bare : all ≡ [] = p.shown ∙ ap (map second) none in
      subst (SelectsFirst by tree key at db) (sym (first ∙ ap (take 1) bare))
      (λ row m b. subst (Member (column row at ∷ [])) bare ((sel (column row at ∷ [])).1 (row, m, b, refl)))
  of_all all rows p first sel (o ∷ os) is =
      let shown : all ≡ map second (o ∷ os) = p.shown ∙ ap (map second) is in
      let up : IsSorted (output_cmp (first_by by tree at)) (o ∷ os) =
      subst (IsSorted (output_cmp (first_by by tree at))) is p.sorted in
      let here : Member o p.ordered = subst (Member o) (sym is) (inl refl) in
      subst (SelectsFirst by tree key at db) (sym (first ∙ ap (take 1) shown)) (
        (sel (second o)).0 (subst (Member (second o)) (sym shown) (inl refl)),
        λ row m b.
            let x = column row at ∷ [] in
            let out = in_map second p.ordered x (subst (Member x) p.shown ((sel x).1 (row, m, b, refl))) in
            by_column out.0 o x (second o) (keyed all p out.0 out.1 ∙ sym out.2) (keyed all p o here)
            (first_least (first_by by tree at) o os up out.0 (subst (Member out.0) is out.1)),
      )

  pub says_first : (cs : List Column) → AreFor cs key → ((row : Row) → Member row (db tree) → AreTyped cs row)
      → overlay db [] tree ≡ db tree → (rows : List Row) → IsProgramAnswer [] (first_by by tree at) db key rows
      → SelectsFirst by tree key at db rows
  says_first cs of typed low rows answer =
      let p = picks_first tree (tests 0 key) (columns_at (at ∷ [])) order db key rows low answer in
      of_all p.0 rows p.1 p.2 (selects tree (at ∷ []) order db key cs of typed p.0 p.1) p.1.ordered refl

-- the first row of a table with a stream
pub finds_first : (layout : Layout) (sql : List ℕ)
    → IsPlain (understood (schema_with layout.more) sql) × (reads_listing (schema_with layout.more) sql ≡ false)
    → (by : Key) (tree at : ℕ) (names : List (List ℕ))
    → command_of (understood (schema_with layout.more) sql) ≡ Select (record { lets = []; body = first_by by tree at }) names
    → ((db : Trees) → overlay db [] tree ≡ db tree) → (s : Stream) (cs : List Column) → AreFor cs (stream_cells s)
    → ((db : Trees) → IsSound (schema_with layout.more) db → (row : Row) → Member row (db tree) → AreTyped cs row)
    → {V : Type 0} (old new : State) (items : V → List Row) (r : Result V Error)
    → IfOk r (λ v. Shown sql (stream_cells s) old new (items v))
    → IfOk r (λ v. FindsOf layout old new (λ trees. SelectsFirst by tree (stream_cells s) at trees (items v)))
finds_first layout sql plain by tree at names is low s cs of typed old new items =
    finds_by layout sql plain (first_by by tree at) names is old new (stream_cells s) items
    (λ rows trees. SelectsFirst by tree (stream_cells s) at trees rows)
    (λ db sound rows answer. says_first by tree at s db cs of (typed db sound) (low db) rows answer)
