-- The order of the details of a stream that are shown of mds_detail.
use Rattle.std.proofs.Common.{◌≡◌, pos, List, [], ◌∷◌, drop, Bool, All, codes, refl, sym, subst, ◌∙◌}
use Rattle.std.specs.List.{filter}
use Rattle.sqlite.specs.declared.types.Value.TheVariants.{Int, Text}
use Rattle.sqlite_value.specs.Order.{Row}
use Rattle.sqlite_value.proofs.OrderLemmas.{then-Equal, value_cmp-Int, value_cmp-Text}
use Rattle.sqlite_catalog.specs.Listing.{IsSound}
use Rattle.sqlite_schema.specs.declared.schema.Constraint.TheVariants.{Datatype, NotNull}
use Rattle.sqlite_trees.specs.Tree.{Trees}
use Rattle.sqlite_sql.specs.Term.{Term}
use Rattle.sqlite.specs.Query.{Output, output_cmp}
use Rattle.sqlite.specs.State.{Shown, State}
use Rattle.mds_names.specs.declared.stream.Stream.{Stream}
use Rattle.mds_terms.specs.Details.{details_cmp}
use Rattle.mds_world.proofs.Lists.{in_map}
use Rattle.mds_world.specs.Lists.{Member}
use Rattle.mds_tables.specs.Cells.{stream_cells}
use Rattle.mds_tables.specs.RowFacts.{int_at, text_at}
use Rattle.mds_tables.specs.Tables.{More, detail_table, detail_tree, schema_with}
use Rattle.mds_tables.proofs.KeyLemmas.{tests}
use Rattle.mds_tables.proofs.MemberLemmas.{all_of, filter_in, moved, selects}
use Rattle.mds_tables.proofs.QueryLemmas.{kept, stream_for}
use Rattle.mds_tables.proofs.SelectLemmas.{Picks, passes, shows}
use Rattle.mds_tables.proofs.SelectTexts.{columns_at}
use Rattle.mds_tables.proofs.TypedLemmas.{AreFor, AreTyped, alike, both}
use Rattle.mds_tables.proofs.TypedRows.{HasKeyCells}
use Rattle.mds_pack_rows.specs.PackTables.{packs_then}
use Rattle.mds_pack_rows.specs.Putting.{FindsThere}
use Rattle.mds_pack_rows.proofs.AskLemmas.{finds_picked}
use Rattle.mds_commit.specs.Shown.{AreLatestFirst, IsDetailRow}
use Rattle.mds_commit.proofs.DetailOrder.{IsKeyed, latest, moment_order, next_order, shown_cmp, two}
use Rattle.mds_migrate.specs.Dating.{ShowsDetailsOf, shown_columns}
use Rattle.mds_migrate.proofs.DatingTexts.{details_fall, details_query, select_details, select_details_is, select_details_plain}

-- ---- the types of the columns

-- values of the kinds of all columns
abbrev any_detail : Row
any_detail = Text [] ∷ Text [] ∷ Int (pos 0) ∷ Text [] ∷ Text [] ∷ Text [] ∷ Text [] ∷ Int (pos 0) ∷ []

any_for : AreFor detail_table.columns any_detail
any_for =
    ((codes "nmi", refl), ((codes "suffix", refl), ((codes "moment", refl), ((codes "configuration", refl), ((codes "register", refl), ((codes "datastream", refl), ((codes "meter", refl), ((codes "next", refl), tt))))))))

module _ (rest : More) (db : Trees) (sound : IsSound (schema_with (packs_then rest)) db) (row : Row) (m : Member row (db detail_tree)) where
  pub detail_typed : AreTyped detail_table.columns row
  detail_typed =
      let it = kept (packs_then rest) db sound row detail_table (db detail_tree) (sound.obeys.rules Datatype).1.1.1.0
      (sound.obeys.rules NotNull).1.1.1.0 m in
      record { typed = (both _ _ it.0).0; present = it.1 }

  -- a row begins with a stream
  pub detail_keyed : HasKeyCells row
  detail_keyed =
      let it = alike detail_table.columns any_detail row any_for detail_typed in
      record { nmi = it.0; suffix = it.1.0; number = it.1.1.0 }

-- ---- SQL's order of the columns

same_order : (a b : Output) → IsKeyed a → IsKeyed b → IsDetailRow a.1 → IsDetailRow b.1
    → output_cmp details_query a b ≡ shown_cmp b.1 a.1
unfolding details_cmp
same_order a b p q of og =
    rw (p.keys, q.keys) (two _ _ _ _ (value_cmp-Int (int_at b.1 0) (int_at a.1 0) ∙ moment_order (int_at b.1 0) (int_at a.1 0) og.0 of.0)
    (two _ _ _ _ (value_cmp-Text (text_at b.1 1) (text_at a.1 1))
    (two _ _ _ _ (value_cmp-Text (text_at b.1 2) (text_at a.1 2))
    (two _ _ _ _ (value_cmp-Text (text_at b.1 3) (text_at a.1 3))
    (two _ _ _ _ (value_cmp-Text (text_at b.1 4) (text_at a.1 4))
    (then-Equal _ ∙ value_cmp-Int (int_at b.1 5) (int_at a.1 5) ∙ next_order (int_at b.1 5) (int_at a.1 5) og.1 of.1))))))

-- ---- the query

module _ (s : Stream) (rest : More) (db : Trees) (sound : IsSound (schema_with (packs_then rest)) db) where
  abbrev key_tests : List Term
  key_tests = tests 0 (stream_cells s)

  abbrev show : Row → Output
  show = shows detail_tree key_tests (columns_at shown_columns) details_fall db (stream_cells s)

  abbrev pass : Row → Bool
  pass = passes detail_tree key_tests (columns_at shown_columns) details_fall db (stream_cells s)

  abbrev PicksDetails : List Row → Type 0
  PicksDetails = Picks detail_tree key_tests (columns_at shown_columns) details_fall db (stream_cells s)

  shown_keyed : (row : Row) → Member row (db detail_tree) → IsKeyed (show row)
  shown_keyed row m =
      let it = alike detail_table.columns any_detail row any_for (detail_typed rest db sound row m) in
      let more = it.1.1.1.1 in
      record { keys = λ i. it.1.1.0 i ∷ it.1.1.1.0 i ∷ more.0 i ∷ more.1.0 i ∷ more.1.1.0 i ∷ more.1.1.1.0 i ∷ [] }

  says_latest : (rows : List Row) → PicksDetails rows → All (λ row. IsDetailRow row) rows → AreLatestFirst rows
  says_latest rows p of =
      let each = all_of IsKeyed p.ordered (λ o m.
      let r = in_map show (filter pass (db detail_tree)) o (moved _ p.ordered p.same o m) in
      subst IsKeyed (sym r.2) (shown_keyed r.0 (filter_in pass (db detail_tree) r.0 r.1).0)) in
      let sound_rows = subst (All (λ row. IsDetailRow row)) p.shown of in
      subst AreLatestFirst (sym p.shown) (latest (output_cmp details_query) same_order p.ordered each p.sorted sound_rows)

  says_details : (rows : List Row) → PicksDetails rows → ShowsDetailsOf s db rows
  says_details rows p = (
    selects detail_tree shown_columns details_fall db (stream_cells s) detail_table.columns (stream_for s (drop 2 detail_table.columns))
        (detail_typed rest db sound) rows p,
    says_latest rows p,
  )

pub finds_details : (s : Stream) (old new : State) (rows : List Row) → Shown select_details (stream_cells s) old new rows
    → FindsThere old new (λ trees. ShowsDetailsOf s trees rows)
finds_details s =
    finds_picked select_details detail_tree (tests 0 (stream_cells s)) (columns_at shown_columns) details_fall _ select_details_plain
    select_details_is (λ db. refl) (stream_cells s) (λ rows trees. ShowsDetailsOf s trees rows)
    (λ rest db sound rows p. says_details s rest db sound rows p)
