-- Rows of mds_form by the types of their columns, and the heads that they say.
use Rattle.std.proofs.Common.{◌≡◌, ℕ, List, [], codes, refl, subst}
use Rattle.sqlite_catalog.specs.Listing.{IsSound}
use Rattle.sqlite_schema.specs.declared.schema.Constraint.TheVariants.{Datatype, NotNull}
use Rattle.sqlite_trees.specs.Tree.{Trees}
use Rattle.sqlite_value.specs.Order.{Row}
use Rattle.mds_names.specs.declared.stream.Stream.{Stream}
use Rattle.mds_world.specs.Facts.{head_at}
use Rattle.mds_world.specs.Facts.Fact.{HeadIs}
use Rattle.mds_world.specs.Lists.{Member}
use Rattle.mds_world.specs.Sets.{◌∈◌}
use Rattle.mds_world.specs.declared.facts.Head.{Head}
use Rattle.mds_world.proofs.Lists.{in_map, map_in}
use Rattle.mds_tables.specs.Cells.{day_cells}
use Rattle.mds_tables.specs.RowFacts.{natural_at, stream_in}
use Rattle.mds_tables.specs.Tables.{form_tree, head_tree}
use Rattle.mds_tables.proofs.Named.{of_head}
use Rattle.mds_tables.proofs.QueryLemmas.{kept}
use Rattle.mds_tables.proofs.TypedLemmas.{AreFor, AreTyped, alike, both}
use Rattle.mds_tables.proofs.TypedRows.{HasKeyCells}
use Rattle.mds_pack_rows.specs.Current.{current_layout, current_more, current_schema, current_world}
use Rattle.mds_pack_rows.specs.FormLayout.{form_fact, unit_in}
use Rattle.mds_pack_rows.specs.FormTables.{form_table}

-- ---- the types of the columns

pub form_typed : (db : Trees) → IsSound current_schema db → (row : Row) → Member row (db form_tree) → AreTyped form_table.columns row
form_typed db sound row m =
    let fits = (sound.obeys.rules Datatype).1.1.1.1.1.1.1.1.1.1.0 in
    let it = kept current_more db sound row form_table (db form_tree) fits (sound.obeys.rules NotNull).1.1.1.1.1.1.1.1.1.1.0 m in
    record { typed = (both _ _ it.0).0; present = it.1 }

pub form_for : (s : Stream) (day : ℕ) → AreFor form_table.columns (day_cells s day)
form_for s day = ((codes "nmi", refl), ((codes "suffix", refl), ((codes "day", refl), tt)))

-- a row begins with a stream and a day
pub form_row : (db : Trees) → IsSound current_schema db → (row : Row) → Member row (db form_tree) → HasKeyCells row
form_row db sound row m =
    let s : Stream = record { nmi = []; suffix = [] } in
    let it = alike form_table.columns (day_cells s 0) row (form_for s 0) (form_typed db sound row m) in
    record { nmi = it.0; suffix = it.1.0; number = it.1.1.0 }

-- ---- the heads that rows say

-- the head that a row of mds_form says, beside rows of mds_head
abbrev pub form_head : List Row → Row → Head
form_head heads row = head_at (stream_in row) (natural_at row 3) (natural_at row 4) (natural_at row 5) (unit_in heads row)

head_is : (heads : List Row) (row : Row) (head : Head) → HeadIs head ≡ form_fact heads row → form_head heads row ≡ head
head_is heads row head e = cc

module _ (trees : Trees) where
  abbrev head_of : Row → Head
  head_of row = form_head (trees head_tree) row

  -- a head of the World is one that a row says
  pub form_named : (head : Head) → HeadIs head ∈ current_world trees → (row : Row) × Member row (trees form_tree) × (head_of row ≡ head)
  form_named head h =
      let r = in_map (form_fact (trees head_tree)) (trees form_tree) (HeadIs head) ((of_head current_layout trees head).0 h) in
      (r.0, r.1, head_is (trees head_tree) r.0 head r.2)

  -- and the other way round
  pub named_form : (row : Row) → Member row (trees form_tree) → (head : Head) → head_of row ≡ head → HeadIs head ∈ current_world trees
  named_form row m head is =
      subst (λ h. HeadIs h ∈ current_world trees) is
      ((of_head current_layout trees (head_of row)).1 (map_in (form_fact (trees head_tree)) (trees form_tree) row m))
