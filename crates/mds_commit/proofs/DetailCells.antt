-- The rows of mds_daydetail: the types of their columns, and the facts that they name.
use Rattle.std.proofs.Common.{◌≡◌, ◌↔◌, inl, inr, ℕ, ◌+◌, List, [], ◌∷◌, Option, Some, None, codes, length, refl, sym, subst, map, unwrap_or}
use Rattle.sqlite.specs.declared.types.Value.TheVariants.{Int, Text}
use Rattle.sqlite_catalog.specs.Listing.{IsSound}
use Rattle.sqlite_schema.specs.declared.schema.Constraint.TheVariants.{Datatype, NotNull}
use Rattle.sqlite_trees.specs.Tree.{Trees}
use Rattle.sqlite_value.specs.Order.{Row, column}
use Rattle.mds_names.specs.declared.stream.Stream.{Stream}
use Rattle.mds_marks.specs.Reading.{ReadingValue}
use Rattle.mds_world.specs.Facts.{detail_at}
use Rattle.mds_world.specs.Facts.Fact.{DetailIs}
use Rattle.mds_world.specs.Lists.{Member}
use Rattle.mds_world.specs.Sets.{◌∈◌}
use Rattle.mds_world.specs.declared.facts.Detail.{Detail}
use Rattle.mds_world.proofs.Lists.{append_right, in_flat, in_map, map_in, member_append}
use Rattle.mds_tables.specs.Cells.{day_cells, detail_cells}
use Rattle.mds_tables.specs.Layouts.{Layout, world_with}
use Rattle.mds_tables.specs.RowFacts.{detail_fact, details_from, int_at, natural_at, stream_in, text_at}
use Rattle.mds_tables.specs.Tables.{daydetail_tree}
use Rattle.mds_tables.proofs.Named.{Names, of_detail}
use Rattle.mds_tables.proofs.QueryLemmas.{kept}
use Rattle.mds_tables.proofs.TypedLemmas.{AreFor, AreTyped, alike, both}
use Rattle.mds_tables.proofs.TypedRows.{HasKeyCells}
use Rattle.mds_pack_rows.specs.Current.{current_more, current_schema}
use Rattle.mds_pack_rows.specs.DailyLayout.{daily_layout, daily_own, day_details, world_3}
use Rattle.mds_pack_rows.specs.DailyTables.{daydetail_table}
use Rattle.mds_pack_rows.specs.PackFacts.{facts_from, minutes_of, pack_facts, pack_versions, readings_in}
use Rattle.mds_pack_rows.specs.PackTables.{pack_tree}

-- ---- the types of the columns

pub row_typed : (db : Trees) → IsSound current_schema db → (row : Row) → Member row (db daydetail_tree) → AreTyped daydetail_table.columns row
row_typed db sound row m =
    let fits = (sound.obeys.rules Datatype).1.1.1.1.1.1.1.1.1.0 in
    let it = kept current_more db sound row daydetail_table (db daydetail_tree) fits (sound.obeys.rules NotNull).1.1.1.1.1.1.1.1.1.0 m in
    record { typed = (both _ _ it.0).0; present = it.1 }

pub day_for : (s : Stream) (day : ℕ) → AreFor daydetail_table.columns (day_cells s day)
day_for s day = ((codes "nmi", refl), ((codes "suffix", refl), ((codes "day", refl), tt)))

-- a row has a value of its type in each column
pub record HasCells (r : Row) : Type 0 where
  pub keyed : HasKeyCells r
  pub moment : column r 4 ≡ Int (int_at r 4)
  pub configuration : column r 5 ≡ Text (text_at r 5)
  pub register : column r 6 ≡ Text (text_at r 6)
  pub datastream : column r 7 ≡ Text (text_at r 7)
  pub meter : column r 8 ≡ Text (text_at r 8)
  pub next : column r 9 ≡ Int (int_at r 9)

-- details whose cells have the kinds of all columns
abbrev any_detail : Detail
any_detail = detail_at (record { nmi = []; suffix = [] }) 0 0 (details_from [] 0)

any_for : AreFor daydetail_table.columns (detail_cells any_detail)
any_for =
    ((codes "nmi", refl), ((codes "suffix", refl), ((codes "day", refl), ((codes "moment", refl), ((codes "configuration", refl), ((codes "register", refl), ((codes "datastream", refl), ((codes "meter", refl), ((codes "next", refl), tt)))))))))

pub row_cells : (db : Trees) → IsSound current_schema db → (row : Row) → Member row (db daydetail_tree) → HasCells row
row_cells db sound row m =
    let it = alike daydetail_table.columns (detail_cells any_detail) row any_for (row_typed db sound row m) in
    let rest = it.1.1.1 in
    record {
      keyed = record { nmi = it.0; suffix = it.1.0; number = it.1.1.0 };
      moment = rest.0;
      configuration = rest.1.0;
      register = rest.1.1.0;
      datastream = rest.1.1.1.0;
      meter = rest.1.1.1.1.0;
      next = rest.1.1.1.1.1.0;
    }

-- ---- the facts

-- the details of a row
abbrev pub detail_in : Row → Detail
detail_in r = detail_at (stream_in r) (natural_at r 3) (natural_at r 4) (details_from r 5)

pub detail_is : (r : Row) (d : Detail) → detail_fact r ≡ DetailIs d → detail_in r ≡ d
detail_is r d e = cc

-- packed days say no details
none_from : (s : Stream) (day minutes update interval : ℕ) (readings : List (Option ReadingValue)) (d : Detail)
    → Member (DetailIs d) (facts_from s day minutes update interval readings) → ⊥
none_from s day minutes update interval [] d m = absurd m
none_from s day minutes update interval (None ∷ readings) d m = none_from s day minutes update (interval + 1) readings d m
none_from s day minutes update interval (Some r ∷ readings) d (inl e) = cc
none_from s day minutes update interval (Some r ∷ readings) d (inr m) = none_from s day minutes update (interval + 1) readings d m

none_in : (r : Row) (d : Detail) → Member (DetailIs d) (pack_facts r) → ⊥
none_in r d m =
    let readings = unwrap_or (readings_in (text_at r 5)) [] in
    none_from (stream_in r) (natural_at r 3) (minutes_of (length readings)) (natural_at r 4) 1 readings d m

-- a World has the details that rows name, where its layout says versions and details as schema 3 does
pub named_in : (layout : Layout) → layout.own ≡ daily_own → (trees : Trees) (d : Detail)
    → (DetailIs d ∈ world_with layout trees) ↔ Names detail_fact (trees daydetail_tree) (DetailIs d)
named_in layout of trees d = (
  (λ h. elim (member_append (DetailIs d) (pack_versions trees) (day_details trees)
      (subst (λ own. Member (DetailIs d) (own trees)) of ((of_detail layout trees d).0 h))) [
        | inl m ↦ let r = in_flat pack_facts (trees pack_tree) (DetailIs d) m in absurd (none_in r.0 d r.2)
        | inr m ↦ let r = in_map detail_fact (trees daydetail_tree) (DetailIs d) m in (r.0, r.1, sym r.2)
      ]),
  (λ n. (of_detail layout trees d).1 (subst (λ own. Member (DetailIs d) (own trees)) (sym of)
      (append_right (DetailIs d) (pack_versions trees) (day_details trees)
      (subst (λ f. Member f (map detail_fact (trees daydetail_tree))) n.2 (map_in detail_fact (trees daydetail_tree) n.0 n.1))))),
)

-- that of schema 3 does, which a migration makes
pub named : (trees : Trees) (d : Detail) → (DetailIs d ∈ world_3 trees) ↔ Names detail_fact (trees daydetail_tree) (DetailIs d)
named = named_in daily_layout refl
