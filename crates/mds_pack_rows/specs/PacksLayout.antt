-- Layouts with mds_pack (profile): it follows the tables that every schema has, and says all versions. In schema 2 nothing follows
-- it.
use Rattle.std.specs.Prelude.{◌≡◌, ◌↔◌, ◌==◌, ◌≤◌, ℕ, ◌+◌, List, [], ◌∷◌, ◌++◌, length, map, Option, Some, None, unwrap_or}
use Rattle.std.proofs.Common.{inl, inr, sym, ap, subst, arith}
use Rattle.std.specs.List.{AllByRecursion, flat_map}
use Rattle.sqlite.specs.Table.{Table}
use Rattle.sqlite_rules.specs.Action.{works}
use Rattle.sqlite_schema.specs.declared.schema.Action.TheVariants.{NoAction}
use Rattle.sqlite_schema.specs.declared.schema.Index.{Index}
use Rattle.sqlite_schema.specs.declared.schema.Keys.TheVariants.{Enforced}
use Rattle.sqlite_trees.specs.Tree.{Trees}
use Rattle.sqlite_value.specs.Order.{Row}
use Rattle.mds_names.specs.declared.stream.Stream.{Stream}
use Rattle.mds_marks.specs.Reading.{ReadingValue}
use Rattle.mds_world.specs.Facts.{Fact}
use Rattle.mds_world.specs.Facts.Fact.{VersionIs}
use Rattle.mds_world.specs.Lists.{Member}
use Rattle.mds_world.specs.World.{World}
use Rattle.mds_world.specs.declared.facts.Key.{Key}
use Rattle.mds_tables.specs.Layouts.{IsOwn, Layout, either, only_head_rows, world_with}
use Rattle.mds_tables.specs.RowFacts.{head_fact, heads_in, natural_at, stream_in, text_at}
use Rattle.mds_tables.specs.Tables.{head_tree, no_more, trees_taken}
use Rattle.mds_pack_rows.specs.PackFacts.{facts_from, minutes_of, pack_facts, pack_versions, readings_in}
use Rattle.mds_pack_rows.specs.PackTables.{Behind, pack_tree, packs_then, schema_2, trees_packed}

-- ---- mds_pack says only versions

pub only_from : (s : Stream) (day minutes update interval : ℕ) (readings : List (Option ReadingValue)) (fact : Fact)
    → Member fact (facts_from s day minutes update interval readings) → IsOwn fact
only_from s day minutes update interval [] fact m = absurd m
only_from s day minutes update interval (None ∷ readings) fact m = only_from s day minutes update (interval + 1) readings fact m
only_from s day minutes update interval (Some r ∷ readings) fact (inl is) = subst IsOwn (sym is) tt
only_from s day minutes update interval (Some r ∷ readings) fact (inr m) = only_from s day minutes update (interval + 1) readings fact m

pub only_both : (xs ys : List Fact) (fact : Fact) → (Member fact xs → IsOwn fact) → (Member fact ys → IsOwn fact)
    → Member fact (xs ++ ys) → IsOwn fact
only_both [] ys fact one other m = other m
only_both (x ∷ xs) ys fact one other (inl is) = one (inl is)
only_both (x ∷ xs) ys fact one other (inr m) = only_both xs ys fact (λ n. one (inr n)) other m

pub only_packs : (rows : List Row) (fact : Fact) → Member fact (flat_map pack_facts rows) → IsOwn fact
only_packs [] fact m = absurd m
only_packs (row ∷ rows) fact m =
    let readings = unwrap_or (readings_in (text_at row 5)) [] in
    only_both (pack_facts row) (flat_map pack_facts rows) fact
    (only_from (stream_in row) (natural_at row 3) (minutes_of (length readings)) (natural_at row 4) 1 readings fact)
    (only_packs rows fact) m

-- ---- layouts with mds_pack

-- A layout has mds_pack after the tables that every schema has, and other tables after that. The versions that it says are those of
-- mds_pack.
pub record HasPacks (layout : Layout) : Type 0 where
  pub rest : Behind
  pub more : layout.more ≡ packs_then rest.more
  pub versions : (trees : Trees) (key : Key) (reading : ReadingValue)
      → Member (VersionIs key reading) (layout.own trees) ↔ Member (VersionIs key reading) (pack_versions trees)

-- trees after mds_pack come after those of the tables that every schema has
pub tables_behind : (tables : List Table) → AllByRecursion (λ (table : Table). trees_packed ≤ table.tree) tables
    → AllByRecursion (λ (table : Table). trees_taken ≤ table.tree) tables
tables_behind [] behind = tt
tables_behind (table ∷ tables) behind = (omega (arith, behind.0), tables_behind tables behind.1)

pub indexes_behind : (indexes : List Index) → AllByRecursion (λ (index : Index). trees_packed ≤ index.table) indexes
    → AllByRecursion (λ (index : Index). trees_taken ≤ index.table) indexes
indexes_behind [] behind = tt
indexes_behind (index ∷ indexes) behind = (omega (arith, behind.0), indexes_behind indexes behind.1)

-- The layout with these tables after mds_pack, in which mds_schema says this number. Its heads are rows of mds_head, and it says no
-- details of days.
abbrev pub packs_over : ℕ → Behind → Layout
packs_over number rest = record {
  number = number;
  more = packs_then rest.more;
  heads = heads_in;
  only_heads = λ trees. only_head_rows (trees head_tree);
  no_heads = λ trees none _. ap (map head_fact) none;
  steady_heads = λ old new same _. ap (map head_fact) same;
  own = pack_versions;
  only = λ trees. only_packs (trees pack_tree);
  silent = λ trees _ none. ap (flat_map pack_facts) none.0;
  steady = λ old new _ same. ap (flat_map pack_facts) same.0;
  idle = rest.idle;
  behind = (omega arith, tables_behind rest.more.tables rest.behind);
  indexes_behind = (omega arith, indexes_behind rest.more.indexes rest.indexes_behind);
}

-- ---- the layout of schema 2

pub idle_packs : (tree : ℕ) (olds news : List Row) → works schema_2 Enforced 0 tree olds news ≡ []
idle_packs tree olds news = rw (either (length news == 0) NoAction)

-- nothing follows mds_pack
abbrev pub nothing_behind : Behind
nothing_behind = record { more = no_more; idle = idle_packs; behind = tt; indexes_behind = tt }

abbrev pub packs_layout : Layout
packs_layout = packs_over 2 nothing_behind

-- The World that the rows of the tables name.
abbrev pub world_2 : Trees → World
world_2 = world_with packs_layout
