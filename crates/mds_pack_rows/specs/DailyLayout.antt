-- The layout of schema 3 (profile): mds_head says the heads, without an update. mds_pack says all versions, and mds_daydetail all
-- details of days. A migration reads it.
use Rattle.std.specs.Prelude.{◌≡◌, ◌↔◌, ◌==◌, ℕ, List, [], ◌∷◌, ◌++◌, length, map}
use Rattle.std.proofs.Common.{inl, inr, sym, ap, subst, arith}
use Rattle.std.specs.List.{flat_map}
use Rattle.sqlite_rules.specs.Action.{works}
use Rattle.sqlite_schema.specs.declared.schema.Action.TheVariants.{NoAction}
use Rattle.sqlite_schema.specs.declared.schema.Keys.TheVariants.{Enforced}
use Rattle.sqlite_trees.specs.Tree.{Trees}
use Rattle.sqlite_value.specs.Order.{Row}
use Rattle.mds_marks.specs.Reading.{ReadingValue}
use Rattle.mds_world.specs.Facts.{Fact}
use Rattle.mds_world.specs.Facts.Fact.{VersionIs}
use Rattle.mds_world.specs.Lists.{Member}
use Rattle.mds_world.specs.World.{World}
use Rattle.mds_world.specs.declared.facts.Key.{Key}
use Rattle.mds_world.proofs.Lists.{append_left, member_append}
use Rattle.mds_tables.specs.Layouts.{IsOwn, Layout, either, only_head_rows, world_with}
use Rattle.mds_tables.specs.RowFacts.{detail_fact, head_fact, heads_in}
use Rattle.mds_tables.specs.Tables.{daydetail_tree, head_tree}
use Rattle.mds_pack_rows.specs.PackFacts.{pack_facts, pack_versions}
use Rattle.mds_pack_rows.specs.PackTables.{Behind, pack_tree}
use Rattle.mds_pack_rows.specs.PacksLayout.{only_both, only_packs}
use Rattle.mds_pack_rows.specs.DailyTables.{daily, daydetails, schema_3}

-- the details that the rows of mds_daydetail name
abbrev pub day_details : Trees → List Fact
day_details trees = map detail_fact (trees daydetail_tree)

-- the versions, and then the details of days
abbrev pub daily_own : Trees → List Fact
daily_own trees = pack_versions trees ++ day_details trees

-- ---- mds_daydetail says only details

pub only_details : (rows : List Row) (fact : Fact) → Member fact (map detail_fact rows) → IsOwn fact
only_details [] fact m = absurd m
only_details (row ∷ rows) fact (inl is) = subst IsOwn (sym is) tt
only_details (row ∷ rows) fact (inr m) = only_details rows fact m

-- only versions and details
pub only_daily : (trees : Trees) (fact : Fact) → Member fact (daily_own trees) → IsOwn fact
only_daily trees fact =
    only_both (pack_versions trees) (day_details trees) fact
    (only_packs (trees pack_tree) fact) (only_details (trees daydetail_tree) fact)

-- no version is said by mds_daydetail
pub no_version : (rows : List Row) (key : Key) (reading : ReadingValue) → Member (VersionIs key reading) (map detail_fact rows) → ⊥
no_version [] key reading m = m
no_version (row ∷ rows) key reading (inl is) = cc
no_version (row ∷ rows) key reading (inr m) = no_version rows key reading m

-- the versions that are said are those of mds_pack
pub versions_packed : (trees : Trees) (key : Key) (reading : ReadingValue)
    → Member (VersionIs key reading) (daily_own trees) ↔ Member (VersionIs key reading) (pack_versions trees)
versions_packed trees key reading = (
  λ m. elim (member_append (VersionIs key reading) (pack_versions trees) (day_details trees) m) [
    | inl packed ↦ packed
    | inr dated ↦ absurd (no_version (trees daydetail_tree) key reading dated)
  ],
  append_left (VersionIs key reading) (pack_versions trees) (day_details trees),
)

-- ---- the layout

pub idle_daily : (tree : ℕ) (olds news : List Row) → works schema_3 Enforced 0 tree olds news ≡ []
idle_daily tree olds news = rw (either (length news == 0) NoAction)

-- mds_daydetail follows mds_pack
abbrev pub daydetails_behind : Behind
daydetails_behind = record { more = daydetails; idle = idle_daily; behind = (omega arith, tt); indexes_behind = (omega arith, tt) }

abbrev pub daily_layout : Layout
daily_layout = record {
  number = 3;
  more = daily;
  heads = heads_in;
  only_heads = λ trees. only_head_rows (trees head_tree);
  no_heads = λ trees none _. ap (map head_fact) none;
  steady_heads = λ old new same _. ap (map head_fact) same;
  own = daily_own;
  only = only_daily;
  silent = λ trees _ none i. flat_map pack_facts (none.0 i) ++ map detail_fact (none.1.0 i);
  steady = λ old new _ same i. flat_map pack_facts (same.0 i) ++ map detail_fact (same.1.0 i);
  idle = idle_daily;
  behind = (omega arith, (omega arith, tt));
  indexes_behind = (omega arith, (omega arith, tt));
}

-- The World that the rows of the tables name.
abbrev pub world_3 : Trees → World
world_3 = world_with daily_layout
