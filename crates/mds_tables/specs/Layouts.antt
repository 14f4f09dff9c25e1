-- How a store is laid out (profile): the tables that every schema has, and then more. A layout says how all of them say
-- heads, versions and details of days. Only this record holds what a layout leaves open. So what is said and proved of any
-- layout holds of each.
use Rattle.std.specs.Prelude.{◌≡◌, ◌==◌, ◌≤◌, ℕ, List, [], ◌∷◌, Bool, true, false, cond, length, map}
use Rattle.std.proofs.Common.{inl, inr, refl, sym, ap, subst}
use Rattle.std.specs.FinSet as set
use Rattle.std.specs.List.{AllByRecursion}
use Rattle.sqlite.specs.Table.{Table}
use Rattle.sqlite_rules.specs.Action.{works}
use Rattle.sqlite_schema.specs.declared.schema.Action.TheVariants.{NoAction}
use Rattle.sqlite_schema.specs.declared.schema.Index.{Index}
use Rattle.sqlite_schema.specs.declared.schema.Keys.TheVariants.{Enforced}
use Rattle.sqlite_trees.specs.Tree.{Trees}
use Rattle.sqlite_value.specs.Order.{Row}
use Rattle.mds_world.specs.Facts.{Fact}
use Rattle.mds_world.specs.Facts.Fact.{DetailIs, HeadIs, VersionIs}
use Rattle.mds_world.specs.Lists.{Member}
use Rattle.mds_world.specs.World.{World}
use Rattle.mds_tables.specs.RowFacts.{facts_with, head_fact, heads_in, version_fact, versions_in}
use Rattle.mds_tables.specs.Tables.{More, head_tree, no_more, schema_with, trees_taken, version_tree}

-- the fact is a head
abbrev pub IsHead : Fact → Type 0
IsHead (HeadIs head) = Unit {0}
IsHead _ = ⊥

-- the fact is a version, or details of a day
abbrev pub IsOwn : Fact → Type 0
IsOwn (VersionIs key reading) = Unit {0}
IsOwn (DetailIs detail) = Unit {0}
IsOwn _ = ⊥

pub record Layout : Type 0 where
  -- what mds_schema says
  pub number : ℕ
  -- the tables that follow those that every schema has
  pub more : More
  -- just the heads that the tables say
  pub heads : Trees → List Fact
  pub only_heads : (trees : Trees) (fact : Fact) → Member fact (heads trees) → IsHead fact
  -- none if mds_head and those tables have no row, and the same if they have the same rows
  pub no_heads : (trees : Trees) → trees head_tree ≡ [] → AllByRecursion (λ (table : Table). trees table.tree ≡ []) more.tables → heads trees ≡ []
  pub steady_heads : (old new : Trees) → new head_tree ≡ old head_tree
      → AllByRecursion (λ (table : Table). new table.tree ≡ old table.tree) more.tables → heads new ≡ heads old
  -- just the versions and the details of days that the tables say
  pub own : Trees → List Fact
  pub only : (trees : Trees) (fact : Fact) → Member fact (own trees) → IsOwn fact
  -- none if mds_version and those tables have no row, and the same if they have the same rows
  pub silent : (trees : Trees) → trees version_tree ≡ [] → AllByRecursion (λ (table : Table). trees table.tree ≡ []) more.tables → own trees ≡ []
  pub steady : (old new : Trees) → new version_tree ≡ old version_tree → AllByRecursion (λ (table : Table). new table.tree ≡ old table.tree) more.tables
      → own new ≡ own old
  -- no foreign key changes a row
  pub idle : (tree : ℕ) (olds news : List Row) → works (schema_with more) Enforced 0 tree olds news ≡ []
  -- the trees of those tables, and the tables of those indexes, come after all others
  pub behind : AllByRecursion (λ (table : Table). trees_taken ≤ table.tree) more.tables
  pub indexes_behind : AllByRecursion (λ (index : Index). trees_taken ≤ index.table) more.indexes

-- The World that the rows of the tables name.
abbrev pub world_with : Layout → Trees → World
world_with layout trees = set.from_list (facts_with layout.heads layout.own trees)

-- ---- the layout of schema 1: a row for each head and for each version, and no details of days

pub either : {X : Type 0} (b : Bool) (x : X) → cond b x x ≡ x
either true x = refl
either false x = refl

pub only_head_rows : (rows : List Row) (fact : Fact) → Member fact (map head_fact rows) → IsHead fact
only_head_rows [] fact m = absurd m
only_head_rows (row ∷ rows) fact (inl is) = subst IsHead (sym is) tt
only_head_rows (row ∷ rows) fact (inr m) = only_head_rows rows fact m

pub only_rows : (rows : List Row) (fact : Fact) → Member fact (map version_fact rows) → IsOwn fact
only_rows [] fact m = absurd m
only_rows (row ∷ rows) fact (inl is) = subst IsOwn (sym is) tt
only_rows (row ∷ rows) fact (inr m) = only_rows rows fact m

pub idle_rows : (tree : ℕ) (olds news : List Row) → works (schema_with no_more) Enforced 0 tree olds news ≡ []
idle_rows tree olds news = rw (either (length news == 0) NoAction)

abbrev pub rows_layout : Layout
rows_layout = record {
  number = 1;
  more = no_more;
  heads = heads_in;
  only_heads = λ trees. only_head_rows (trees head_tree);
  no_heads = λ trees none _. ap (map head_fact) none;
  steady_heads = λ old new same _. ap (map head_fact) same;
  own = versions_in;
  only = λ trees. only_rows (trees version_tree);
  silent = λ trees none _. ap (map version_fact) none;
  steady = λ old new same _. ap (map version_fact) same;
  idle = idle_rows;
  behind = tt;
  indexes_behind = tt;
}
