-- The layout of schema 4 (profile). The heads are those of mds_form, each with the unit that mds_head says of its day. The
-- versions are all in mds_pack, and the details of days all in mds_daydetail.
use Rattle.std.specs.Prelude.{◌≡◌, ◌==◌, if◌then◌else◌, ℕ, List, [], ◌∷◌, ◌++◌, length, map}
use Rattle.std.proofs.Common.{inl, inr, refl, sym, subst, arith}
use Rattle.std.specs.List.{flat_map}
use Rattle.std.specs.Ordering.{is_eq}
use Rattle.sqlite_rules.specs.Action.{works}
use Rattle.sqlite_schema.specs.declared.schema.Action.TheVariants.{NoAction}
use Rattle.sqlite_schema.specs.declared.schema.Keys.TheVariants.{Enforced}
use Rattle.sqlite_trees.specs.Tree.{Trees}
use Rattle.sqlite_value.specs.Order.{Row}
use Rattle.mds_quantity.specs.declared.unit.Unit.{Unit as MeasureUnit}
use Rattle.mds_world.specs.Facts.{Fact, head_at}
use Rattle.mds_world.specs.Facts.Fact.{HeadIs}
use Rattle.mds_world.specs.Lists.{Member}
use Rattle.mds_world.specs.StreamDays.{stream_day_cmp}
use Rattle.mds_world.specs.World.{World}
use Rattle.mds_world.specs.declared.facts.StreamDay.{StreamDay}
use Rattle.mds_tables.specs.Layouts.{IsHead, Layout, either, world_with}
use Rattle.mds_tables.specs.RowFacts.{detail_fact, natural_at, stream_in, text_at, unit_named}
use Rattle.mds_tables.specs.Tables.{form_tree, head_tree}
use Rattle.mds_pack_rows.specs.DailyLayout.{daily_own, only_daily, versions_packed}
use Rattle.mds_pack_rows.specs.DailyTables.{daydetails_then}
use Rattle.mds_pack_rows.specs.FormTables.{formed, forms, schema_4}
use Rattle.mds_pack_rows.specs.PackFacts.{pack_facts}
use Rattle.mds_pack_rows.specs.PackTables.{Behind}
use Rattle.mds_pack_rows.specs.PacksLayout.{HasPacks}

-- the stream and the day that a row begins with
abbrev pub day_in : Row → StreamDay
day_in row = record { stream = stream_in row; day = natural_at row 3 }

-- The unit that rows of mds_head say of the day that a row begins with: the unit of the first row of that day.
abbrev pub unit_in : List Row → Row → MeasureUnit
unit_in [] row = unit_named []
unit_in (head ∷ heads) row =
    if is_eq (stream_day_cmp (day_in head) (day_in row)) then unit_named (text_at head 5) else unit_in heads row

-- the head that a row of mds_form says, given rows of mds_head
abbrev pub form_fact : List Row → Row → Fact
form_fact heads row =
    HeadIs (head_at (stream_in row) (natural_at row 3) (natural_at row 4) (natural_at row 5) (unit_in heads row))

-- the heads that the rows of mds_form say
abbrev pub form_heads : Trees → List Fact
form_heads trees = map (form_fact (trees head_tree)) (trees form_tree)

-- ---- mds_form says only heads

pub only_forms : (heads rows : List Row) (fact : Fact) → Member fact (map (form_fact heads) rows) → IsHead fact
only_forms heads [] fact m = absurd m
only_forms heads (row ∷ rows) fact (inl is) = subst IsHead (sym is) tt
only_forms heads (row ∷ rows) fact (inr m) = only_forms heads rows fact m

-- ---- the layout

pub idle_forms : (tree : ℕ) (olds news : List Row) → works schema_4 Enforced 0 tree olds news ≡ []
idle_forms tree olds news = rw (either (length news == 0) NoAction)

-- mds_daydetail follows mds_pack, and mds_form follows that
abbrev pub forms_behind : Behind
forms_behind = record {
  more = daydetails_then forms;
  idle = idle_forms;
  behind = (omega arith, (omega arith, tt));
  indexes_behind = (omega arith, (omega arith, tt));
}

abbrev pub forms_layout : Layout
forms_layout = record {
  number = 4;
  more = formed;
  heads = form_heads;
  only_heads = λ trees. only_forms (trees head_tree) (trees form_tree);
  no_heads = λ trees _ none i. map (form_fact (trees head_tree)) (none.1.1.0 i);
  steady_heads = λ old new same more i. map (form_fact (same i)) (more.1.1.0 i);
  own = daily_own;
  only = only_daily;
  silent = λ trees _ none i. flat_map pack_facts (none.0 i) ++ map detail_fact (none.1.0 i);
  steady = λ old new _ same i. flat_map pack_facts (same.0 i) ++ map detail_fact (same.1.0 i);
  idle = idle_forms;
  behind = (omega arith, (omega arith, (omega arith, tt)));
  indexes_behind = (omega arith, (omega arith, (omega arith, tt)));
}

abbrev pub forms_packs : HasPacks forms_layout
forms_packs = record { rest = forms_behind; more = refl; versions = versions_packed }

-- The World that the rows of the tables name.
abbrev pub world_4 : Trees → World
world_4 = world_with forms_layout
